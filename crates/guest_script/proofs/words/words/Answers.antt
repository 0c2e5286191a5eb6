use Rattle.std.proofs.Common.{rules, tests}
use Rattle.std.specs.Prelude.{◌==◌, not, length, List, ℕ}
use Rattle.std.proofs.lemmas.Iterator.Consumers.{map_from_collect, YieldsList-from_filter}
use Rattle.std.proofs.lemmas.Iterator.Splits.{YieldsList-from_slice_split}
use Rattle.guest_script.specs.Words.{is_blank}
use Rattle.guest_script.proofs.words.words.Goals as goal

pub returns : goal.returns
returns c =
    map_from_collect _ c.collect.ensures.ran
    (YieldsList-from_filter _ (λ (word : List ℕ). not (length word == 0))
    (YieldsList-from_slice_split _ is_blank c.args.line.now (cc) (cc) (cc) (λ x r q k. search (rules, tests)))
    c.filter.ensures.closure (λ x r q k. search (rules, tests)))
