use Rattle.std.proofs.Common.{◌≡◌, length, ap, ◌∙◌, get_or, arith}
use Rattle.std.proofs.lemmas.Bool.{ne_eqb}
use Rattle.std.proofs.lemmas.List.{with_items_is}
use Rattle.io_slots.specs.FreeCounts.{zero_at}
use Rattle.io_slots.proofs.CountLemmas.{flag_at}
use Rattle.io_slots.proofs.Slots.new.Goals as goal

pub returns-clause-free : goal.returns-clause-free
returns-clause-free c = λ k low.
    let v = c.in_ok-counts.counts in
    let made = c.count_all.new.counts in
    let size : length made ≡ c.args.count = omega (arith, c.in_ok-counts.ensures.len) in
    let e = with_items_is v made (omega (arith, c.in_ok-counts.ensures.len)) in
    let counted = c.count_all.ensures k (omega arith) in
    flag_at _ k ∙ ap (λ s. zero_at s k) e ∙ ne_eqb (get_or made k 0) 0 (λ none. absurd (omega (arith, none, counted)))
