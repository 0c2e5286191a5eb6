use Rattle.std.proofs.Common.{subst, sym, ap, ◌∙◌, rules}
use Rattle.std.proofs.lemmas.List.Sorted.{answers_always}
use Rattle.event_core.specs.Turns.{entries_by}
use Rattle.event_core.specs.Locally.{Rising}
use Rattle.guest_history.proofs.GatherLemmas.{sorted-rises, sorted-by}
use Rattle.guest_history.proofs.AgreeLemmas.{gathered-legal, gathered-whole}
use Rattle.guest_history.proofs.merging.gather.Goals as goal

pub returns-clause-rises : goal.returns-clause-rises
returns-clause-rises c =
    subst Rising (sym c.from_vec.ensures)
    (sorted-rises c.args.lists c.in_ok-entries.entries.items c.sort_by_key.new.self.items c.requires.named c.requires.rise c.in_ok-entries.ensures
    (c.in_ok-sort_by_key.ensures.sorted (λ e. e.stamp) (answers_always _ _ _ (λ f a r g h. search rules)))
    (c.sort_by_key.ensures.stable (λ e. e.stamp) (answers_always _ _ _ (λ f a r g h. search rules))))

pub returns-clause-entries : goal.returns-clause-entries
returns-clause-entries c =
    let kept = sorted-by c.args.lists c.in_ok-entries.entries.items c.sort_by_key.new.self.items c.requires.named c.requires.rise c.in_ok-entries.ensures
    (c.in_ok-sort_by_key.ensures.sorted (λ e. e.stamp) (answers_always _ _ _ (λ f a r g h. search rules)))
    (c.sort_by_key.ensures.stable (λ e. e.stamp) (answers_always _ _ _ (λ f a r g h. search rules)))
    in
    λ cpu. ap (entries_by cpu) c.from_vec.ensures ∙ kept cpu

pub returns-clause-legal : goal.returns-clause-legal
returns-clause-legal c = gathered-legal c.args.boot c.args.scripts c.args.lists c.from_vec.result (returns-clause-rises c) (returns-clause-entries c)

pub returns-clause-whole : goal.returns-clause-whole
returns-clause-whole c =
    λ kept made agree each all. gathered-whole c.args.boot c.args.scripts c.from_vec.result kept (returns-clause-legal c kept made agree each) all
