use Rattle.std.proofs.Common.{All}
use Rattle.page_module.specs.Marking.{EndsInMemory}
use Rattle.page_module.proofs.MapLemmas.{map_step, map_rest}
use Rattle.std.proofs.lemmas.List.Elements.{All-get_or}
use Rattle.page_module.proofs.span.accept_pages.Goals as goal

pub loop-taken-preserved : goal.loop-taken-preserved
loop-taken-preserved c = map_step _ _ _ _ _ _ c.loop-taken-test.true c.loop-taken.auto.taken-items c.loop-taken.invariant c.with_accepted.ensures

pub with_accepted-requires-clause-run : goal.with_accepted-requires-clause-run
with_accepted-requires-clause-run c =
    rw (map_rest _ _ _ _ _ c.loop-taken-test.true c.loop-taken.invariant)
    (let h : All EndsInMemory c.deref_mut-taken-items.result.now = rw c.deref_mut-taken-items.ensures.value c.requires.runs in
    All-get_or EndsInMemory _ _ _ c.loop-taken-test.true h)
