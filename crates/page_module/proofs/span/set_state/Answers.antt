use Rattle.page_module.proofs.MapLemmas.{map_step}
use Rattle.page_module.proofs.span.set_state.Goals as goal

pub loop-taken-preserved : goal.loop-taken-preserved
loop-taken-preserved c = map_step _ _ _ _ _ _ c.loop-taken-test.true c.loop-taken.auto.taken-items c.loop-taken.invariant c.all_of.ensures
