use Rattle.page_module.proofs.RoomLemmas.{flat_map-room}
use Rattle.page_module.proofs.building.cut_out.Goals as goal

pub cut_run-requires-clause-room : goal.cut_run-requires-clause-room
cut_run-requires-clause-room c =
    flat_map-room _ _ _ _ _ _ _ _ c.loop-run-test.true c.loop-run.invariant.len (rw c.deref-run-items.ensures.value c.requires.room) c.loop-run.invariant.capacity
