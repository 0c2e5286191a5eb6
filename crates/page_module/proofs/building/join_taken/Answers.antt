use Rattle.page_module.proofs.RoomLemmas.{flat_map-room}
use Rattle.page_module.proofs.building.join_taken.Goals as goal

pub join_parts-requires-clause-room : goal.join_parts-requires-clause-room
join_parts-requires-clause-room c =
    flat_map-room _ _ _ _ _ _ _ _ c.loop-run-test.true c.loop-run.invariant.len (rw c.deref-run-items.ensures.value c.requires.room) c.loop-run.invariant.capacity
