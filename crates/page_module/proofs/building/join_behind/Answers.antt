use Rattle.std.proofs.Common.{ap, not}
use Rattle.std.proofs.lemmas.Bool.{le-ltb}
use Rattle.page_module.proofs.RoomLemmas.{filter-room}
use Rattle.page_module.proofs.building.join_behind.Goals as goal

pub join-requires-clause-room : goal.join-requires-clause-room
join-requires-clause-room c =
    filter-room _ _ _ _ _ _ _ _ c.loop-run-test.true (ap not (le-ltb _ _ c.if-run-first.true)) c.loop-run.invariant.len (rw c.deref-run-items.ensures.value c.requires.room) c.loop-run.invariant.capacity
