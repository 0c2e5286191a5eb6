use Rattle.std.proofs.Common.{◌≡◌, map, take}
use Rattle.std.specs.List.{flat_map}
use Rattle.event_core.specs.Stub.{early_of}
use Rattle.unaccepted_bitmap.specs.StubMap.{pending_run}
use Rattle.unaccepted_bitmap.proofs.stub.early.Given as goal

abbrev pub invariant-loop-d : goal.invariant-loop-d
invariant-loop-d l = l.pieces.items ≡ map pending_run (flat_map early_of (take l.d-index l.d-items))
