use Rattle.std.proofs.Common.{length, take}
use Rattle.unaccepted_bitmap.proofs.StubLemmas.{IsMarked}
use Rattle.unaccepted_bitmap.proofs.stub.set_whole_units.Given as goal

abbrev pub invariant-loop-d : goal.invariant-loop-d
invariant-loop-d l = IsMarked l.base (take l.d-index l.descriptors) (length l.initial.bits.items) l.bits.items
