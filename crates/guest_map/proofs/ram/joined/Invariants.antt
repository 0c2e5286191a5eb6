use Rattle.guest_map.proofs.Joining.{AreJoined}
use Rattle.guest_map.proofs.ram.joined.Given as goal

abbrev pub invariant-loop-next : goal.invariant-loop-next
invariant-loop-next l = AreJoined l.sorted l.next-index l.runs.items
