use Rattle.std.proofs.Common.{◌≡◌, drop}
use Rattle.guest_boot.specs.Placing.{place_in}
use Rattle.guest_boot.proofs.place.place_in.Given as goal

abbrev pub invariant-loop-range : goal.invariant-loop-range
invariant-loop-range l = place_in l.size (drop l.range-index l.ranges) ≡ place_in l.size l.ranges
