use Rattle.std.proofs.Common.{◌≡◌, ◌-◌}
use Rattle.guest_base.specs.Search.{first_such}
use Rattle.event_core.specs.Units.{bit_of}
use Rattle.unaccepted_bitmap.proofs.bytes.first_set.Given as goal

abbrev pub invariant-loop-unit : goal.invariant-loop-unit
invariant-loop-unit l = first_such (bit_of l.bytes) l.from (l.end - l.from) ≡ first_such (bit_of l.bytes) l.unit (l.end - l.unit)
