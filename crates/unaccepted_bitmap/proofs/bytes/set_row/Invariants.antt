use Rattle.std.proofs.Common.{◌≡◌, ◌+◌, ◌-◌}
use Rattle.guest_base.specs.Search.{row_length}
use Rattle.event_core.specs.Units.{bit_of}
use Rattle.unaccepted_bitmap.proofs.bytes.set_row.Given as goal

abbrev pub invariant-loop-unit : goal.invariant-loop-unit
invariant-loop-unit l =
    row_length (bit_of l.bytes) l.from (l.end - l.from) ≡ l.unit - l.from + row_length (bit_of l.bytes) l.unit (l.end - l.unit)
