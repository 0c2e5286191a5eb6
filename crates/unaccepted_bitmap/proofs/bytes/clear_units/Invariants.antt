use Rattle.std.proofs.Common.{◌-◌}
use Rattle.unaccepted_bitmap.specs.BitmapValue.{ClearsBits}
use Rattle.unaccepted_bitmap.proofs.bytes.clear_units.Given as goal

abbrev pub invariant-loop-unit : goal.invariant-loop-unit
invariant-loop-unit l = ClearsBits l.initial.bytes.items l.bytes.items (record { first = l.fn.units.first; count = l.unit - l.fn.units.first })
