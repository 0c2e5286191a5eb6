use Rattle.std.proofs.Common.{◌-◌}
use Rattle.unaccepted_bitmap.specs.BitmapValue.{SetsBits}
use Rattle.unaccepted_bitmap.proofs.bytes.set_units.Given as goal

abbrev pub invariant-loop-unit : goal.invariant-loop-unit
invariant-loop-unit l =
    SetsBits l.initial.bytes.items l.bytes.items (record { first = l.fn.units.first; count = l.unit - l.fn.units.first })
