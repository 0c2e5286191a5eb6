use Rattle.std.proofs.Common.{◌≡◌, ◌-◌, ◌*◌, ◌^◌}
use Rattle.std.specs.Prelude.{◌==◌}
use Rattle.guest_base.specs.Search.{any_such}
use Rattle.event_core.specs.Table.{is_unit}
use Rattle.unaccepted_bitmap.proofs.table.is_unit.Given as goal

abbrev pub invariant-loop-order : goal.invariant-loop-order
invariant-loop-order l = is_unit l.fn.unit ≡ any_such (λ order. l.fn.unit == 4096 * 2 ^ order) l.order (10 - l.order)
