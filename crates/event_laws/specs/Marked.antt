use Rattle.std.specs.Prelude.{ℕ, Bool, ◌+◌, ◌*◌, ◌/◌}
use Rattle.guest_base.specs.declared.limits.TheConstants.{PAGE_BYTES}
use Rattle.guest_base.specs.Ranges.{in_range}
use Rattle.event_core.specs.Table.{Bits}

-- The pages of the units of a table.

-- whether a page lies in a unit of a table (after Linux's unaccepted table: units lie one behind
-- the other from the base on)
abbrev pub page_of_unit : Bits → ℕ → ℕ → Bool
page_of_unit table unit page = in_range (table.base / PAGE_BYTES + unit * (table.unit / PAGE_BYTES)) (table.unit / PAGE_BYTES) page
