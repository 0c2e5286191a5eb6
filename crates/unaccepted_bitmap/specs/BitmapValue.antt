use Rattle.std.specs.Prelude.{ℕ, List, Bool, false, Option, None, Some, ◌≡◌, ◌||◌, length, if◌then◌else◌}
use Rattle.guest_base.specs.Ranges.{in_range}
use Rattle.guest_base.specs.Search.{any_such}
use Rattle.guest_base.specs.declared.memory.Units.{Units}
use Rattle.event_core.specs.Units.{unit_count, bit_of, guarded}
use Rattle.event_core.specs.Table.{Bits}

-- the guarded units of len bytes from the address start on
abbrev pub guarded_in : Bits → ℕ → ℕ → Option Units
guarded_in b start len = guarded b.unit b.base (unit_count b.bits) start len

-- whether one of the units passes a test
abbrev pub any_unit : (ℕ → Bool) → Option Units → Bool
any_unit test None = false
any_unit test (Some units) = any_such test units.first units.count

-- these bits become clear and no other changes
pub record ClearsBits (old new : List ℕ) (units : Units) : Type 0 where
  pub size : length new ≡ length old
  pub each : (unit : ℕ) → bit_of new unit ≡ (if in_range units.first units.count unit then false else bit_of old unit)

-- these bits become set and no other changes
pub record SetsBits (old new : List ℕ) (units : Units) : Type 0 where
  pub size : length new ≡ length old
  pub each : (unit : ℕ) → bit_of new unit ≡ (bit_of old unit || in_range units.first units.count unit)
