use Rattle.std.specs.Prelude.{ℕ, List, [], ◌∷◌, Option, None, Some, Bool, false, ◌≡◌, ◌+◌, ◌*◌, ◌/◌, ◌<◌, length, slice_get, not, ◌&&◌, if◌then◌else◌}
use Rattle.guest_base.specs.declared.limits.TheConstants.{PAGE_BYTES, ADDRESS_END}
use Rattle.guest_base.specs.Ranges.{in_range}
use Rattle.guest_base.specs.Search.{any_such, count_such}
use Rattle.guest_base.specs.declared.memory.Pages.{Pages}
use Rattle.guest_base.specs.declared.memory.Units.{Units}
use Rattle.event_core.specs.declared.boot.Boot.{Boot}
use Rattle.event_core.specs.declared.module_call.ModuleCall.{ModuleCall}
use Rattle.event_core.specs.Units.{bit_of, bit_after, first_run, units_end}
use Rattle.accept_sizes.specs.declared.accept.RunEnd.{RunEnd}
use Rattle.accept_sizes.specs.declared.accept.RunEnd.TheVariants.{Whole, Stopped}
use Rattle.event_core.specs.Table.{Bits}
use Rattle.unaccepted_bitmap.specs.BitmapValue.{guarded_in}

-- The kept bitmap, where there is one.

-- a unit's bit; without a bitmap no unit is unaccepted
abbrev pub bits_in : Option Bits → ℕ → Bool
bits_in None unit = false
bits_in (Some b) unit = bit_of b.bits unit

-- the guarded units of a range
abbrev pub guarded_by : Option Bits → ℕ → ℕ → Option Units
guarded_by None start len = None
guarded_by (Some b) start len = guarded_in b start len

-- both, where both are there
abbrev pub both_or_none : Option Units → Option Units → Option (Units × Units)
both_or_none (Some units) (Some run) = Some (units, run)
both_or_none (Some units) None = None
both_or_none None run = None

-- whether one of the units passes a test
abbrev pub any_in : (ℕ → Bool) → Option Units → Bool
any_in test None = false
any_in test (Some units) = any_such test units.first units.count

-- the pages of a unit, and the first of them
abbrev pub unit_pages_of : Bits → ℕ
unit_pages_of b = b.unit / PAGE_BYTES

abbrev pub unit_first_of : Bits → ℕ → ℕ
unit_first_of b unit = b.base / PAGE_BYTES + unit * unit_pages_of b

-- of the units of a range those keep their bits in which a page is pending; no other bit changes
pub record ClearedBy (old new : Bits) (pending : ℕ → Bool) (first count : ℕ) : Type 0 where
  pub size : length new.bits ≡ length old.bits
  pub each : (unit : ℕ) → bit_of new.bits unit
      ≡ (if in_range first count unit
      then bit_of old.bits unit && any_such pending (unit_first_of old unit) (unit_pages_of old)
      else bit_of old.bits unit)

-- the kept bitmap is the boot's, but for the bits
abbrev pub SameBits : Boot → Option Bits → Type 0
SameBits boot None = boot.bits ≡ []
SameBits boot (Some b) =
    (b.unit ≡ boot.unit) × (b.base ≡ boot.base) × (length b.bits ≡ length boot.bits)

-- the bitmap says which units are unaccepted after calls
pub record BitsAfter (boot : Boot) (calls : List ModuleCall) (bits : Option Bits) : Type 0 where
  pub same : SameBits boot bits
  pub set : (unit : ℕ) → bits_in bits unit ≡ bit_after boot calls unit

-- the pages of a run of units
abbrev pub PagesOf : Option Bits → Units → Pages → Type 0
PagesOf None run pages = ⊥
PagesOf (Some b) run pages =
    (pages.first ≡ unit_first_of b run.first) × (pages.count ≡ run.count * unit_pages_of b)
    × (pages.first + pages.count < ADDRESS_END)

-- the number of a run's units without a pending page
abbrev pub cleared_count : Bits → (ℕ → Bool) → Units → ℕ
cleared_count b pending run =
    count_such (λ unit. not (any_such pending (unit_first_of b unit) (unit_pages_of b)))
    run.first run.count

-- of a run's units those without a pending page were cleared, this many of them
pub record ClearedRun (old new : Bits) (pending : ℕ → Bool) (run : Units)
    (cleared : ℕ) : Type 0 where
  pub unit : new.unit ≡ old.unit
  pub base : new.base ≡ old.base
  pub bits : ClearedBy old new pending run.first run.count
  pub count : cleared ≡ cleared_count old pending run

abbrev pub ClearedIn : Option Bits → Option Bits → (ℕ → Bool) → Units → ℕ → Type 0
ClearedIn (Some old) (Some new) pending run cleared = ClearedRun old new pending run cleared
ClearedIn None new pending run cleared = ⊥
ClearedIn (Some old) None pending run cleared = ⊥

-- the maximal runs of numbers that pass a test, from one on and below `end`, rising
abbrev pub AreRunsFrom : (ℕ → Bool) → ℕ → ℕ → List Units → Type 0
AreRunsFrom test from end [] = first_run test from end ≡ None
AreRunsFrom test from end (run ∷ runs) =
    (first_run test from end ≡ Some run) × AreRunsFrom test (units_end run) end runs

-- the run behind this many of a list, where the acceptance before it didn't stop
abbrev pub next_of : List Units → ℕ → RunEnd → Option Units
next_of runs opened Whole = slice_get runs opened
next_of runs opened (Stopped page) = None
