use Rattle.std.specs.Prelude.{ℕ, List, None, Some, true, ◌≡◌, ◌≢◌, ◌%◌, ◌≤◌, ◌<◌}
use Rattle.guest_base.specs.declared.limits.TheConstants.{PAGE_END, MAX_CPUS}
use Rattle.guest_base.specs.Ranges.{in_range}
use Rattle.guest_base.specs.declared.memory.PageState.TheVariants.{Pending}
use Rattle.event_core.specs.declared.boot.Boot.{Boot}
use Rattle.event_core.specs.declared.module_call.ModuleCall.{ModuleCall}
use Rattle.event_core.specs.MemoryRows.{page_state, is_pending}
use Rattle.event_core.specs.Runs.{state_in}
use Rattle.event_core.specs.Table.{is_unit}
use Rattle.event_core.specs.Units.{bit_of, bit_after, unit_first, unit_pages, is_marked}

-- What holds of a boot that a memory begins with: the pages of a set unit are pending at first, RAM
-- lies in memory, a unit is a power of two from 1 to 512 pages, the first one begins on a unit's
-- border, and there are at most 64 processors.
pub record IsBooted (boot : Boot) : Type 0 where
  pub pending : (unit page : ℕ) → bit_of boot.bits unit ≡ true
      → in_range (unit_first boot unit) (unit_pages boot) page ≡ true
      → state_in boot.ram page ≡ Some Pending
  pub low : (page : ℕ) → state_in boot.ram page ≢ None → page < PAGE_END
  pub some : 0 < unit_pages boot
  pub small : unit_pages boot ≤ 512
  pub unit_is : is_unit boot.unit ≡ true
  pub aligned : boot.base % boot.unit ≡ 0
  pub cpus : boot.cpus ≤ MAX_CPUS

-- a page of an unaccepted unit is unaccepted exactly where it is pending
abbrev pub MarksArePending : Boot → List ModuleCall → Type 0
MarksArePending boot calls =
    (unit page : ℕ) → bit_after boot calls unit ≡ true
    → in_range (unit_first boot unit) (unit_pages boot) page ≡ true
    → is_marked (bit_of boot.bits unit) calls page ≡ is_pending (page_state boot calls page)

-- the pages of an unaccepted unit are RAM
abbrev pub UnitsAreRam : Boot → List ModuleCall → Type 0
UnitsAreRam boot calls =
    (unit page : ℕ) → bit_after boot calls unit ≡ true
    → in_range (unit_first boot unit) (unit_pages boot) page ≡ true
    → state_in boot.ram page ≢ None
