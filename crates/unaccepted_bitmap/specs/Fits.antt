use Rattle.std.specs.Prelude.{ℕ, List, Option, None, Some, Bool, true, ◌≡◌, ◌&&◌, not, if◌then◌else◌}
use Rattle.std.specs.Option.{option_or}
use Rattle.guest_base.specs.Ranges.{in_range}
use Rattle.guest_base.specs.declared.memory.Pages.{Pages}
use Rattle.guest_base.specs.declared.memory.PageRun.{PageRun}
use Rattle.guest_base.specs.declared.memory.PageState.{PageState}
use Rattle.guest_base.specs.declared.memory.PageState.TheVariants.{Pending, Accepted, Shared}
use Rattle.event_core.specs.declared.boot.Descriptor.{Descriptor}
use Rattle.event_core.specs.Map.{unaccepted_page}
use Rattle.event_core.specs.Runs.{state_in, run_end, run_holds, AreMaximalRuns}
use Rattle.event_core.specs.Table.{Bits, marks_page, is_unaccepted_unit}
use Rattle.event_core.specs.Units.{bit_of}
use Rattle.guest_map.specs.Ram.{AreBelow}

-- Tables and maps: units in unaccepted memory, and the pages that a table leaves pending.

-- the pages are unaccepted
abbrev pub AreUnaccepted : List Descriptor → Pages → Type 0
AreUnaccepted map pages = (page : ℕ) → in_range pages.first pages.count page ≡ true → unaccepted_page map page ≡ true

-- a unit whose bit is set, and which doesn't lie in unaccepted memory
abbrev pub is_bad : List Descriptor → Bits → ℕ → Bool
is_bad map table unit = bit_of table.bits unit && not (is_unaccepted_unit map table unit)

-- the state that a table leaves a page which has a state by the map
abbrev pub state_by : Bits → ℕ → PageState → PageState
state_by table page Pending = if marks_page table page then Pending else Accepted
state_by table page Accepted = Accepted
state_by table page Shared = Shared

-- the state that a table leaves a page of a run by the map; other pages have none
abbrev pub cut_state : Bits → PageRun → ℕ → Option PageState
cut_state table run page = if run_holds page run then Some (state_by table page run.state) else None

-- the maximal runs of the pages of runs, and of those of a run behind them, by the table
pub record IsCut (table : Bits) (old : List PageRun) (run : PageRun) (new : List PageRun) : Type 0 where
  pub maximal : AreMaximalRuns (state_in new) new
  pub below : AreBelow (run_end run) new
  pub each : (page : ℕ) → state_in new page ≡ option_or (state_in old page) (cut_state table run page)
