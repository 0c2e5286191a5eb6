-- The states of pages, by runs of pages of one state.
use Rattle.std.specs.Prelude.{◌≡◌, ℕ, List, Some, true, if◌then◌else◌}
use Rattle.guest_base.specs.Ranges.{in_range}
pub use Rattle.event_core.specs.Runs.{state_in}
use Rattle.guest_base.specs.declared.memory.PageRun.{PageRun}
use Rattle.guest_base.specs.declared.memory.PageState.{PageState}

-- every page of a range has a state
abbrev pub AllIn : PageState → List PageRun → ℕ → ℕ → Type 0
AllIn state runs first count =
    (page : ℕ) → in_range first count page ≡ true → state_in runs page ≡ Some state

-- these pages have a state now, and every other page has its state as before
abbrev pub BecomesIn : PageState → List PageRun → List PageRun → ℕ → ℕ → Type 0
BecomesIn state old new first count =
    (page : ℕ)
    → state_in new page ≡ (if in_range first count page then Some state else state_in old page)
