use Rattle.std.specs.Prelude.{ℕ, Bool, List, Option, ◌≡◌, ◌≢◌, ◌+◌, ◌<◌, ◌≤◌, find, All}
use Rattle.std.specs.List.{AllPairs}
use Rattle.std.specs.Option.{option_map}
use Rattle.guest_base.specs.Ranges.{in_range}
use Rattle.guest_base.specs.declared.memory.PageState.{PageState}
use Rattle.guest_base.specs.declared.memory.PageRun.{PageRun}

-- the page is one of the run's
abbrev pub run_holds : ℕ → PageRun → Bool
run_holds page run = in_range run.pages.first run.pages.count page

-- the page behind a run's last
abbrev pub run_end : PageRun → ℕ
run_end run = run.pages.first + run.pages.count

-- a run with the pages of the next one, which goes on where it ends
abbrev pub grown : PageRun → PageRun → PageRun
grown last next = record {
  pages = record { first = last.pages.first; count = last.pages.count + next.pages.count };
  state = last.state;
}

-- the state that a page has by runs: that of the first run that holds it, and none where no run does
abbrev pub state_in : List PageRun → ℕ → Option PageState
state_in runs page = option_map (λ (run : PageRun). run.state) (find (run_holds page) runs)

-- a run ends where a later one begins, or before that; where the later one goes on right behind it, the states differ
pub record GoesBefore (run later : PageRun) : Type 0 where
  pub ends : run_end run ≤ later.pages.first
  pub differs : run_end run ≡ later.pages.first → run.state ≢ later.state

-- The runs say each page's state; none is empty, they rise, and none could be longer: each is a maximal range of pages of one state.
pub record AreMaximalRuns (states : ℕ → Option PageState) (runs : List PageRun) : Type 0 where
  pub each : (page : ℕ) → state_in runs page ≡ states page
  pub some : All (λ (run : PageRun). 0 < run.pages.count) runs
  pub rise : AllPairs GoesBefore runs
