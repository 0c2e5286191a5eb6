-- RAM as runs of pages, descriptor by descriptor.
use Rattle.std.specs.Prelude.{ℕ, List, [], ◌∷◌, ◌++◌, ◌+◌, ◌/◌, ◌<◌, ◌≤◌, if◌then◌else◌, map, filter, All}
use Rattle.std.specs.List.{AllPairs}
use Rattle.guest_base.specs.declared.memory.PageState.TheVariants.{Pending, Accepted}
use Rattle.guest_base.specs.declared.memory.PageRun.{PageRun}
use Rattle.guest_base.specs.declared.limits.TheConstants.{PAGE_BYTES, PAGE_END}
use Rattle.event_core.specs.declared.boot.Descriptor.{Descriptor}
use Rattle.event_core.specs.Map.{is_ram, is_unaccepted}
use Rattle.event_core.specs.Runs.{run_end, state_in, AreMaximalRuns}

-- the pages of a descriptor of RAM, and their first state
abbrev pub run_of : Descriptor → PageRun
run_of d = record {
  pages = record { first = d.start / PAGE_BYTES; count = d.pages };
  state = if is_unaccepted d then Pending else Accepted;
}

-- the descriptors of RAM, as runs
abbrev pub ram_of : List Descriptor → List PageRun
ram_of ds = map run_of (filter is_ram ds)

-- a run ends where a later one begins, or before that
abbrev pub EndsBefore : PageRun → PageRun → Type 0
EndsBefore run later = run_end run ≤ later.pages.first

-- runs that have pages, end within memory and rise
pub record AreOrdered (runs : List PageRun) : Type 0 where
  pub some : All (λ (run : PageRun). 0 < run.pages.count) runs
  pub below : All (λ (run : PageRun). run_end run ≤ PAGE_END) runs
  pub rise : AllPairs EndsBefore runs

-- the runs end before a page
abbrev pub AreBelow : ℕ → List PageRun → Type 0
AreBelow page runs = All (λ (run : PageRun). run_end run ≤ page) runs

-- the maximal runs of the pages of runs and of one more behind them
pub record IsPushed (old : List PageRun) (next : PageRun) (new : List PageRun) : Type 0 where
  pub maximal : AreMaximalRuns (state_in (old ++ next ∷ [])) new
  pub below : AreBelow (run_end next) new
