-- Pages that are taken out of the page table.
use Rattle.std.specs.Prelude.{◌≡◌, ◌≢◌, ℕ, ◌+◌, ◌≤◌, ◌<◌, List, [], ◌∷◌, Some}
use Rattle.guest_base.specs.declared.limits.TheConstants.{PAGE_END}
use Rattle.guest_base.specs.declared.memory.Pages.{Pages}
use Rattle.guest_base.specs.declared.memory.PageRun.{PageRun}
use Rattle.guest_base.specs.declared.memory.PageState.{PageState}
use Rattle.guest_base.specs.declared.memory.PageState.TheVariants.{Pending, Accepted}
use Rattle.event_core.specs.Cut.{pages_end}
use Rattle.event_core.specs.Runs.{state_in}
use Rattle.page_module.specs.States.{AllIn, BecomesIn}
use Rattle.page_module.specs.declared.ticket.Ticket.{Ticket}
use Rattle.page_module.specs.declared.span.TakenRun.{TakenRun}

-- pages, where there are any, end within memory
abbrev pub LieInMemory : Pages → Type 0
LieInMemory pages = 0 < pages.count → pages_end pages ≤ PAGE_END

-- a span: which pages it has and by which taking, and their states by runs
pub record Taken : Type 0 where
  pub ticket : Ticket
  pub runs : List PageRun

-- the runs of a span: of each run that was taken the pages accepted since, and the rest
abbrev pub runs_now : List TakenRun → List PageRun
runs_now [] = []
runs_now (taken ∷ rest) =
    record {
      pages = record { first = taken.run.pages.first; count = taken.accepted };
      state = Accepted;
    } ∷ (taken.run ∷ runs_now rest)

-- the runs that were taken follow one another from a page to an end, none is empty, and no more
-- pages were accepted than a run has
abbrev pub RunsFrom : ℕ → ℕ → List TakenRun → Type 0
RunsFrom first end [] = first ≡ end
RunsFrom first end (taken ∷ rest) =
    (taken.run.pages.first ≡ first) × (0 < taken.run.pages.count)
    × (taken.accepted ≤ taken.run.pages.count)
    × RunsFrom (first + taken.run.pages.count) end rest

-- every page of the span has a state
abbrev pub SpanIs : PageState → Taken → Type 0
SpanIs state span = AllIn state span.runs span.ticket.pages.first span.ticket.pages.count

-- a maximal run of pending pages of the span begins at a page, and these pages lie in it
pub record BeginsPending (span : Taken) (first count : ℕ) : Type 0 where
  pub pending : AllIn Pending span.runs first count
  pub maximal : (page : ℕ) → page + 1 ≡ first → state_in span.runs page ≢ Some Pending

-- the span has the same pages, of the same taking; these have a state now, and every other page has
-- its state as before
pub record Becomes (state : PageState) (old new : Taken) (first count : ℕ) : Type 0 where
  pub ticket : new.ticket ≡ old.ticket
  pub states : BecomesIn state old.runs new.runs first count
