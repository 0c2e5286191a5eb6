-- What becomes of the runs of a span.
use Rattle.std.specs.Prelude.{◌≢◌, ℕ, ◌+◌, ◌-◌, ◌≤◌, ◌<◌, List, [], ◌∷◌, Option, None, Some, min, max, nat_lt, not, Bool, true, false, if◌then◌else◌}
use Rattle.guest_base.specs.Ranges.{in_range}
use Rattle.guest_base.specs.declared.limits.TheConstants.{PAGE_END}
use Rattle.guest_base.specs.declared.memory.Pages.{Pages}
use Rattle.guest_base.specs.declared.memory.PageState.{PageState}
use Rattle.guest_base.specs.declared.memory.PageState.TheVariants.{Pending, Accepted, Shared}
use Rattle.event_core.specs.Runs.{run_end, state_in}
use Rattle.page_module.specs.States.{AllIn}
use Rattle.page_module.specs.Spans.{Taken}
use Rattle.page_module.specs.declared.span.TakenRun.{TakenRun}

-- a taken run in which every page has a state
abbrev pub all_in_state : PageState → TakenRun → TakenRun
all_in_state state taken =
    record { run = record { pages = taken.run.pages; state = state }; accepted = 0 }

-- the first page of the rest, of which none was accepted since
abbrev pub rest_first : TakenRun → ℕ
rest_first taken = taken.run.pages.first + taken.accepted

-- a taken run in which the pages of a range are accepted, where the range holds the first page of
-- the rest
abbrev pub accepted_in : Pages → TakenRun → TakenRun
accepted_in pages taken =
    record {
      run = taken.run;
      accepted =
          if in_range pages.first pages.count (rest_first taken)
          then min (run_end taken.run) (pages.first + pages.count) - taken.run.pages.first
          else taken.accepted;
    }

-- the first maximal run of pending pages among the pages from one on
pub record IsFirstPending (span : Taken) (from : ℕ) (run : Pages) : Type 0 where
  pub some : 0 < run.count
  pub from_on : from ≤ run.first
  pub first : (page : ℕ) → from ≤ page → page < run.first → state_in span.runs page ≢ Some Pending
  pub pending : AllIn Pending span.runs run.first run.count
  pub maximal : state_in span.runs (run.first + run.count) ≢ Some Pending

-- no page from one on is pending
abbrev pub NonePending : Taken → ℕ → Type 0
NonePending span from = (page : ℕ) → from ≤ page → state_in span.runs page ≢ Some Pending

-- a taken run that ends within memory, of which no more pages were accepted than it has
abbrev pub EndsInMemory : TakenRun → Type 0
EndsInMemory taken = (taken.accepted ≤ taken.run.pages.count) × (run_end taken.run ≤ PAGE_END)

-- whether a state is Pending
abbrev pub is_pending : PageState → Bool
is_pending Pending = true
is_pending Accepted = false
is_pending Shared = false

-- whether a page has a state that is Pending, or one that isn't
abbrev pub hits : Bool → Option PageState → Bool
hits pending None = false
hits pending (Some state) = if pending then is_pending state else not (is_pending state)

-- the first number of a range at or after a number
abbrev pub first_from : ℕ → ℕ → ℕ → Option ℕ
first_from first count from =
    if nat_lt (max first from) (first + count) then Some (max first from) else None

-- the first page at or after a page, in the part of a taken run that was accepted since, and in the
-- rest
abbrev pub first_in_accepted : Bool → ℕ → TakenRun → Option ℕ
first_in_accepted pending from taken =
    if pending then None else first_from taken.run.pages.first taken.accepted from

abbrev pub first_in_rest : Bool → ℕ → TakenRun → Option ℕ
first_in_rest pending from taken =
    if hits pending (Some taken.run.state)
    then first_from (rest_first taken) (taken.run.pages.count - taken.accepted) from
    else None

abbrev pub first_in : Bool → ℕ → TakenRun → Option ℕ
first_in pending from taken =
    elim (first_in_accepted pending from taken) as (λ _. Option ℕ)
    [ Some page ↦ Some page | None ↦ first_in_rest pending from taken ]

-- the same in the first taken run that has such a page
abbrev pub first_page : Bool → ℕ → List TakenRun → Option ℕ
first_page pending from [] = None
first_page pending from (taken ∷ rest) =
    elim (first_in pending from taken) as (λ _. Option ℕ)
    [ Some page ↦ Some page | None ↦ first_page pending from rest ]
