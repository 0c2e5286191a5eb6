-- How the runs of a page table are made.
use Rattle.std.specs.Prelude.{◌≡◌, ℕ, ◌+◌, ◌-◌, ◌*◌, ◌≤◌, ◌==◌, ◌&&◌, List, [], ◌∷◌, ◌++◌, Bool, true, None, All, filter, max, min, nat_lt, not, if◌then◌else◌}
use Rattle.std.specs.List.{flat_map}
use Rattle.guest_base.specs.Ranges.{in_range}
use Rattle.guest_base.specs.declared.limits.TheConstants.{PAGE_END}
use Rattle.guest_base.specs.declared.memory.Pages.{Pages}
use Rattle.guest_base.specs.declared.memory.PageRun.{PageRun}
use Rattle.guest_base.specs.declared.memory.PageState.TheVariants.{Accepted}
use Rattle.event_core.specs.Runs.{run_end, state_in, grown}
use Rattle.page_module.specs.Tables.{same_state, Apart}
use Rattle.page_module.specs.declared.span.TakenRun.{TakenRun}
use Rattle.page_module.specs.declared.ticket.Ticket.{Ticket}

-- a run goes on where another ends, in the same state
abbrev pub continues : PageRun → PageRun → Bool
continues last run = (run_end last == run.pages.first) && same_state last.state run.state

-- a run and the next one, which becomes part of it where it goes on in its state
abbrev pub both : PageRun → PageRun → List PageRun
both last run = if continues last run then grown last run ∷ [] else last ∷ (run ∷ [])

-- runs with one more at the end, which becomes part of the last one where it goes on in its state
abbrev pub joined : List PageRun → PageRun → List PageRun
joined [] run = run ∷ []
joined (last ∷ []) run = both last run
joined (first ∷ second ∷ runs) run = first ∷ joined (second ∷ runs) run

-- the part of a run before some pages, and the part behind them, where there are any
abbrev pub part : PageRun → ℕ → ℕ → List PageRun
part run first end =
    if nat_lt first end
    then record { pages = record { first = first; count = end - first }; state = run.state } ∷ []
    else []

abbrev pub cut : Pages → PageRun → List PageRun
cut pages run =
    part run run.pages.first (min (run_end run) pages.first)
    ++ part run (max run.pages.first (pages.first + pages.count)) (run_end run)

-- what a span gets of a run
abbrev pub common : Pages → PageRun → List TakenRun
common pages run =
    let first = max run.pages.first pages.first in
    let end = min (run_end run) (pages.first + pages.count) in
    if nat_lt first end
    then
    record {
      run = record { pages = record { first = first; count = end - first }; state = run.state };
      accepted = 0;
    } ∷ []
    else []

-- whether a run begins before a page
abbrev pub begins_before : ℕ → PageRun → Bool
begins_before first run = nat_lt run.pages.first first

-- a run ends within memory
abbrev pub RunEnds : PageRun → Type 0
RunEnds run = run_end run ≤ PAGE_END

-- the runs of a taken run: the pages accepted since, and the rest
abbrev pub parts : TakenRun → List PageRun
parts taken =
    let rest = taken.run.pages.first + taken.accepted in
    part (record { pages = taken.run.pages; state = Accepted }) taken.run.pages.first rest
    ++ part taken.run rest (run_end taken.run)

-- a table's runs with those of a span among them, which begin at a page
abbrev pub placed : ℕ → List PageRun → List TakenRun → List PageRun
placed first runs taken =
    (filter (begins_before first) runs ++ flat_map parts taken)
    ++ filter (λ run. not (begins_before first run)) runs

-- the places that a table keeps for a span that is out
abbrev pub places : Ticket → ℕ
places ticket = 2 * ticket.runs + ticket.room

-- the spans that are out share no page with one another nor with the runs that are in
abbrev pub AllOut : List PageRun → List Ticket → Type 0
AllOut runs [] = Unit {0}
AllOut runs (ticket ∷ out) =
    ((page : ℕ) → in_range ticket.pages.first ticket.pages.count page ≡ true
    → state_in runs page ≡ None)
    × All (λ (other : Ticket). Apart ticket.pages other.pages) out × AllOut runs out
