-- The page table: which pages are in, with their states, and which are out.
use Rattle.std.specs.Prelude.{◌≡◌, ◌≢◌, ℕ, ◌-◌, ◌<◌, ◌≤◌, ◌==◌, ◌&&◌, ◌||◌, List, [], ◌∷◌, Option, None, Some, Bool, true, false, not, if◌then◌else◌}
use Rattle.std.specs.List.{list_any}
use Rattle.guest_base.specs.Ranges.{in_range}
use Rattle.guest_base.specs.Search.{count_such}
use Rattle.guest_base.specs.declared.limits.TheConstants.{PAGE_END}
use Rattle.guest_base.specs.declared.memory.Pages.{Pages}
use Rattle.guest_base.specs.declared.memory.PageRun.{PageRun}
use Rattle.guest_base.specs.declared.memory.PageState.{PageState}
use Rattle.guest_base.specs.declared.memory.PageState.TheVariants.{Pending, Accepted, Shared}
use Rattle.event_core.specs.Runs.{run_end, state_in}
use Rattle.page_module.specs.declared.ticket.Ticket.{Ticket}

-- a page table: the runs of the pages that are in, the tickets of the spans that are out, and the
-- room left, in pieces
pub record Table : Type 0 where
  pub runs : List PageRun
  pub out : List Ticket
  pub room : ℕ

-- runs rise from a page on and don't meet, none is empty, and each ends within memory
abbrev pub Rising : ℕ → List PageRun → Type 0
Rising from [] = Unit {0}
Rising from (run ∷ runs) =
    (from ≤ run.pages.first) × (0 < run.pages.count) × (run_end run ≤ PAGE_END)
    × Rising (run_end run) runs

-- every page that has a state lies within memory
abbrev pub AreLow : List PageRun → Type 0
AreLow runs = (page : ℕ) → state_in runs page ≢ None → page < PAGE_END

-- runs that touch differ in their states
abbrev pub Differing : List PageRun → Type 0
Differing [] = Unit {0}
Differing (run ∷ []) = Unit {0}
Differing (run ∷ next ∷ runs) =
    (run_end run ≡ next.pages.first → run.state ≢ next.state) × Differing (next ∷ runs)

-- whether two states are the same
abbrev pub same_state : PageState → PageState → Bool
same_state Pending Pending = true
same_state Accepted Accepted = true
same_state Shared Shared = true
same_state a b = false

abbrev pub same_or_none : Option PageState → Option PageState → Bool
same_or_none None None = true
same_or_none (Some a) (Some b) = same_state a b
same_or_none a b = false

-- whether a run of one state begins at a page, among the pages from a first one on
abbrev pub begins_run : (ℕ → Option PageState) → ℕ → ℕ → Bool
begins_run states first page =
    (page == first) || not (same_or_none (states page) (states (page - 1)))

-- how many runs of one state are among the pages
abbrev pub run_count : (ℕ → Option PageState) → Pages → ℕ
run_count states pages = count_such (begins_run states pages.first) pages.first pages.count

-- whether two tickets are the same
abbrev pub same_ticket : Ticket → Ticket → Bool
same_ticket a b =
    ((a.pages.first == b.pages.first) && (a.pages.count == b.pages.count))
    && ((a.runs == b.runs) && (a.room == b.room))

-- whether a ticket is among those of the spans that are out
abbrev pub is_out : List Ticket → Ticket → Bool
is_out out ticket = list_any (λ other. same_ticket other ticket) out

-- the tickets without the first of a kind
abbrev pub without : Ticket → List Ticket → List Ticket
without ticket [] = []
without ticket (other ∷ out) = if same_ticket other ticket then out else other ∷ without ticket out

-- two ranges of pages have no page in common
abbrev pub Apart : Pages → Pages → Type 0
Apart a b = (page : ℕ) → in_range a.first a.count page ≡ true → in_range b.first b.count page ≢ true
