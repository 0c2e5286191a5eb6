use Rattle.std.specs.Prelude.{ℕ, List, ◌∷◌, ◌++◌, None, Some, true, ◌≡◌, ◌⊎◌, slice_get}
use Rattle.std.specs.List.{list_any}
use Rattle.guest_base.specs.Ranges.{in_range}
use Rattle.guest_base.specs.declared.memory.Pages.{Pages}
use Rattle.guest_base.specs.declared.memory.PageState.TheVariants.{Accepted, Shared}
use Rattle.event_core.specs.declared.boot.Boot.{Boot}
use Rattle.event_core.specs.declared.command.Command.{Command}
use Rattle.event_core.specs.declared.entry.Entry.{Entry}
use Rattle.event_core.specs.Calls.{calls_of}
use Rattle.event_core.specs.MemoryRows.{page_state}
use Rattle.event_core.specs.Absent.{is_absent}
use Rattle.event_core.specs.Own.{script_of}
use Rattle.event_core.specs.Touches.{touched_by, strayed_into}
use Rattle.event_core.specs.Before.{own_before}

-- the pages that an entry touches after entries before it
abbrev pub touched_pages : Boot → List (List Command) → List Entry → Entry → List Pages
touched_pages boot scripts before entry =
    touched_by boot (own_before boot scripts before entry) (slice_get (script_of scripts entry.cpu.0) entry.cmd) entry.event

-- a page of the ranges
abbrev pub among : List Pages → ℕ → Type 0
among ranges page = list_any (λ (pages : Pages). in_range pages.first pages.count page) ranges ≡ true

-- the page that a load strays into isn't RAM, is absent, or is accepted or shared
abbrev pub StraysSafely : Boot → List Entry → ℕ → Type 0
StraysSafely boot before page =
    (page_state boot (calls_of boot before) page ≡ None)
    ⊎ (is_absent before page ≡ true)
    ⊎ (page_state boot (calls_of boot before) page ≡ Some Accepted)
    ⊎ (page_state boot (calls_of boot before) page ≡ Some Shared)

-- No pending page is touched: each page that an entry touches is accepted after the entries before it, and so is the page that a
-- load strays into, unless it is shared, absent or no RAM.
pub record Untouched (boot : Boot) (scripts : List (List Command)) (entries : List Entry) : Type 0 where
  pub touched : (before later : List Entry) (entry : Entry) → entries ≡ before ++ entry ∷ later → (page : ℕ) → among (touched_pages boot scripts before entry) page → page_state boot (calls_of boot before) page ≡ Some Accepted
  pub strayed : (before later : List Entry) (entry : Entry) → entries ≡ before ++ entry ∷ later → (page : ℕ) → strayed_into entry.event ≡ Some page → StraysSafely boot before page
