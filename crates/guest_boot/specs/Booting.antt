use Rattle.std.specs.Prelude.{ℕ, List, [], ◌∷◌, ◌++◌, Option, None, Some, Bool, true, false, Result, Ok, Err, OnOk, ◌≡◌, ◌<◌, ◌≤◌, map, if◌then◌else◌}
use Rattle.guest_base.specs.declared.limits.TheConstants.{PAGE_END}
use Rattle.guest_base.specs.Counts.{Rose}
use Rattle.guest_base.specs.Ranges.{in_range}
use Rattle.guest_base.specs.declared.memory.HostRun.{HostRun}
use Rattle.guest_base.specs.declared.memory.Page.{Page}
use Rattle.guest_base.specs.declared.memory.Pages.{Pages}
use Rattle.guest_base.specs.declared.memory.PageRun.{PageRun}
use Rattle.guest_base.specs.declared.memory.Units.{Units}
use Rattle.guest_base.specs.declared.memory.PageState.TheVariants.{Pending, Accepted}
use Rattle.event_core.specs.declared.boot.Boot.{Boot}
use Rattle.event_core.specs.declared.module_call.ModuleCall.{ModuleCall}
use Rattle.event_core.specs.Boot.{runs_from, InTurn, IsFront, AcceptsPiece, Stage, StagePart, Early, PoolAccepted, BlockAccepted, pool_stages}
use Rattle.event_core.specs.Cut.{cut, pages_end}
use Rattle.event_core.specs.Calls.{SoundCalls}
use Rattle.event_core.specs.MemoryRows.{page_state}
use Rattle.event_core.specs.Runs.{state_in as first_state_of}
use Rattle.event_core.specs.Units.{bit_of, bit_after, unit_first, unit_pages, units_end}
use Rattle.page_module.specs.Spans.{Taken}
use Rattle.page_module.specs.States.{state_in}
use Rattle.page_module.specs.Tables.{Table}
use Rattle.accept_sizes.specs.Accepts.{Accepts}
use Rattle.memory_core.specs.Bitmaps.{BitsAfter}
use Rattle.memory_core.specs.Booted.{MarksArePending}
use Rattle.guest_boot.specs.declared.accept.Kept.{Kept}
use Rattle.guest_boot.specs.declared.fault.BootFault.{BootFault}
use Rattle.guest_boot.specs.declared.fault.BootFault.TheVariants.{PoolNoRoom, Module, NoMemory}

-- What is kept of a guest while it boots.

-- What is kept stands for the calls made so far: the states of pages and the bits of units are those after them, no page is out,
-- no bit is set that wasn't at first, and each call found its pages in the state that it needs.
pub record StandsAfter (boot : Boot) (done : List ModuleCall) (kept : Kept) : Type 0 where
  pub states : (page : ℕ) → state_in kept.table.runs page ≡ page_state boot done page
  pub none_out : kept.table.out ≡ []
  pub bits : BitsAfter boot done kept.bits
  pub marks : MarksArePending boot done
  pub held : (unit : ℕ) → bit_after boot done unit ≡ true → bit_of boot.bits unit ≡ true
  pub sound : SoundCalls (first_state_of boot.ram) done
  pub calls : kept.calls.items ≡ done

-- calls were made behind those before, and P holds of them
abbrev pub Grew : List ModuleCall → List ModuleCall → (List ModuleCall → Type 0) → Type 0
Grew before after P = (now : List ModuleCall) × (after ≡ before ++ now) × P now

-- calls of a part of boot that was left early: those up to the page at which it stopped, or where
-- memory ran out a front of them; the pool has a place before the first call
abbrev pub LeftBy : BootFault → (List ModuleCall → Option Page → Type 0) → List ModuleCall → Type 0
LeftBy PoolNoRoom Part now = ⊥
LeftBy (Module page) Part now = Part now (Some page)
LeftBy NoMemory Part now = IsFront Part now

-- calls of a part of boot, by the result of the work on it
abbrev pub EndedBy : {T : Type 0}
    → Result T BootFault → (List ModuleCall → Option Page → Type 0) → List ModuleCall → Type 0
EndedBy (Ok done) Part now = Part now None
EndedBy (Err fault) Part now = LeftBy fault Part now

-- A part of boot was worked on: the calls behind those before are the part's, and where it was done
-- what is kept stands for all.
pub record WorkedOn {T : Type 0} (boot : Boot) (Part : List ModuleCall → Option Page → Type 0)
    (before after : List ModuleCall) (kept : Kept) (result : Result T BootFault) : Type 0 where
  pub made : Grew before after (EndedBy result Part)
  pub stands : OnOk result (StandsAfter boot after kept)

-- the count of faults never falls, and rises where boot stopped at a page
pub record FaultsBy {T : Type 0} (before after : ℕ) (result : Result T BootFault) : Type 0 where
  pub kept : before ≤ after
  pub rose : (page : Page) → result ≡ Err (Module page) → Rose before after

-- an early piece, as it is kept, is accepted by sizes
abbrev pub AcceptsRunPiece :
    Boot → List ModuleCall → PageRun → List ModuleCall → Option Page → Type 0
AcceptsRunPiece boot before piece calls stop = AcceptsPiece boot before piece.pages calls stop

-- the stages of a boot, of the early pieces as they are kept
abbrev pub early_stages : List PageRun → List Stage
early_stages pieces = map (λ (piece : PageRun). Early piece.pages) pieces

abbrev pub stages_by : Boot → List PageRun → List Stage
stages_by boot pieces =
    early_stages pieces ++ pool_stages boot.pool ++ map BlockAccepted (cut boot)

-- each of the pages is accepted after calls
abbrev pub AreAccepted : Boot → List ModuleCall → Pages → Type 0
AreAccepted boot calls pages =
    (page : ℕ) → in_range pages.first pages.count page ≡ true
    → page_state boot calls page ≡ Some Accepted

-- the calls that accept the pool's range, behind those before, leave each page of it accepted
abbrev pub GetsAccepted : Boot → List ModuleCall → Pages → Type 0
GetsAccepted boot before pool =
    (now : List ModuleCall) → StagePart boot before (PoolAccepted pool) now None
    → AreAccepted boot (before ++ now) pool

-- so do those behind the calls for the early pieces
abbrev pub PoolGetsAccepted : Boot → List PageRun → Type 0
PoolGetsAccepted boot pieces =
    (pool : Pages) → boot.pool ≡ Some pool
    → (early : List ModuleCall) → InTurn (AcceptsRunPiece boot) [] pieces early None
    → GetsAccepted boot early pool

-- there are such pages, and they end within memory
pub record LieInMemory (pages : Pages) : Type 0 where
  pub some : 0 < pages.count
  pub end : pages_end pages ≤ PAGE_END

-- the runs of units that pass a test, among some
abbrev pub runs_in : (ℕ → Bool) → Option Units → List Units
runs_in test None = []
runs_in test (Some units) = runs_from test units.count units.first (units_end units)

-- pages that are pending at first, of which none is one of an unaccepted unit
pub record IsEarly (boot : Boot) (pages : Pages) : Type 0 where
  pub pending : (page : ℕ) → in_range pages.first pages.count page ≡ true → first_state_of boot.ram page ≡ Some Pending
  pub apart : (unit page : ℕ) → bit_of boot.bits unit ≡ true → in_range (unit_first boot unit) (unit_pages boot) page ≡ true → in_range pages.first pages.count page ≡ false

-- the pages were taken out of the table, and are out in the span after the calls that accepted those that were pending
pub record AcceptedOut (hosts : List HostRun) (old new : Table) (pages : Pages) (span : Taken) (calls : List ModuleCall) : Type 0 where
  pub taken : Taken
  pub pages_are : taken.ticket.pages ≡ pages
  pub states : (page : ℕ) → state_in taken.runs page ≡ (if in_range pages.first pages.count page then state_in old.runs page else None)
  pub rest : (page : ℕ) → state_in new.runs page ≡ (if in_range pages.first pages.count page then None else state_in old.runs page)
  pub out : new.out ≡ taken.ticket ∷ []
  pub accepts : Accepts hosts taken span calls
