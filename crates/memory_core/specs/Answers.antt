use Rattle.std.specs.Prelude.{ℕ, List, [], Option, None, Some, true, ◌≡◌, ◌≢◌, ◌+◌, ◌-◌, ◌<◌, ◌≤◌}
use Rattle.guest_base.specs.Ranges.{in_range}
use Rattle.guest_base.specs.declared.memory.Block.{Block}
use Rattle.guest_base.specs.declared.memory.Units.{Units}
use Rattle.event_core.specs.declared.entry.Turn.{Turn}
use Rattle.event_core.specs.declared.module_call.ModuleCall.{ModuleCall}
use Rattle.event_core.specs.Acceptance.{stop_of}
use Rattle.event_core.specs.Calls.{calls_of}
use Rattle.event_core.specs.Claims.{Claimed, claim_of, in_the_way}
use Rattle.event_core.specs.MemoryRows.{page_state, pages_first, pages_count, run_of_claim, next_run, cleared_by}
use Rattle.page_module.specs.Spans.{Taken}
use Rattle.page_module.specs.States.{state_in}
use Rattle.page_module.specs.Tables.{Table, is_out}
use Rattle.accept_sizes.specs.declared.accept.RunEnd.{RunEnd}
use Rattle.accept_sizes.specs.declared.accept.RunEnd.TheVariants as end
use Rattle.memory_core.specs.declared.memory.Begin.{Begin}
use Rattle.memory_core.specs.declared.memory.Begin.TheVariants.{Clear, Claimed as IsClaimed, Blocked}
use Rattle.memory_core.specs.declared.memory.Reported.{Reported}
use Rattle.memory_core.specs.declared.memory.Reported.TheVariants.{Next, Closed, Stopped}
use Rattle.memory_core.specs.Value.{MemoryValue, Handed, handed_to}
use Rattle.memory_core.specs.Steps.{IsInTable, IsOutFor}
use Rattle.memory_core.specs.Waiting.{waiting_left}

-- What the steps of the memory answer.

-- an open claim of the lowest processor that has one which meets the units
pub record IsMet (memory : MemoryValue) (units : Option Units) (met : Units) : Type 0 where
  pub cpu : ℕ
  pub claim : Claimed
  pub first : in_the_way memory.boot memory.entries units ≡ Some cpu
  pub claimed : claim_of memory.boot memory.entries cpu ≡ Some claim
  pub same : claim.units ≡ met

-- a step uses the room of one entry, and leaves what is out
pub record UsesOne (old new : MemoryValue) : Type 0 where
  pub out : new.out ≡ old.out
  pub room : new.room + 1 ≡ old.room

-- no room is left for a step, and what is out is as before
pub record LeavesNoRoom (old new : MemoryValue) : Type 0 where
  pub out : new.out ≡ old.out
  pub room : new.room ≡ 0

-- a claim without a run uses the room of one entry; one for a block leaves no room
abbrev pub UsesFor : Option Block → MemoryValue → MemoryValue → Type 0
UsesFor None old new = UsesOne old new
UsesFor (Some block) old new = LeavesNoRoom old new

-- the room that it leaves
abbrev pub room_after : Option Block → ℕ → ℕ
room_after None room = room - 1
room_after (Some block) room = 0

-- nothing is in the way, and a run is out as the first one of a claim; but for an entry and the
-- run, all room is the claim's
pub record Opens (old new : MemoryValue) (cpu : ℕ) (units : Option Units)
    (span : Taken) : Type 0 where
  pub run : Units
  pub free : in_the_way old.boot old.entries units ≡ None
  pub first : run_of_claim old.boot old.entries units ≡ Some run
  pub out : IsOutFor new cpu run span
  pub kept : out.room + run.count + 1 ≡ old.room
  pub left : new.room ≡ 0

-- a begun acceptance of guarded units, for a block or for none
abbrev pub BegunFor : MemoryValue → MemoryValue → Turn → Option Block → Option Units → Begin
    → Type 0
BegunFor old new turn block units Clear =
    (in_the_way old.boot old.entries units ≡ None)
    × (run_of_claim old.boot old.entries units ≡ None) × UsesFor block old new
BegunFor old new turn block units (IsClaimed span) = Opens old new turn.cpu.0 units span
BegunFor old new turn block units (Blocked met) = IsMet old units met

abbrev pub BegunBy : MemoryValue → MemoryValue → Turn → Option Units → Begin → Type 0
BegunBy old new turn units begin = BegunFor old new turn None units begin

abbrev pub IsBlocked : Begin → Type 0
IsBlocked Clear = ⊥
IsBlocked (IsClaimed span) = ⊥
IsBlocked (Blocked met) = Unit {0}

-- a claim goes on with its next run, for which its room is used
pub record GoesOn (old new : MemoryValue) (cpu : ℕ) (claim : Claimed)
    (calls : List ModuleCall) (span : Taken) : Type 0 where
  pub run : Units
  pub next : next_run old.boot claim (stop_of calls) ≡ Some run
  pub out : IsOutFor new cpu run span
  pub kept : (handed : Handed) → handed_to old cpu ≡ Some handed
      → out.room + run.count ≡ handed.room
  pub left : new.room ≡ 0

-- a claim is closed: nothing is out any more with its processor, and the room for the next step
-- stays
pub record Closes (old new : MemoryValue) (cpu : ℕ) : Type 0 where
  pub none : handed_to new cpu ≡ None
  pub room : new.room ≡ old.room

-- a reported run of a claim: the acceptance stopped, or the claim goes on, or no run is left and
-- this many units were cleared
abbrev pub ReportedBy : MemoryValue → MemoryValue → Turn → Claimed → List ModuleCall → Reported
    → Type 0
ReportedBy old new turn claim calls (Next span) = GoesOn old new turn.cpu.0 claim calls span
ReportedBy old new turn claim calls (Closed count) =
    (stop_of calls ≡ None) × (next_run old.boot claim (stop_of calls) ≡ None)
    × (count ≡ cleared_by old.boot old.entries claim calls) × Closes old new turn.cpu.0
    × (claim.block ≢ None → waiting_left old.boot new.entries < waiting_left old.boot old.entries)
ReportedBy old new turn claim calls Stopped = (stop_of calls ≢ None) × Closes old new turn.cpu.0

-- the answer of a report that closes the claim
abbrev pub answer_at : RunEnd → ℕ → Reported
answer_at end.Whole cleared = Closed cleared
answer_at (end.Stopped page) cleared = Stopped

-- A step of one processor leaves what is out with the others: the claims, and the states of their
-- pages. It makes no more blocks wait.
pub record OthersKeep (old new : MemoryValue) (cpu : ℕ) : Type 0 where
  pub handed : (other : ℕ) → other ≢ cpu → handed_to new other ≡ handed_to old other
  pub states : (other : ℕ) (claim : Claimed) (page : ℕ) → other ≢ cpu
      → claim_of old.boot old.entries other ≡ Some claim
      → in_range (pages_first old.boot claim.run) (pages_count old.boot claim.run) page ≡ true
      → page_state old.boot (calls_of old.boot new.entries) page
      ≡ page_state old.boot (calls_of old.boot old.entries) page
  pub waiting : waiting_left old.boot new.entries ≤ waiting_left old.boot old.entries

-- no processor has an open claim
abbrev pub NoneOpen : MemoryValue → Type 0
NoneOpen memory = (cpu : ℕ) → claim_of memory.boot memory.entries cpu ≡ None

-- The table of a memory: the pages of the runs that are out are in no run of it, and every other
-- page has its state after the entries. The spans that are out with processors may be put back, and
-- where no claim is open none is out.
pub record GivesTable (memory : MemoryValue) (table : Table) : Type 0 where
  pub states : (page : ℕ) → IsInTable memory.boot (claim_of memory.boot memory.entries) page
      → state_in table.runs page ≡ page_state memory.boot (calls_of memory.boot memory.entries) page
  pub away : (cpu : ℕ) (claim : Claimed) (page : ℕ)
      → claim_of memory.boot memory.entries cpu ≡ Some claim
      → in_range (pages_first memory.boot claim.run) (pages_count memory.boot claim.run) page ≡ true
      → state_in table.runs page ≡ None
  pub out : (cpu : ℕ) (handed : Handed) → handed_to memory cpu ≡ Some handed
      → is_out table.out handed.ticket ≡ true
  pub none : NoneOpen memory → table.out ≡ []
