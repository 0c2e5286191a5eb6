use Rattle.std.specs.Prelude.{ℕ, List, [], ◌∷◌, ◌++◌, Option, None, Some, false, ◌≡◌, ◌+◌, ◌^◌, ◌<◌, ◌≤◌, fold, max, if◌then◌else◌}
use Rattle.std.specs.Option.{option_map_or}
use Rattle.guest_base.specs.declared.limits.TheConstants.{ADDRESS_END}
use Rattle.guest_base.specs.Ranges.{in_range}
use Rattle.guest_base.specs.Search.{count_such}
use Rattle.guest_base.specs.declared.memory.Block.{Block}
use Rattle.guest_base.specs.declared.memory.Pages.{Pages}
use Rattle.guest_base.specs.declared.memory.Units.{Units}
use Rattle.event_core.specs.declared.boot.Boot.{Boot}
use Rattle.event_core.specs.declared.entry.Entry.{Entry}
use Rattle.event_core.specs.declared.entry.Place.TheVariants.{Memory}
use Rattle.event_core.specs.declared.entry.Turn.{Turn}
use Rattle.event_core.specs.declared.event.Event.{Event}
use Rattle.event_core.specs.declared.event.Event.TheVariants.{Claim}
use Rattle.event_core.specs.declared.module_call.ModuleCall.{ModuleCall}
use Rattle.event_core.specs.Acceptance.{stop_of}
use Rattle.event_core.specs.Blocks.{block_units, lowest_waiting}
use Rattle.event_core.specs.Calls.{calls_of}
use Rattle.event_core.specs.Claims.{Claimed, claim_of}
use Rattle.event_core.specs.MemoryRows.{page_state, pages_first, pages_count, run_of_claim}
use Rattle.event_core.specs.Units.{bit_after}
use Rattle.page_module.specs.Spans.{Taken}
use Rattle.page_module.specs.States.{state_in}
use Rattle.accept_sizes.specs.Accepts.{Accepts}
use Rattle.accept_sizes.specs.Ends.{stopped_at}
use Rattle.accept_sizes.specs.declared.accept.RunEnd.{RunEnd}
use Rattle.memory_core.specs.Value.{MemoryValue, handed_to}

-- What a step of the memory does.

-- the lock's last stamp: the greatest of the memory's entries, 0 where there is none
abbrev pub last_stamp : List Entry → ℕ
last_stamp entries = fold (λ last (e : Entry). max last e.stamp) 0 entries

-- a bare entry that a processor makes under the memory's lock
abbrev pub bare_entry : Turn → ℕ → Event → Entry
bare_entry turn last event = record {
  stamp = max turn.clock last + 1;
  cpu = turn.cpu;
  cmd = turn.cmd;
  place = Memory;
  event = event;
  reply = None;
}

-- a range of bytes has a byte, and ends at 2^40 at most
pub record IsByteRange (start len : ℕ) : Type 0 where
  pub some : 1 ≤ len
  pub end : start + len ≤ ADDRESS_END

-- a processor may begin a step that accepts this many units: it has no open claim, stamps are left,
-- and there is room
pub record MayBegin (memory : MemoryValue) (turn : Turn) (units : ℕ) : Type 0 where
  pub cpu : turn.cpu.0 < memory.boot.cpus
  pub free : claim_of memory.boot memory.entries turn.cpu.0 ≡ None
  pub clock : turn.clock < 2 ^ 64
  pub last : last_stamp memory.entries < 2 ^ 64
  pub room : units < memory.room

-- the event of a claim of units for no block
abbrev pub claim_of_units : MemoryValue → Option Units → Event
claim_of_units memory units = Claim None units (run_of_claim memory.boot memory.entries units)

-- a claim for a block is for the lowest one that waits, and for its guarded units
pub record IsForLowest (memory : MemoryValue) (units : Option Units) (block : Block)
    : Type 0 where
  pub lowest : lowest_waiting memory.boot memory.entries ≡ Some block
  pub guarded : units ≡ block_units memory.boot block

-- a step appends one bare entry, whose stamp becomes the processor's clock
pub record Appends (old new : MemoryValue) (turn turned : Turn) (event : Event) : Type 0 where
  pub boot : new.boot ≡ old.boot
  pub entries : new.entries ≡ old.entries ++ bare_entry turn (last_stamp old.entries) event ∷ []
  pub clock : turned ≡ record turn { clock = max turn.clock (last_stamp old.entries) + 1 }

-- the number of unaccepted units among units, after memory's entries
abbrev pub unaccepted_count : Boot → List Entry → Option Units → ℕ
unaccepted_count boot memory units =
    option_map_or
    (λ (u : Units). count_such (bit_after boot (calls_of boot memory)) u.first u.count) units 0

-- a page is in the table: it is none of a run that is out
abbrev pub IsInTable : Boot → (ℕ → Option Claimed) → ℕ → Type 0
IsInTable boot claims page =
    (cpu : ℕ) (claim : Claimed) → claims cpu ≡ Some claim
    → in_range (pages_first boot claim.run) (pages_count boot claim.run) page ≡ false

-- the pages of units
abbrev pub pages_of : Boot → Units → Pages
pages_of boot units = record { first = pages_first boot units; count = pages_count boot units }

-- a span has the pages of a run of units, in the states that they have after calls
pub record HasStates (boot : Boot) (calls : List ModuleCall) (run : Units)
    (span : Taken) : Type 0 where
  pub pages : span.ticket.pages ≡ pages_of boot run
  pub states : (page : ℕ) → state_in span.runs page
      ≡ (if in_range (pages_first boot run) (pages_count boot run) page
      then page_state boot calls page else None)

-- the span is out with a processor, for its open run
pub record IsOutFor (memory : MemoryValue) (cpu : ℕ) (run : Units) (span : Taken) : Type 0 where
  pub room : ℕ
  pub handed : handed_to memory cpu ≡ Some (record { ticket = span.ticket; room = room })
  pub has : HasStates memory.boot (calls_of memory.boot memory.entries) run span

-- calls brought the span from the states in which it is out, with this end
pub record BringsTo (boot : Boot) (before : List ModuleCall) (run : Units) (span : Taken)
    (calls : List ModuleCall) (end : RunEnd) : Type 0 where
  pub taken : Taken
  pub has : HasStates boot before run taken
  pub accepts : Accepts boot.hosts taken span calls
  pub stop : stop_of calls ≡ stopped_at end
