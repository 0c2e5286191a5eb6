-- What the lock of the memory has to know of it (own rule).
use Rattle.std.specs.Prelude.{ℕ, List, [], ◌∷◌, Option, None, Some, map}
use Rattle.std.specs.Option.{option_map}
use Rattle.event_core.specs.declared.boot.Boot.{Boot}
use Rattle.event_core.specs.Boot.{set_runs}
use Rattle.event_core.specs.Claims.{Claimed, claim_of}
use Rattle.event_core.specs.Moved.{Moved}
use Rattle.event_core.specs.Parted.{Fixed, OpenClaim, Part}
use Rattle.event_core.specs.declared.entry.Entry.{Entry}
use Rattle.guest_base.specs.declared.memory.Pages.{Pages}
use Rattle.memory_core.specs.Value.{MemoryValue, Handed, handed_to}

-- no step changes how the guest was booted
abbrev pub fixed_of : MemoryValue → Fixed
fixed_of memory = record { boot = Some memory.boot; areas = [] }

-- an open claim, with all its runs
abbrev pub claim_part : Boot → Claimed → OpenClaim
claim_part boot claim = record {
  units = claim.units;
  block = claim.block;
  runs = set_runs boot claim.before (Some claim.units);
}

-- the pages that are out for a claim
abbrev pub pages_out : Option Handed → List Pages
pages_out None = []
pages_out (Some handed) = handed.ticket.pages ∷ []

-- the room for the end of a claim: for how many units behind the run there is room, the runs of one
-- state that the run's pages had when they were taken, and the room in pieces that goes with them
abbrev pub room_kept : Option Handed → List ℕ
room_kept None = []
room_kept (Some handed) = handed.room ∷ handed.ticket.runs ∷ handed.ticket.room ∷ []

-- what the memory keeps for a processor: its open claim, and what is out for it
abbrev pub part_of : MemoryValue → ℕ → Part
part_of memory cpu = record {
  claim = option_map (claim_part memory.boot) (claim_of memory.boot memory.entries cpu);
  converting = None;
  out = pages_out (handed_to memory cpu);
  room = room_kept (handed_to memory cpu);
  live = [];
}

-- an entry of the memory moves no byte of the pool
abbrev pub unmoved : Entry → Moved
unmoved entry = record { entry = entry; bytes = [] }

abbrev pub moved_of : MemoryValue → List Moved
moved_of memory = map unmoved memory.entries
