use Rattle.std.specs.Prelude.{ℕ, List, [], Option, None, Some, Bool, true, false, ◌≡◌, ◌≢◌, ◌+◌, ◌-◌, ◌*◌, ◌^◌, ◌<◌, ◌≤◌, drop, length, max, sum_by, Vec, vec_capacity}
use Rattle.std.specs.declared.alloc.Global.{Global}
use Rattle.guest_base.specs.Ranges.{in_range}
use Rattle.guest_base.specs.Search.{count_such}
use Rattle.guest_base.specs.declared.memory.PageRun.{PageRun}
use Rattle.guest_base.specs.declared.memory.Units.{Units}
use Rattle.event_core.specs.declared.boot.Boot.{Boot}
use Rattle.event_core.specs.declared.entry.Entry.{Entry}
use Rattle.event_core.specs.declared.module_call.ModuleCall.{ModuleCall}
use Rattle.event_core.specs.Calls.{calls_of}
use Rattle.event_core.specs.Claims.{Claimed, claim_of, units_meet}
use Rattle.event_core.specs.MemoryRows.{page_state, pages_first, pages_count}
use Rattle.event_core.specs.Units.{bit_after, unit_pages, units_end}
use Rattle.page_module.specs.States.{state_in}
use Rattle.page_module.specs.Tables.{Table, is_out}
use Rattle.page_module.specs.declared.ticket.Ticket.{Ticket}
use Rattle.event_core.specs.Table.{Bits}
use Rattle.accepting_ranges.specs.Claims.{kept_of}
use Rattle.block_allocator.specs.State.{State}
use Rattle.memory_core.specs.Away.{Steady}
use Rattle.memory_core.specs.Bitmaps.{bits_in, AreRunsFrom, SameBits}
use Rattle.memory_core.specs.Booted.{IsBooted, MarksArePending, UnitsAreRam}
use Rattle.memory_core.specs.KeptBlocks.{BlocksAfter, HasBlockRoom}
use Rattle.memory_core.specs.Settled.{Settled}
use Rattle.memory_core.specs.Steps.{last_stamp, pages_of, IsInTable}
use Rattle.memory_core.specs.Value.{Handed}
use Rattle.memory_core.specs.declared.claims.OpenClaim.{OpenClaim}

-- What the kept state of the memory stands for.

-- the most pieces of a page table that runs of this many units need to be taken out, one run after
-- another
abbrev pub pieces_for : ℕ → ℕ → ℕ
pieces_for pages units = units * (2 * pages + 2)

-- An open claim as it is kept. The bits of its run are set. The runs that are kept behind it are
-- those of the claim's units at the claim; the bits of these are set still, and there is room for
-- as many units as they have. The run's pages are out.
pub record OpenStands (boot : Boot) (bit : ℕ → Bool) (tickets : List Ticket) (kept : OpenClaim)
    (claim : Claimed) : Type 0 where
  pub block : kept.block ≡ claim.block
  pub units : kept.units ≡ claim.units
  pub run : kept.run ≡ claim.run
  pub cleared : kept.cleared ≡ claim.cleared
  pub some : 0 < claim.run.count
  pub low : claim.units.first ≤ claim.run.first
  pub within : units_end claim.run ≤ units_end claim.units
  pub end : units_end claim.units < 2 ^ 64
  pub each : (unit : ℕ) → in_range claim.run.first claim.run.count unit ≡ true → bit unit ≡ true
  pub later : AreRunsFrom (bit_after boot claim.before)
      (units_end claim.run) (units_end claim.units) (drop kept.opened kept.later.items)
  pub set : (unit : ℕ) → units_end claim.run ≤ unit → unit < units_end claim.units
      → bit_after boot claim.before unit ≡ true → bit unit ≡ true
  pub few : claim.cleared + claim.units.first ≤ claim.run.first
  pub out : is_out tickets kept.ticket ≡ true
  pub pages : kept.ticket.pages ≡ pages_of boot claim.run
  pub room : pieces_for (unit_pages boot) kept.room ≤ kept.ticket.room
  pub enough : count_such (bit_after boot claim.before) (units_end claim.run)
      (units_end claim.units - units_end claim.run) ≤ kept.room

-- a claim is kept exactly where it is open
abbrev pub ClaimStands : Boot → (ℕ → Bool) → List Ticket → Option OpenClaim → Option Claimed
    → Type 0
ClaimStands boot bit tickets None None = Unit {0}
ClaimStands boot bit tickets (Some kept) (Some claim) = OpenStands boot bit tickets kept claim
ClaimStands boot bit tickets None (Some claim) = ⊥
ClaimStands boot bit tickets (Some kept) None = ⊥

-- the kept runs of pages, tickets of pages that are out, bits and claims are those after module
-- calls, with these open claims
pub record HoldsFor (boot : Boot) (calls : List ModuleCall) (claims : ℕ → Option Claimed)
    (runs : List PageRun) (tickets : List Ticket) (bit : ℕ → Bool)
    (kept : ℕ → Option OpenClaim) : Type 0 where
  pub bits : (unit : ℕ) → bit unit ≡ bit_after boot calls unit
  pub marks : MarksArePending boot calls
  pub ram : UnitsAreRam boot calls
  pub states : (page : ℕ) → IsInTable boot claims page
      → state_in runs page ≡ page_state boot calls page
  pub away : (cpu : ℕ) (claim : Claimed) (page : ℕ) → claims cpu ≡ Some claim
      → in_range (pages_first boot claim.run) (pages_count boot claim.run) page ≡ true
      → state_in runs page ≡ None
  pub open_claims : (cpu : ℕ) → ClaimStands boot bit tickets (kept cpu) (claims cpu)
  pub apart : (c d : ℕ) (a b : Claimed) → c ≢ d → claims c ≡ Some a → claims d ≡ Some b
      → units_meet a.units b.units ≡ false

-- the spans that are out for a claim: one where it is open
abbrev pub spans_of : Option OpenClaim → ℕ
spans_of None = 0
spans_of (Some claim) = 1

-- the most reports that an open claim has yet to make: of its run, and of each unit behind it that
-- there is room for
abbrev pub reports_of : Option OpenClaim → ℕ
reports_of None = 0
reports_of (Some claim) = claim.room + 1

-- What a memory keeps stands for its entries: its page table, bitmap and claims are those of the
-- definitions, and there is room for the reports of its open claims and for the next step. Stamps
-- stay below 2^65 until all claims are closed. The entries rise, and entries of other processors
-- leave the pages of an open run. The blocks are those after the entries, with room for those of
-- open claims.
pub record StandsFor (boot : Boot) (entries : Vec Entry Global) (last : ℕ) (table : Table)
    (bits : Option Bits) (claims : List (Option OpenClaim)) (blocks : State) (pages kept room : ℕ)
    : Type 0 where
  pub booted : IsBooted boot
  pub holds : HoldsFor boot (calls_of boot entries.items) (claim_of boot entries.items)
      table.runs table.out (bits_in bits) (kept_of claims)
  pub same_bits : SameBits boot bits
  pub last_is : last ≡ last_stamp entries.items
  pub places : length claims ≡ 64
  pub cpus : (cpu : ℕ) (claim : OpenClaim) → kept_of claims cpu ≡ Some claim → cpu < boot.cpus
  pub spans : length table.out ≡ sum_by spans_of claims
  pub pages_are : pages ≡ unit_pages boot
  pub reports : kept ≡ sum_by reports_of claims
  pub entry_room : length entries.items + kept + room ≤ vec_capacity entries
  pub table_room : pieces_for pages room ≤ table.room
  pub stamps : max (2 ^ 64) last + kept < 2 ^ 65
  pub steady : Steady boot entries.items
  pub settled : Settled boot entries.items
  pub blocks_are : BlocksAfter boot entries.items blocks
  pub block_room : HasBlockRoom blocks claims room

-- the spare list of runs is empty, and has room for those of the next claim
pub record IsSpare (runs : Vec Units Global) (room : ℕ) : Type 0 where
  pub empty : runs.items ≡ []
  pub enough : room ≤ vec_capacity runs

-- what is out with a processor, of the claim that is kept for it
abbrev pub handed_for : Option OpenClaim → Option Handed
handed_for None = None
handed_for (Some claim) = Some (record { ticket = claim.ticket; room = claim.room })
