use Rattle.std.specs.Prelude.{ℕ, zero, suc, List, [], ◌∷◌, ◌++◌, Option, None, Some, Bool, true, false, ◌≡◌, ◌≢◌, ◌⊎◌, ◌+◌, ◌*◌, ◌/◌, ◌^◌, ◌<◌, ◌==◌, length, map, if◌then◌else◌}
use Rattle.guest_base.specs.Ranges.{in_range}
use Rattle.guest_base.specs.Requests.{raised_slots}
use Rattle.guest_base.specs.declared.memory.Page.{Page}
use Rattle.guest_base.specs.declared.memory.Pages.{Pages}
use Rattle.guest_base.specs.declared.memory.Units.{Units}
use Rattle.guest_base.specs.declared.memory.Block.{Block}
use Rattle.guest_base.specs.declared.memory.Level.TheVariants.{Small}
use Rattle.guest_base.specs.declared.memory.HostRun.{HostRun}
use Rattle.event_core.specs.declared.boot.Descriptor.{Descriptor}
use Rattle.event_core.specs.declared.boot.Boot.{Boot}
use Rattle.event_core.specs.declared.module_call.CallKind.TheVariants.{Share}
use Rattle.event_core.specs.declared.module_call.PortAnswer.{PortAnswer}
use Rattle.event_core.specs.declared.module_call.PortAnswer.TheVariants.{Ok as AnsweredOk, Failed}
use Rattle.event_core.specs.declared.module_call.ModuleCall.{ModuleCall}
use Rattle.event_core.specs.Runs.{AreMaximalRuns, state_in}
use Rattle.event_core.specs.Table.{Bits}
use Rattle.event_core.specs.Given.{first_by, unit_by, base_by, length_by, bit_by, EarlyBy}
use Rattle.event_core.specs.Units.{bit_of, bit_after, guarded_units, first_run, units_end, unit_count}
use Rattle.event_core.specs.Acceptance.{AcceptanceSteps, stop_of}
use Rattle.event_core.specs.MemoryRows.{page_state, is_pending, AcceptsUnits}
use Rattle.event_core.specs.Cut.{cut}
use Rattle.std.specs.Prelude.{◌&&◌}
use Rattle.guest_base.specs.declared.limits.TheConstants.{PAGE_BYTES}

-- What boot makes of a map, and of a table where one is handed in (the stub and the unaccepted bitmap after Linux's EFI stub; the pool and the blocks are own rules).

-- Items are worked on one after another. Each has its part of the calls, which is judged after the calls done before it, and either
-- goes through or stops at a page; a part that stops is the last.
abbrev pub InTurn : {Item : Type 0} → (List ModuleCall → Item → List ModuleCall → Option Page → Type 0) → List ModuleCall → List Item → List ModuleCall → Option Page → Type 0
InTurn Part done [] calls stop = (calls ≡ []) × (stop ≡ None)
InTurn Part done (item ∷ items) calls stop =
    ((page : Page) × Part done item calls (Some page) × (stop ≡ Some page))
    ⊎ ((now : List ModuleCall) × (later : List ModuleCall) × (calls ≡ now ++ later) × Part done item now None × InTurn Part (done ++ now) items later stop)

-- a page of the piece that is pending after the calls before
abbrev pub pending_piece : Boot → List ModuleCall → Pages → ℕ → Bool
pending_piece boot before pages page = in_range pages.first pages.count page && is_pending (page_state boot before page)

-- a piece is accepted by sizes
abbrev pub AcceptsPiece : Boot → List ModuleCall → Pages → List ModuleCall → Option Page → Type 0
AcceptsPiece boot before pages calls stop =
    AcceptanceSteps boot.hosts (pending_piece boot before pages) (pages.first + pages.count) pages.first None calls × (stop ≡ stop_of calls)

-- the maximal runs of set bits of units from one on, at most this many
abbrev pub runs_from : (ℕ → Bool) → ℕ → ℕ → ℕ → List Units
runs_from test zero from end = []
runs_from test (suc most) from end =
    elim (first_run test from end) as (λ _. List Units) [ None ↦ [] | Some run ↦ run ∷ runs_from test most (units_end run) end ]

abbrev pub set_runs : Boot → List ModuleCall → Option Units → List Units
set_runs boot before None = []
set_runs boot before (Some units) = runs_from (bit_after boot before) units.count units.first (units_end units)

-- a run of units is accepted by sizes
abbrev pub AcceptsRun : Boot → List ModuleCall → Units → List ModuleCall → Option Page → Type 0
AcceptsRun boot before run calls stop = AcceptsUnits boot before run calls × (stop ≡ stop_of calls)

-- a range of bytes is accepted: each run of set bits of its guarded units
abbrev pub AcceptsRange : Boot → List ModuleCall → ℕ → ℕ → List ModuleCall → Option Page → Type 0
AcceptsRange boot before start len calls stop = InTurn (AcceptsRun boot) before (set_runs boot before (guarded_units boot start len)) calls stop

-- one call shares the pool; where it fails, boot stops at the pool's first page
abbrev pub share_call : Pages → PortAnswer → ModuleCall
share_call pool answer = record { kind = Share; first = pool.first; count = pool.count; level = Small; answer = answer }

abbrev pub SharesPool : Pages → List ModuleCall → Option Page → Type 0
SharesPool pool calls None = calls ≡ share_call pool AnsweredOk ∷ []
SharesPool pool calls (Some page) = (calls ≡ share_call pool Failed ∷ []) × (page.0 ≡ pool.first)

-- a block below order 10 is accepted; for a block of order 10 no call is made
abbrev pub AcceptsBlock : Boot → List ModuleCall → Block → List ModuleCall → Option Page → Type 0
AcceptsBlock boot before block calls stop =
    elim (block.order == 10) as (λ _. Type 0) [
      | true ↦ (calls ≡ []) × (stop ≡ None)
      | false ↦ AcceptsRange boot before (PAGE_BYTES * block.first) (PAGE_BYTES * 2 ^ block.order) calls stop
    ]

-- the stages of boot
pub data Stage : Type 0 where
  Early : (pages : Pages) → Stage
  PoolAccepted : (pages : Pages) → Stage
  PoolShared : (pages : Pages) → Stage
  BlockAccepted : (block : Block) → Stage

abbrev pub StagePart : Boot → List ModuleCall → Stage → List ModuleCall → Option Page → Type 0
StagePart boot before (Early pages) calls stop = AcceptsPiece boot before pages calls stop
StagePart boot before (PoolAccepted pages) calls stop = AcceptsRange boot before (PAGE_BYTES * pages.first) (PAGE_BYTES * pages.count) calls stop
StagePart boot before (PoolShared pages) calls stop = SharesPool pages calls stop
StagePart boot before (BlockAccepted block) calls stop = AcceptsBlock boot before block calls stop

-- the pool's stages
abbrev pub pool_stages : Option Pages → List Stage
pool_stages None = []
pool_stages (Some pool) = PoolAccepted pool ∷ PoolShared pool ∷ []

-- the early pieces, the pool, and the blocks, rising
abbrev pub stages_of : Boot → List Pages → List Stage
stages_of boot pieces = map Early pieces ++ pool_stages boot.pool ++ map BlockAccepted (cut boot)

-- a place from which this many pages are RAM
abbrev pub HasRoom : Boot → ℕ → ℕ → Type 0
HasRoom boot count first = (page : ℕ) → in_range first count page ≡ true → state_in boot.ram page ≢ None

-- the pool is the lowest range of RAM that has room for it; two slots make a page
pub record IsPoolPlace (boot : Boot) (size : ℕ) (pool : Pages) : Type 0 where
  pub pages : pool.count ≡ size
  pub room : HasRoom boot size pool.first
  pub lowest : (first : ℕ) → first < pool.first → HasRoom boot size first → ⊥

abbrev pub PoolPlaced : Boot → Option Pages → Type 0
PoolPlaced boot None = boot.slots ≡ 0
PoolPlaced boot (Some pool) = (boot.slots ≢ 0) × IsPoolPlace boot (boot.slots / 2) pool

-- the boot's calls, stage after stage
pub record BootCalls (map : List Descriptor) (table : Option Bits) (boot : Boot) (calls : List ModuleCall) (stop : Option Page) : Type 0 where
  pub pieces : List Pages
  pub early : EarlyBy map table pieces
  pub stages : InTurn (StagePart boot) [] (stages_of boot pieces) calls stop

-- what boot makes of a map, a table or none, the slots and areas asked for, and the number of processors, before its calls
pub record Uncalled (map : List Descriptor) (hosts : List HostRun) (table : Option Bits) (slots areas cpus : ℕ) (boot : Boot) : Type 0 where
  pub ram : AreMaximalRuns (first_by map table) boot.ram
  pub same_hosts : boot.hosts ≡ hosts
  pub unit : boot.unit ≡ unit_by table
  pub base : boot.base ≡ base_by map table
  pub bitmap : length boot.bits ≡ length_by map table
  pub bits : (unit : ℕ) → unit < unit_count boot.bits → bit_of boot.bits unit ≡ bit_by map table unit
  pub same_cpus : boot.cpus ≡ cpus
  pub same_areas : boot.areas ≡ areas
  pub raised : boot.slots ≡ (if slots == 0 then 0 else raised_slots slots areas)
  pub pool : PoolPlaced boot boot.pool

-- the boot of a map came to its end
pub record BootRight (map : List Descriptor) (hosts : List HostRun) (table : Option Bits) (slots areas cpus : ℕ) (boot : Boot) : Type 0 where
  pub uncalled : Uncalled map hosts table slots areas cpus boot
  pub made : BootCalls map table boot boot.calls None

-- the boot of a map made these calls, and stopped at the page
pub record BootStopped (map : List Descriptor) (hosts : List HostRun) (table : Option Bits) (slots areas cpus : ℕ) (calls : List ModuleCall) (page : Page) : Type 0 where
  pub boot : Boot
  pub uncalled : Uncalled map hosts table slots areas cpus boot
  pub made : BootCalls map table boot calls (Some page)

-- these calls are a front of a part's: with later calls they are all of them, whether the part
-- stops or comes to its end
abbrev pub IsFront : (List ModuleCall → Option Page → Type 0) → List ModuleCall → Type 0
IsFront Part calls = (later : List ModuleCall) × (stop : Option Page) × Part (calls ++ later) stop

-- a boot of the map goes on from these calls, until it stops or comes to its end
pub record BootGoesOn (map : List Descriptor) (hosts : List HostRun) (table : Option Bits)
    (slots areas cpus : ℕ) (calls : List ModuleCall) : Type 0 where
  pub boot : Boot
  pub uncalled : Uncalled map hosts table slots areas cpus boot
  pub front : IsFront (BootCalls map table boot) calls

-- no call was made, or a boot of the map goes on from those that were
abbrev pub BootFront :
    List Descriptor → List HostRun → Option Bits → ℕ → ℕ → ℕ → List ModuleCall → Type 0
BootFront map hosts table slots areas cpus calls =
    (calls ≡ []) ⊎ BootGoesOn map hosts table slots areas cpus calls
