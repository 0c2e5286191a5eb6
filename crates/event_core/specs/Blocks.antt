use Rattle.std.specs.Prelude.{ℕ, List, [], ◌∷◌, ◌++◌, Option, None, Some, Bool, true, false, not, ◌+◌, ◌*◌, ◌^◌, ◌==◌, ◌&&◌, nat_lt, is_some, fold, find, filter, if◌then◌else◌}
use Rattle.std.specs.Option.{option_map_or}
use Rattle.guest_base.specs.declared.limits.TheConstants.{PAGE_BYTES}
use Rattle.guest_base.specs.Search.{first_such, any_such}
use Rattle.guest_base.specs.declared.memory.Page.{Page}
use Rattle.guest_base.specs.declared.memory.Pages.{Pages}
use Rattle.guest_base.specs.declared.memory.Units.{Units}
use Rattle.guest_base.specs.declared.memory.Block.{Block}
use Rattle.event_core.specs.declared.boot.Boot.{Boot}
use Rattle.event_core.specs.declared.module_call.CallKind.{CallKind}
use Rattle.event_core.specs.declared.module_call.CallKind.TheVariants.{Accept, Share, Unshare, Give}
use Rattle.event_core.specs.declared.module_call.ModuleCall.{ModuleCall}
use Rattle.event_core.specs.declared.event.Event.{Event}
use Rattle.event_core.specs.declared.event.Event.TheVariants.{Claim, Report, Got, Freed, ConvertEnd}
use Rattle.event_core.specs.declared.event.ConvertEnd.TheVariants.{Converted}
use Rattle.event_core.specs.declared.entry.Entry.{Entry}
use Rattle.event_core.specs.Calls.{gives_back}
use Rattle.event_core.specs.Units.{guarded_units, bit_after}
use Rattle.event_core.specs.Claims.{Claimed, claim_of}
use Rattle.event_core.specs.Cut.{cut}
use Rattle.event_core.specs.Absent.{in_block}
use Rattle.event_core.specs.Holdings.{same_block}

-- The blocks of a history: which wait to be accepted, which are in flight, which are owned, and which pages are free (own rule,
-- after the page allocator and unaccepted_memory.c).

-- ---- at boot

abbrev pub shares : CallKind → Bool
shares Accept = false
shares Share = true
shares Unshare = false
shares Give = false

-- calls up to the one that shares the pool, and those behind it
abbrev pub up_to_share : List ModuleCall → List ModuleCall
up_to_share [] = []
up_to_share (call ∷ calls) = call ∷ elim (shares call.kind) as (λ _. List ModuleCall) [ true ↦ [] | false ↦ up_to_share calls ]

abbrev pub behind_share : List ModuleCall → List ModuleCall
behind_share [] = []
behind_share (call ∷ calls) = elim (shares call.kind) as (λ _. List ModuleCall) [ true ↦ calls | false ↦ behind_share calls ]

-- calls that begin below a page
abbrev pub calls_below : ℕ → List ModuleCall → List ModuleCall
calls_below page calls = filter (λ (call : ModuleCall). nat_lt call.first page) calls

-- Boot's calls before it comes to a block of order 10: those for the pool, and those for lower blocks, which begin below the
-- block's end, as those for higher blocks don't. (Those for early pieces come first, but change no bit.)
abbrev pub calls_before : Boot → Option Pages → Block → List ModuleCall
calls_before boot None block = calls_below (block.first + 2 ^ block.order) boot.calls
calls_before boot (Some pool) block = up_to_share boot.calls ++ calls_below (block.first + 2 ^ block.order) (behind_share boot.calls)

-- the guarded units of a block
abbrev pub block_units : Boot → Block → Option Units
block_units boot block = guarded_units boot (PAGE_BYTES * block.first) (PAGE_BYTES * 2 ^ block.order)

-- a block of order 10 waits at boot where a bit of its guarded units is set when boot comes to it; boot accepts each smaller one
unfoldable pub waits_at_boot : Boot → Block → Bool
waits_at_boot boot block =
    elim (block.order == 10) as (λ _. Bool) [
      | true ↦ option_map_or (λ (units : Units). any_such (bit_after boot (calls_before boot boot.pool block)) units.first units.count) (block_units boot block) false
      | false ↦ false
    ]

-- ---- after entries

-- a block of the cut waits, is being accepted by a processor, or is loose: its pages are free or owned; one that was given back
-- waits again
pub data BlockState : Type 0 where
  Waits : BlockState
  InFlight : (cpu : ℕ) → BlockState
  Loose : BlockState

-- a claim for the block begins its acceptance, or finds it accepted
abbrev pub after_claim : ℕ → Option Units → BlockState
after_claim cpu (Some run) = InFlight cpu
after_claim cpu None = Loose

-- a report ends it: the block waits again where the acceptance stopped, and is loose where no run is left
abbrev pub after_report : ℕ → Option Page → Option Units → BlockState
after_report cpu (Some page) next = Waits
after_report cpu None (Some next) = InFlight cpu
after_report cpu None None = Loose

abbrev pub reported : ℕ → Option Page → Option Units → BlockState → BlockState
reported cpu stopped next (InFlight by) = if by == cpu then after_report cpu stopped next else InFlight by
reported cpu stopped next Waits = Waits
reported cpu stopped next Loose = Loose

abbrev pub block_step : Block → ℕ → BlockState → Event → BlockState
block_step block cpu at (Claim (Some claimed) units run) = if same_block claimed block then after_claim cpu run else at
block_step block cpu at (Report run calls stopped next) = reported cpu stopped next at
block_step block cpu at (ConvertEnd given calls Converted) = if same_block given block && gives_back calls then Waits else at
block_step block cpu at _ = at

unfoldable pub block_state : Boot → List Entry → Block → BlockState
block_state boot memory block =
    fold (λ at (e : Entry). block_step block e.cpu.0 at e.event) (if waits_at_boot boot block then Waits else Loose) memory

abbrev pub is_waiting : BlockState → Bool
is_waiting Waits = true
is_waiting (InFlight cpu) = false
is_waiting Loose = false

abbrev pub is_loose : BlockState → Bool
is_loose Waits = false
is_loose (InFlight cpu) = false
is_loose Loose = true

-- the lowest waiting block
unfoldable pub lowest_waiting : Boot → List Entry → Option Block
lowest_waiting boot memory = find (λ block. is_waiting (block_state boot memory block)) (cut boot)

-- the least processor that accepts a waiting block
abbrev pub is_for_block : Option Claimed → Bool
is_for_block claim = option_map_or (λ (c : Claimed). is_some c.block) claim false

unfoldable pub in_flight_with : Boot → List Entry → Option ℕ
in_flight_with boot memory = first_such (λ cpu. is_for_block (claim_of boot memory cpu)) 0 boot.cpus

-- a page is owned where of the Gots and Freeds of blocks that hold it, and the conversions that gave it back, the last is a Got
abbrev pub owned_after : ℕ → Bool → Event → Bool
owned_after page owned (Got block) = if in_block page block then true else owned
owned_after page owned (Freed block) = if in_block page block then false else owned
owned_after page owned (ConvertEnd block calls Converted) = if in_block page block && gives_back calls then false else owned
owned_after page owned _ = owned

unfoldable pub is_owned : List Entry → ℕ → Bool
is_owned memory page = fold (λ owned (e : Entry). owned_after page owned e.event) false memory

-- a page is free where its block of the cut is loose and it isn't owned
unfoldable pub free_page : Boot → List Entry → ℕ → Bool
free_page boot memory page =
    elim (find (in_block page) (cut boot)) as (λ _. Bool) [
      | None ↦ false
      | Some block ↦ is_loose (block_state boot memory block) && not (is_owned memory page)
    ]
