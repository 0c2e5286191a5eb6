use Rattle.std.specs.Prelude.{ℕ, List, [], ◌∷◌, ◌++◌, Option, None, Some, Bool, true, false, ◌≡◌, ◌+◌, ◌^◌, ◌&&◌, fold, if◌then◌else◌}
use Rattle.guest_base.specs.declared.memory.Page.{Page}
use Rattle.guest_base.specs.declared.memory.Block.{Block}
use Rattle.guest_base.specs.declared.memory.Level.TheVariants.{Small}
use Rattle.guest_base.specs.declared.memory.PageState.{PageState}
use Rattle.guest_base.specs.declared.memory.PageState.TheVariants.{Pending, Accepted, Shared}
use Rattle.event_core.specs.declared.boot.Boot.{Boot}
use Rattle.event_core.specs.declared.module_call.CallKind.{CallKind}
use Rattle.event_core.specs.declared.module_call.CallKind.TheVariants.{Share, Unshare, Give}
use Rattle.event_core.specs.declared.module_call.ModuleCall.{ModuleCall}
use Rattle.event_core.specs.declared.event.ConvertEnd.{ConvertEnd as End}
use Rattle.event_core.specs.declared.event.ConvertEnd.TheVariants.{Converted, Refused, Half}
use Rattle.event_core.specs.declared.event.Event.{Event}
use Rattle.event_core.specs.declared.event.Event.TheVariants.{ConvertBegin}
use Rattle.event_core.specs.declared.entry.Entry.{Entry}
use Rattle.event_core.specs.Calls.{calls_of, is_done, HonestHost}
use Rattle.event_core.specs.Acceptance.{AcceptanceSteps, stop_of}
use Rattle.event_core.specs.MemoryRows.{page_state, is_pending}
use Rattle.event_core.specs.Absent.{in_block}
use Rattle.event_core.specs.Holdings.{same_block}

-- Conversions of a block, after the memory's entries: between private and shared, and back to the host (after the TDX guest; half
-- blocks and giving back are own rules).

-- what the last begun conversion of the block makes of it
abbrev pub aim_after : Block → Option PageState → Event → Option PageState
aim_after block aim (ConvertBegin begun to) = if same_block begun block then Some to else aim
aim_after block aim _ = aim

unfoldable pub aim_of : List Entry → Block → Option PageState
aim_of memory block = fold (λ aim (e : Entry). aim_after block aim e.event) None memory

-- whether the block's pages are shared: one speaks for all
abbrev pub is_shared : Option PageState → Bool
is_shared None = false
is_shared (Some Pending) = false
is_shared (Some Accepted) = false
is_shared (Some Shared) = true

unfoldable pub is_shared_block : Boot → List Entry → Block → Bool
is_shared_block boot memory block = is_shared (page_state boot (calls_of boot memory) block.first)

-- ---- the end that calls bring

-- one call shares the block or gives it back, or is refused
abbrev pub one_call_end : List ModuleCall → End
one_call_end [] = Refused
one_call_end (call ∷ calls) = if is_done call then Converted else Refused

-- its pages are accepted, or the acceptance stops half way
abbrev pub accept_end : Option Page → End
accept_end None = Converted
accept_end (Some page) = Half page

-- a shared block is taken back first, which the module may refuse; then, or where it was half, its pages are accepted
abbrev pub private_end : Bool → List ModuleCall → End
private_end false calls = accept_end (stop_of calls)
private_end true [] = Refused
private_end true (call ∷ calls) = if is_done call then accept_end (stop_of calls) else Refused

abbrev pub end_by : Bool → Option PageState → List ModuleCall → End
end_by shared (Some Shared) calls = one_call_end calls
end_by shared (Some Accepted) calls = private_end shared calls
end_by shared (Some Pending) calls = one_call_end calls
end_by shared None calls = Refused

-- the end of a block's conversion
unfoldable pub convert_end : Boot → List Entry → Block → List ModuleCall → End
convert_end boot memory block calls = end_by (is_shared_block boot memory block) (aim_of memory block) calls

-- ---- the calls that a conversion makes

-- one call for the whole block
pub record IsBlockCall (kind : CallKind) (block : Block) (call : ModuleCall) : Type 0 where
  pub kind_is : call.kind ≡ kind
  pub first : call.first ≡ block.first
  pub count : call.count ≡ 2 ^ block.order
  pub level : call.level ≡ Small

abbrev pub CallsOnce : Boot → CallKind → Block → List ModuleCall → Type 0
CallsOnce boot kind block [] = ⊥
CallsOnce boot kind block (call ∷ []) = IsBlockCall kind block call × HonestHost boot.hosts call
CallsOnce boot kind block (call ∷ next ∷ calls) = ⊥

-- the block's pending pages are accepted by sizes
unfoldable pub pending_in_block : Boot → List ModuleCall → Block → ℕ → Bool
pending_in_block boot before block page = in_block page block && is_pending (page_state boot before page)

abbrev pub AcceptsBlockPages : Boot → List ModuleCall → Block → List ModuleCall → Type 0
AcceptsBlockPages boot before block calls =
    AcceptanceSteps boot.hosts (pending_in_block boot before block) (block.first + 2 ^ block.order) block.first None calls

-- one call takes a shared block back; where it is done the block's pages, which are pending then, are accepted
abbrev pub TakesBlockBack : Boot → List ModuleCall → Block → List ModuleCall → Type 0
TakesBlockBack boot before block [] = ⊥
TakesBlockBack boot before block (call ∷ calls) =
    IsBlockCall Unshare block call
    × HonestHost boot.hosts call
    × elim (is_done call) as (λ _. Type 0) [ true ↦ AcceptsBlockPages boot (before ++ call ∷ []) block calls | false ↦ calls ≡ [] ]

abbrev pub ConvertsBy : Boot → List ModuleCall → Block → Bool → Option PageState → List ModuleCall → Type 0
ConvertsBy boot before block shared (Some Shared) calls = CallsOnce boot Share block calls
ConvertsBy boot before block true (Some Accepted) calls = TakesBlockBack boot before block calls
ConvertsBy boot before block false (Some Accepted) calls = AcceptsBlockPages boot before block calls
ConvertsBy boot before block shared (Some Pending) calls = CallsOnce boot Give block calls
ConvertsBy boot before block shared None calls = ⊥

-- the calls are those of the block's conversion
abbrev pub Converts : Boot → List Entry → Block → List ModuleCall → Type 0
Converts boot memory block calls = ConvertsBy boot (calls_of boot memory) block (is_shared_block boot memory block) (aim_of memory block) calls
