use Rattle.std.specs.Prelude.{ℕ, List, Bool, ◌++◌, None, Some, ◌≡◌, ◌^◌, if◌then◌else◌}
use Rattle.guest_base.specs.declared.memory.Block.{Block}
use Rattle.guest_base.specs.declared.memory.Pages.{Pages}
use Rattle.guest_base.specs.declared.memory.PageState.{PageState}
use Rattle.event_core.specs.declared.boot.Boot.{Boot}
use Rattle.event_core.specs.declared.event.ConvertEnd.{ConvertEnd}
use Rattle.event_core.specs.declared.module_call.ModuleCall.{ModuleCall}
use Rattle.event_core.specs.Absent.{in_block}
use Rattle.event_core.specs.ConvertRows.{ConvertsBy, end_by, is_shared}
use Rattle.event_core.specs.MemoryRows.{page_state}
use Rattle.page_module.specs.Spans.{Taken}
use Rattle.page_module.specs.States.{state_in}

-- Spans of the pages of a block.

-- the pages of a block
abbrev pub block_pages : Block → Pages
block_pages block = record { first = block.first; count = 2 ^ block.order }

-- a span has the pages of a block, in the states that they have after calls
pub record HasBlock (boot : Boot) (calls : List ModuleCall) (block : Block)
    (span : Taken) : Type 0 where
  pub pages : span.ticket.pages ≡ block_pages block
  pub states : (page : ℕ) → state_in span.runs page
      ≡ (if in_block page block then page_state boot calls page else None)

-- whether a block is shared after calls: its first page speaks for all
abbrev pub is_shared_after : Boot → List ModuleCall → Block → Bool
is_shared_after boot calls block = is_shared (page_state boot calls block.first)

-- after calls, these bring a block to a state, with this end, and a span has its pages then
pub record ConvertsBlock (boot : Boot) (before : List ModuleCall) (block : Block) (to : PageState)
    (span : Taken) (calls : List ModuleCall) (end : ConvertEnd) : Type 0 where
  pub made : ConvertsBy boot before block (is_shared_after boot before block) (Some to) calls
  pub ends : end ≡ end_by (is_shared_after boot before block) (Some to) calls
  pub leaves : HasBlock boot (before ++ calls) block span
