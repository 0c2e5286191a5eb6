use Rattle.std.specs.Prelude.{ℕ, List, Option, None, Bool, not, ◌≡◌, ◌==◌, ◌&&◌, map}
use Rattle.std.specs.List.{list_any}
use Rattle.guest_base.specs.declared.memory.Page.{Page}
use Rattle.guest_base.specs.declared.memory.PageRun.{PageRun}
use Rattle.guest_base.specs.declared.memory.Block.{Block}
use Rattle.event_core.specs.declared.boot.Boot.{Boot}
use Rattle.event_core.specs.declared.module_call.ModuleCall.{ModuleCall}
use Rattle.event_core.specs.Absent.{in_block}
use Rattle.event_core.specs.Boot.{InTurn, StagePart, AcceptsBlock, pool_stages}
use Rattle.event_core.specs.Cut.{cut}
use Rattle.event_laws.specs.Coming.{waits_after}
use Rattle.block_allocator.specs.State.{State, is_free, waits}
use Rattle.guest_boot.specs.Booting.{Grew, AcceptsRunPiece}

-- Which blocks of the cut boot puts among the waiting ones, and which among the free ones.

-- whether a block waits when boot comes to it with these calls done: one of order 10 does where a
-- bit of its guarded units is set; boot accepts each smaller one
abbrev pub waits_then : Boot → List ModuleCall → Block → Bool
waits_then boot done block = block.order == 10 && waits_after boot done block

-- a block, and whether it was put among the waiting ones
pub record PutBlock : Type 0 where
  pub block : Block
  pub waits : Bool

-- a block makes its part of boot's calls, and was put where it belongs when boot came to it
abbrev pub PutsBlock : Boot → List ModuleCall → PutBlock → List ModuleCall → Option Page → Type 0
PutsBlock boot before put calls stop =
    AcceptsBlock boot before put.block calls stop
    × (put.waits ≡ waits_then boot before put.block)

-- The store has these blocks: those that were put among the waiting ones wait, and exactly the
-- pages of the others are free.
pub record HasPut (puts : List PutBlock) (store : State) : Type 0 where
  pub free : (page : ℕ) → is_free store page
      ≡ list_any (λ (put : PutBlock). not put.waits && in_block page put.block) puts
  pub waiting : (first : ℕ) → waits store first
      ≡ list_any (λ (put : PutBlock). put.waits && put.block.first == first) puts

-- Boot came to each of these blocks, one after another, behind the calls before, made the calls
-- after, and put each into the store as it came to it.
pub record AllPut (boot : Boot) (before : List ModuleCall) (blocks : List Block)
    (after : List ModuleCall) (store : State) : Type 0 where
  pub puts : List PutBlock
  pub are : map (λ (put : PutBlock). put.block) puts ≡ blocks
  pub parts : Grew before after (λ now. InTurn (PutsBlock boot) before puts now None)
  pub has : HasPut puts store

-- Boot accepted the early pieces behind the calls before, then the pool, which it shared, and then put
-- the blocks of the cut.
pub record StagesPut (boot : Boot) (before : List ModuleCall) (pieces : List PageRun)
    (after : List ModuleCall) (store : State) : Type 0 where
  pub middle : List ModuleCall
  pub early : Grew before middle (λ now. InTurn (AcceptsRunPiece boot) before pieces now None)
  pub opened : List ModuleCall
  pub pool : Grew middle opened (λ now. InTurn (StagePart boot) middle (pool_stages boot.pool) now None)
  pub blocks : AllPut boot opened (cut boot) after store
