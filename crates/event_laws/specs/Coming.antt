use Rattle.std.specs.Prelude.{ℕ, List, [], ◌∷◌, ◌++◌, Option, None, Bool, false, ◌≡◌}
use Rattle.std.specs.Option.{option_map_or}
use Rattle.guest_base.specs.Search.{any_such}
use Rattle.guest_base.specs.declared.memory.Pages.{Pages}
use Rattle.guest_base.specs.declared.memory.Units.{Units}
use Rattle.guest_base.specs.declared.memory.Block.{Block}
use Rattle.guest_base.specs.declared.memory.HostRun.{HostRun}
use Rattle.event_core.specs.declared.boot.Descriptor.{Descriptor}
use Rattle.event_core.specs.declared.boot.Boot.{Boot}
use Rattle.event_core.specs.declared.module_call.ModuleCall.{ModuleCall}
use Rattle.event_core.specs.Map.{MapRules}
use Rattle.event_core.specs.Table.{Bits}
use Rattle.event_core.specs.Given.{FitsGiven, EarlyBy}
use Rattle.event_core.specs.Units.{bit_after}
use Rattle.event_core.specs.Blocks.{block_units}
use Rattle.event_core.specs.Boot.{BootRight, InTurn, StagePart, Stage, BlockAccepted, stages_of}

-- When boot comes to a block, and whether the block waits by the calls that are done then.

-- the map from which a boot was made, with what was asked for (own rule)
pub record BootMade (boot : Boot) : Type 0 where
  pub descriptors : List Descriptor
  pub hosts : List HostRun
  pub table : Option Bits
  pub slots : ℕ
  pub areas : ℕ
  pub cpus : ℕ
  pub rules : MapRules descriptors hosts
  pub fits : FitsGiven descriptors table
  pub right : BootRight descriptors hosts table slots areas cpus boot

-- Boot comes to a block with calls done: the parts of the stages before the block's make them, and the parts of its own stage and of
-- the later ones make the calls that are left (own rule, after the stages of boot).
pub record ComesTo (boot : Boot) (block : Block) (done : List ModuleCall) : Type 0 where
  pub made : BootMade boot
  pub pieces : List Pages
  pub early : EarlyBy made.descriptors made.table pieces
  pub before : List Stage
  pub later : List Stage
  pub stages : stages_of boot pieces ≡ before ++ BlockAccepted block ∷ later
  pub rest : List ModuleCall
  pub calls : boot.calls ≡ done ++ rest
  pub did : InTurn (StagePart boot) [] before done None
  pub does : InTurn (StagePart boot) done (BlockAccepted block ∷ later) rest None

-- a bit of the block's guarded units is set after calls (after Linux's range_contains_unaccepted_memory)
abbrev pub waits_after : Boot → List ModuleCall → Block → Bool
waits_after boot done block = option_map_or (λ (units : Units). any_such (bit_after boot done) units.first units.count) (block_units boot block) false
