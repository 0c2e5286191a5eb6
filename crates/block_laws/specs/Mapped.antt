use Rattle.std.specs.Prelude.{ℕ, List, Some, ◌≡◌, ◌+◌, ◌≤◌}
use Rattle.std.specs.List.{AllByRecursion}
use Rattle.event_core.specs.declared.command.Command.{Command}
use Rattle.event_core.specs.Holdings.{Holding, Mapping, Own, holding_of, block_bytes}
use Rattle.event_core.specs.Moved.{Moved}
use Rattle.block_laws.specs.Apart.{own_after}

-- Live mappings and the blocks that they stand for (own rule: a mapped block isn't freed).

-- a mapping stands for bytes of a block that its processor holds
pub record IsOfHeldBlock (own : Own) (mapping : Mapping) : Type 0 where
  pub holding : Holding
  pub held : holding_of own mapping ≡ Some holding
  pub within : mapping.off + mapping.run.len ≤ block_bytes mapping.block

-- so does each live mapping of a processor
abbrev pub MappedAreHeld : Own → Type 0
MappedAreHeld own = AllByRecursion (IsOfHeldBlock own) own.mappings

-- and those of each processor after a history
abbrev pub EachMappedHeld : List (List Command) → List Moved → Type 0
EachMappedHeld scripts history = (cpu : ℕ) → MappedAreHeld (own_after scripts history cpu)
