use Rattle.std.specs.Prelude.{ℕ, List, Some, true, false, ◌≡◌, ◌≢◌, ◌⊎◌}
use Rattle.guest_base.specs.declared.memory.Block.{Block}
use Rattle.event_core.specs.declared.command.Command.{Command}
use Rattle.event_core.specs.Absent.{in_block}
use Rattle.event_core.specs.Holdings.{Holding, Own, block_named}
use Rattle.event_core.specs.Moved.{Moved, made_by}
use Rattle.event_core.specs.Own.{own_of, script_of}

-- Blocks that processors have (own rule, after the page allocator: a page has one owner).

-- two blocks have no page in common
abbrev pub AreApart : Block → Block → Type 0
AreApart a b = (page : ℕ) → in_block page a ≡ true → in_block page b ≡ false

-- what a processor has after a history
abbrev pub own_after : List (List Command) → List Moved → ℕ → Own
own_after scripts history cpu = own_of (script_of scripts cpu) (made_by cpu history)

-- the blocks of two names are apart: of two processors, or of one under different names
abbrev pub NamesApart : List (List Command) → List Moved → Type 0
NamesApart scripts history =
    (cpu other : ℕ) (name of : List ℕ) (h k : Holding) → (cpu ≢ other) ⊎ (name ≢ of) →
    block_named (own_after scripts history cpu) name ≡ Some h →
    block_named (own_after scripts history other) of ≡ Some k → AreApart h.block k.block
