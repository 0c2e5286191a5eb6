use Rattle.std.proofs.Common.{◌≡◌, ℕ, false, cond, [], refl}
use Rattle.guest_base.specs.declared.memory.Block.{Block}
use Rattle.event_core.specs.declared.boot.Boot.{Boot}
use Rattle.event_core.specs.Blocks.{Waits, Loose, block_state, is_owned, waits_at_boot}

-- Blocks when boot is over.

-- a block waits or is loose
pub first-state : (boot : Boot) (block : Block) → block_state boot [] block ≡ cond (waits_at_boot boot block) Waits Loose
unfolding block_state
first-state boot block = refl

-- no page has an owner
pub none-owned : (page : ℕ) → is_owned [] page ≡ false
unfolding is_owned
none-owned page = refl
