use Rattle.block_laws.proofs.OwnedFacts.{blocks-apart}
use Rattle.block_laws.proofs.guarded.held_blocks_are_apart.Goals as goal

pub returns : goal.returns
returns c = blocks-apart
