use Rattle.block_laws.proofs.HistoryFacts.{blocks-guarded}
use Rattle.block_laws.proofs.guarded.held_blocks_are_guarded.Goals as goal

pub returns : goal.returns
returns c = blocks-guarded
