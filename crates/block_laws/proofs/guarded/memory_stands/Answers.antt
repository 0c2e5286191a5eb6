use Rattle.block_laws.proofs.HistoryFacts.{blocks-stand}
use Rattle.block_laws.proofs.guarded.memory_stands.Goals as goal

pub returns : goal.returns
returns c = blocks-stand
