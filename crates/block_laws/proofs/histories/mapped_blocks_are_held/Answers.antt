use Rattle.block_laws.proofs.MappedFacts.{legal-mapped}
use Rattle.block_laws.proofs.histories.mapped_blocks_are_held.Goals as goal

pub returns : goal.returns
returns c = legal-mapped
