use Rattle.block_laws.proofs.ToldFacts.{legal-told}
use Rattle.block_laws.proofs.histories.bytes_are_told.Goals as goal

pub returns : goal.returns
returns c = legal-told
