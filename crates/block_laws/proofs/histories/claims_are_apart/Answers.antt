use Rattle.block_laws.proofs.ClaimFacts.{legal-claims-apart}
use Rattle.block_laws.proofs.histories.claims_are_apart.Goals as goal

pub returns : goal.returns
returns c = legal-claims-apart
