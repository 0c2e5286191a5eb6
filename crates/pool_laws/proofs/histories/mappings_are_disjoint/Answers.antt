use Rattle.pool_laws.proofs.DisjointFacts.{legal-disjoint}
use Rattle.pool_laws.proofs.histories.mappings_are_disjoint.Goals as goal

pub returns : goal.returns
returns c = legal-disjoint
