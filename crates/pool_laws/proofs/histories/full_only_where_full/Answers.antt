use Rattle.pool_laws.proofs.LookFacts.{legal-full}
use Rattle.pool_laws.proofs.histories.full_only_where_full.Goals as goal

pub returns : goal.returns
returns c = legal-full
