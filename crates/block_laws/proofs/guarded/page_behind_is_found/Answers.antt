use Rattle.block_laws.proofs.HistoryFacts.{guarded-found}
use Rattle.block_laws.proofs.guarded.page_behind_is_found.Goals as goal

pub returns : goal.returns
returns c = guarded-found
