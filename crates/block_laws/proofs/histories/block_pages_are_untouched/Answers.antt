use Rattle.block_laws.proofs.HistoryFacts.{blocks-untouched}
use Rattle.block_laws.proofs.histories.block_pages_are_untouched.Goals as goal

pub returns : goal.returns
returns c = blocks-untouched
