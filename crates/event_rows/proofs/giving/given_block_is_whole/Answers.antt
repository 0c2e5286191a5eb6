use Rattle.event_rows.proofs.GivingFacts.{giving-whole}
use Rattle.event_rows.proofs.giving.given_block_is_whole.Goals as goal

pub returns : goal.returns
returns c = giving-whole
