use Rattle.event_rows.proofs.GivingFacts.{given-owned}
use Rattle.event_rows.proofs.giving.given_block_is_not_owned.Goals as goal

pub returns : goal.returns
returns c = given-owned
