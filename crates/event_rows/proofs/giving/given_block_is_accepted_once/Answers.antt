use Rattle.event_rows.proofs.OnceFacts.{giving-once}
use Rattle.event_rows.proofs.giving.given_block_is_accepted_once.Goals as goal

pub returns : goal.returns
returns c = giving-once
