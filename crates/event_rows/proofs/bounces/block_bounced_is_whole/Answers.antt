use Rattle.event_rows.proofs.BounceFacts.{bounce-whole}
use Rattle.event_rows.proofs.bounces.block_bounced_is_whole.Goals as goal

pub returns : goal.returns
returns c = bounce-whole
