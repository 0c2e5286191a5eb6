use Rattle.event_rows.proofs.BounceFacts.{bounce_misread-not}
use Rattle.event_rows.proofs.bounces.block_miscopied_is_not.Goals as goal

pub returns : goal.returns
returns c = bounce_misread-not
