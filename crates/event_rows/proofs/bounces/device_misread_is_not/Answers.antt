use Rattle.event_rows.proofs.BounceFacts.{bounce_told-not}
use Rattle.event_rows.proofs.bounces.device_misread_is_not.Goals as goal

pub returns : goal.returns
returns c = bounce_told-not
