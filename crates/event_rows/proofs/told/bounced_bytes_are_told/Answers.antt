use Rattle.event_rows.proofs.ToldFacts.{bounce-told}
use Rattle.event_rows.proofs.told.bounced_bytes_are_told.Goals as goal

pub returns : goal.returns
returns c = bounce-told
