use Rattle.event_rows.proofs.MeanwhileFacts.{meanwhile_taken-not}
use Rattle.event_rows.proofs.meanwhile.given_meanwhile_taken_is_not.Goals as goal

pub returns : goal.returns
returns c = meanwhile_taken-not
