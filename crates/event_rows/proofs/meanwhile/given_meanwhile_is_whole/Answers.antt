use Rattle.event_rows.proofs.MeanwhileFacts.{meanwhile-whole}
use Rattle.event_rows.proofs.meanwhile.given_meanwhile_is_whole.Goals as goal

pub returns : goal.returns
returns c = meanwhile-whole
