use Rattle.event_rows.proofs.TwoFacts.{both-whole}
use Rattle.event_rows.proofs.processors.both_accept_is_whole.Goals as goal

pub returns : goal.returns
returns c = both-whole
