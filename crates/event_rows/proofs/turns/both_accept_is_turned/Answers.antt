use Rattle.event_rows.proofs.TurnFacts.{both-turned}
use Rattle.event_rows.proofs.turns.both_accept_is_turned.Goals as goal

pub returns : goal.returns
returns c = both-turned
