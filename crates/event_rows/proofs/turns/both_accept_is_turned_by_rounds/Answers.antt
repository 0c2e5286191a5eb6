use Rattle.event_rows.proofs.TurnFacts.{both-turned_by_rounds}
use Rattle.event_rows.proofs.turns.both_accept_is_turned_by_rounds.Goals as goal

pub returns : goal.returns
returns c = both-turned_by_rounds
