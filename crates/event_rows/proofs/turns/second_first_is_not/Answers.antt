use Rattle.event_rows.proofs.TurnFacts.{second_first-turned}
use Rattle.event_rows.proofs.turns.second_first_is_not.Goals as goal

pub returns : goal.returns
returns c = second_first-turned
