use Rattle.event_rows.proofs.TurnFacts.{nothing-turned}
use Rattle.event_rows.proofs.turns.turned_to_nothing_is_not.Goals as goal

pub returns : goal.returns
returns c = nothing-turned
