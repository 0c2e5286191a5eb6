use Rattle.event_rows.proofs.TwoFacts.{both_first-not}
use Rattle.event_rows.proofs.processors.first_miscounted_is_not.Goals as goal

pub returns : goal.returns
returns c = both_first-not
