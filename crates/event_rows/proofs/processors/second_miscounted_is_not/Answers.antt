use Rattle.event_rows.proofs.TwoFacts.{both_second-not}
use Rattle.event_rows.proofs.processors.second_miscounted_is_not.Goals as goal

pub returns : goal.returns
returns c = both_second-not
