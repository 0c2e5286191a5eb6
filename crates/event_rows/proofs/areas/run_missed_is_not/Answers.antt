use Rattle.event_rows.proofs.FullFacts.{run_missed-not}
use Rattle.event_rows.proofs.areas.run_missed_is_not.Goals as goal

pub returns : goal.returns
returns c = run_missed-not
