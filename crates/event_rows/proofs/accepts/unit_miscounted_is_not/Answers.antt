use Rattle.event_rows.proofs.Evaluated.{unit_miscounted-not}
use Rattle.event_rows.proofs.accepts.unit_miscounted_is_not.Goals as goal

pub returns : goal.returns
returns c = unit_miscounted-not
