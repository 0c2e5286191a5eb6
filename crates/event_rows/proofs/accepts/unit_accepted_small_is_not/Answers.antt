use Rattle.event_rows.proofs.Evaluated.{unit_accepted_small-not}
use Rattle.event_rows.proofs.accepts.unit_accepted_small_is_not.Goals as goal

pub returns : goal.returns
returns c = unit_accepted_small-not
