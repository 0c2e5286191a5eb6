use Rattle.event_rows.proofs.Evaluated.{unit_unguarded-not}
use Rattle.event_rows.proofs.accepts.unit_unguarded_is_not.Goals as goal

pub returns : goal.returns
returns c = unit_unguarded-not
