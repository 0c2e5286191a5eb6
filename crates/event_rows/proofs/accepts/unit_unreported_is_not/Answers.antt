use Rattle.event_rows.proofs.Evaluated.{unit_unreported-not}
use Rattle.event_rows.proofs.accepts.unit_unreported_is_not.Goals as goal

pub returns : goal.returns
returns c = unit_unreported-not
