use Rattle.event_rows.proofs.Evaluated.{unit_accepted-whole}
use Rattle.event_rows.proofs.accepts.unit_accepted_is_whole.Goals as goal

pub returns : goal.returns
returns c = unit_accepted-whole
