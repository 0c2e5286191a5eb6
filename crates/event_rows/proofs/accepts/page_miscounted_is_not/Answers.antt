use Rattle.event_rows.proofs.Evaluated.{page_miscounted-not}
use Rattle.event_rows.proofs.accepts.page_miscounted_is_not.Goals as goal

pub returns : goal.returns
returns c = page_miscounted-not
