use Rattle.event_rows.proofs.Evaluated.{page_unreported-not}
use Rattle.event_rows.proofs.accepts.page_unreported_is_not.Goals as goal

pub returns : goal.returns
returns c = page_unreported-not
