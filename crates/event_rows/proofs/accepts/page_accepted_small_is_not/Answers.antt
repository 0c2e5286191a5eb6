use Rattle.event_rows.proofs.Evaluated.{page_accepted_small-not}
use Rattle.event_rows.proofs.accepts.page_accepted_small_is_not.Goals as goal

pub returns : goal.returns
returns c = page_accepted_small-not
