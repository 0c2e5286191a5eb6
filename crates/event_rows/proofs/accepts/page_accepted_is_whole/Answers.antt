use Rattle.event_rows.proofs.Evaluated.{page_accepted-whole}
use Rattle.event_rows.proofs.accepts.page_accepted_is_whole.Goals as goal

pub returns : goal.returns
returns c = page_accepted-whole
