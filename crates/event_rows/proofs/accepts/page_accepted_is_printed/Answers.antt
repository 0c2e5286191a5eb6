use Rattle.event_rows.proofs.PrintFacts.{page_accepted-printed}
use Rattle.event_rows.proofs.accepts.page_accepted_is_printed.Goals as goal

pub returns : goal.returns
returns c = page_accepted-printed
