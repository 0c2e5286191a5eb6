use Rattle.event_rows.proofs.PrintFacts.{both-printed}
use Rattle.event_rows.proofs.processors.both_accept_is_printed.Goals as goal

pub returns : goal.returns
returns c = both-printed
