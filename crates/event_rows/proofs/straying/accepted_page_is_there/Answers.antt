use Rattle.event_rows.proofs.StrayFacts.{accepted-there}
use Rattle.event_rows.proofs.straying.accepted_page_is_there.Goals as goal

pub returns : goal.returns
returns c = accepted-there
