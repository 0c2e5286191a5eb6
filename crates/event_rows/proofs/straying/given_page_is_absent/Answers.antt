use Rattle.event_rows.proofs.StrayFacts.{given-absent}
use Rattle.event_rows.proofs.straying.given_page_is_absent.Goals as goal

pub returns : goal.returns
returns c = given-absent
