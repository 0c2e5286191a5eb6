use Rattle.event_rows.proofs.StrayFacts.{stray_found-not}
use Rattle.event_rows.proofs.straying.given_page_found_is_not.Goals as goal

pub returns : goal.returns
returns c = stray_found-not
