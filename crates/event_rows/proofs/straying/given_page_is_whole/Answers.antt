use Rattle.event_rows.proofs.StrayFacts.{stray-whole}
use Rattle.event_rows.proofs.straying.given_page_is_whole.Goals as goal

pub returns : goal.returns
returns c = stray-whole
