use Rattle.event_rows.proofs.AreaFacts.{areas-whole}
use Rattle.event_rows.proofs.areas.areas_filled_is_whole.Goals as goal

pub returns : goal.returns
returns c = areas-whole
