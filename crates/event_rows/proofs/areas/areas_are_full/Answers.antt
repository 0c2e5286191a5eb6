use Rattle.event_rows.proofs.FullFacts.{areas-full}
use Rattle.event_rows.proofs.areas.areas_are_full.Goals as goal

pub returns : goal.returns
returns c = areas-full
