use Rattle.event_rows.proofs.AreaFacts.{areas_answered-not}
use Rattle.event_rows.proofs.areas.full_unanswered_is_not.Goals as goal

pub returns : goal.returns
returns c = areas_answered-not
