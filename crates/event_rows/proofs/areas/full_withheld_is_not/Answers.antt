use Rattle.event_rows.proofs.FullFacts.{full_withheld-not}
use Rattle.event_rows.proofs.areas.full_withheld_is_not.Goals as goal

pub returns : goal.returns
returns c = full_withheld-not
