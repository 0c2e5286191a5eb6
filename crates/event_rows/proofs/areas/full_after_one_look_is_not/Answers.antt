use Rattle.event_rows.proofs.FullFacts.{early-full-not}
use Rattle.event_rows.proofs.areas.full_after_one_look_is_not.Goals as goal

pub returns : goal.returns
returns c = early-full-not
