use Rattle.event_rows.proofs.GivingFacts.{giving-refused}
use Rattle.event_rows.proofs.giving.giveback_is_refused.Goals as goal

pub returns : goal.returns
returns c = giving-refused
