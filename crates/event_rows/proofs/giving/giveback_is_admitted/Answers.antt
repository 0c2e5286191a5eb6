use Rattle.event_rows.proofs.GivingFacts.{giving-admitted}
use Rattle.event_rows.proofs.giving.giveback_is_admitted.Goals as goal

pub returns : goal.returns
returns c = giving-admitted
