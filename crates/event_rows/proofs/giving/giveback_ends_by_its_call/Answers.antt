use Rattle.event_rows.proofs.GivingFacts.{giving-ends}
use Rattle.event_rows.proofs.giving.giveback_ends_by_its_call.Goals as goal

pub returns : goal.returns
returns c = giving-ends
