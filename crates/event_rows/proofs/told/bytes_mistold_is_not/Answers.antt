use Rattle.event_rows.proofs.ToldFacts.{page_mistold-not}
use Rattle.event_rows.proofs.told.bytes_mistold_is_not.Goals as goal

pub returns : goal.returns
returns c = page_mistold-not
