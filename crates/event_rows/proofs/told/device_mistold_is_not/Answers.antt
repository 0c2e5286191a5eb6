use Rattle.event_rows.proofs.ToldFacts.{device_mistold-not}
use Rattle.event_rows.proofs.told.device_mistold_is_not.Goals as goal

pub returns : goal.returns
returns c = device_mistold-not
