use Rattle.event_rows.proofs.GivingFacts.{bits_left-not}
use Rattle.event_rows.proofs.giving.bits_left_is_not.Goals as goal

pub returns : goal.returns
returns c = bits_left-not
