use Rattle.event_rows.proofs.ConversionFacts.{pair_misread-not}
use Rattle.event_rows.proofs.conversions.bytes_kept_is_not.Goals as goal

pub returns : goal.returns
returns c = pair_misread-not
