use Rattle.event_rows.proofs.ConversionFacts.{pair_found-not}
use Rattle.event_rows.proofs.conversions.half_block_found_is_not.Goals as goal

pub returns : goal.returns
returns c = pair_found-not
