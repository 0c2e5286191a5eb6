use Rattle.event_rows.proofs.ConversionFacts.{pair-whole}
use Rattle.event_rows.proofs.conversions.block_converted_is_whole.Goals as goal

pub returns : goal.returns
returns c = pair-whole
