use Rattle.event_rows.proofs.OnePageFacts.{page_misread-not}
use Rattle.event_rows.proofs.blocks.block_misread_is_not.Goals as goal

pub returns : goal.returns
returns c = page_misread-not
