use Rattle.event_rows.proofs.OnePageFacts.{page-whole}
use Rattle.event_rows.proofs.blocks.block_got_is_whole.Goals as goal

pub returns : goal.returns
returns c = page-whole
