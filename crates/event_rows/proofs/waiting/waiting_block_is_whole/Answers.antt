use Rattle.event_rows.proofs.WaitingFacts.{waiting-whole}
use Rattle.event_rows.proofs.waiting.waiting_block_is_whole.Goals as goal

pub returns : goal.returns
returns c = waiting-whole
