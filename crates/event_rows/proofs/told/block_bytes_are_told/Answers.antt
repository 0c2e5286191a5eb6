use Rattle.event_rows.proofs.ToldFacts.{page-told}
use Rattle.event_rows.proofs.told.block_bytes_are_told.Goals as goal

pub returns : goal.returns
returns c = page-told
