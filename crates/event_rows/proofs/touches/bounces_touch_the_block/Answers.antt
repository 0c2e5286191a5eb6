use Rattle.event_rows.proofs.TouchFacts.{bounces-touch}
use Rattle.event_rows.proofs.touches.bounces_touch_the_block.Goals as goal

pub returns : goal.returns
returns c = bounces-touch
