use Rattle.event_rows.proofs.TouchFacts.{pair-touch}
use Rattle.event_rows.proofs.touches.conversions_touch_private_pages.Goals as goal

pub returns : goal.returns
returns c = pair-touch
