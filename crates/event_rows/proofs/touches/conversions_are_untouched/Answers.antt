use Rattle.event_rows.proofs.TouchFacts.{pair-untouched}
use Rattle.event_rows.proofs.touches.conversions_are_untouched.Goals as goal

pub returns : goal.returns
returns c = pair-untouched
