use Rattle.guest_steps.proofs.FinishedLemmas.{all-replied}
use Rattle.guest_steps.proofs.laws.finished_is_replied.Goals as goal

pub returns : goal.returns
returns c = all-replied
