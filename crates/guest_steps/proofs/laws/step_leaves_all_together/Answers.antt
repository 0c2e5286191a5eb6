use Rattle.guest_steps.proofs.AmongLemmas.{makes-together}
use Rattle.guest_steps.proofs.laws.step_leaves_all_together.Goals as goal

pub returns : goal.returns
returns c = makes-together
