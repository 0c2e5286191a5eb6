use Rattle.guest_steps.proofs.AmongLemmas.{next-rises}
use Rattle.guest_steps.proofs.laws.entries_go_on_rising.Goals as goal

pub returns : goal.returns
returns c = next-rises
