use Rattle.guest_steps.proofs.FoundLemmas.{found-standing}
use Rattle.guest_steps.proofs.laws.others_leave_standing.Goals as goal

pub returns : goal.returns
returns c = found-standing
