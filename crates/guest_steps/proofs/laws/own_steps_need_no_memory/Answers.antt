use Rattle.guest_steps.proofs.OwnStepLemmas.{own-next}
use Rattle.guest_steps.proofs.laws.own_steps_need_no_memory.Goals as goal

pub returns : goal.returns
returns c = own-next
