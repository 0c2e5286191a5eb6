use Rattle.guest_steps.proofs.OwnStepLemmas.{area-next}
use Rattle.guest_steps.proofs.laws.area_steps_take_place_there.Goals as goal

pub returns : goal.returns
returns c = area-next
