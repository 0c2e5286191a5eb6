use Rattle.guest_steps.proofs.AmongLemmas.{room-together}
use Rattle.guest_steps.proofs.laws.room_leaves_all_together.Goals as goal

pub returns : goal.returns
returns c = room-together
