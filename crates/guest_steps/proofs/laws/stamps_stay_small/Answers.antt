use Rattle.guest_steps.proofs.StampLemmas.{stamps-small}
use Rattle.guest_steps.proofs.laws.stamps_stay_small.Goals as goal

pub returns : goal.returns
returns c = stamps-small
