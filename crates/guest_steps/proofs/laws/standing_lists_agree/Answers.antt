use Rattle.guest_steps.proofs.TogetherLemmas.{lists-agree}
use Rattle.guest_steps.proofs.laws.standing_lists_agree.Goals as goal

pub returns : goal.returns
returns c = lists-agree
