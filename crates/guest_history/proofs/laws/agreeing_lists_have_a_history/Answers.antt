use Rattle.guest_history.proofs.AgreeLemmas.{agreeing-history}
use Rattle.guest_history.proofs.laws.agreeing_lists_have_a_history.Goals as goal

pub returns : goal.returns
returns c = agreeing-history
