use Rattle.guest_steps.proofs.HistoryLemmas.{one-history}
use Rattle.guest_steps.proofs.laws.standing_lists_have_a_history.Goals as goal

pub returns : goal.returns
returns c = one-history
