use Rattle.guest_history.proofs.AgreeLemmas.{rising-one}
use Rattle.guest_history.proofs.laws.rising_by_processor_is_one.Goals as goal

pub returns : goal.returns
returns c = rising-one
