use Rattle.guest_steps.proofs.BeginningLemmas.{beginning}
use Rattle.guest_steps.proofs.laws.beginning_stands.Goals as goal

pub returns : goal.returns
returns c = beginning
