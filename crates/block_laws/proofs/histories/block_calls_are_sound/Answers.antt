use Rattle.block_laws.proofs.CallFacts.{blocks-accepted-once}
use Rattle.block_laws.proofs.histories.block_calls_are_sound.Goals as goal

pub returns : goal.returns
returns c = blocks-accepted-once
