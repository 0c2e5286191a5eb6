use Rattle.event_laws.proofs.WaitFacts.{waits-as-comes}
use Rattle.event_laws.proofs.waiting.block_waits_as_boot_comes.Goals as goal

pub returns : goal.returns
returns c = waits-as-comes
