use Rattle.event_laws.proofs.ComingFacts.{comes-to}
use Rattle.event_laws.proofs.waiting.each_block_is_come_to.Goals as goal

pub returns : goal.returns
returns c = comes-to
