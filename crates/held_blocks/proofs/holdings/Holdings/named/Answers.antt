use Rattle.std.proofs.Common.{refl}
use Rattle.held_blocks.proofs.holdings.Holdings.named.Goals as goal

pub returns-clause-memory : goal.returns-clause-memory
returns-clause-memory c = c.in-Some.ensures.memory c.in-Some.block refl
