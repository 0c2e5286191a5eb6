use Rattle.event_core.specs.Holdings.{block_named}
use Rattle.held_blocks.specs.Held.{owned}
use Rattle.held_blocks.proofs.HeldLemmas.{ends-some}
use Rattle.held_blocks.proofs.OwnLemmas.{count-of}
use Rattle.held_blocks.proofs.holdings.Holdings.read.Goals as goal

pub returns-clause-count : goal.returns-clause-count
returns-clause-count c =
    let own = owned c.self.inside.blocks in
    count-of c.read.result (block_named own c.args.name.now) c.args.off c.args.len
    (ends-some own c.args.name.now c.args.off c.args.len (rw (← c.self.view_is) at c.requires))
    c.read.ensures
