use Rattle.std.proofs.Common.{◌∙◌, ap}
use Rattle.event_core.specs.Blocks.{lowest_waiting}
use Rattle.memory_core.specs.Value.{MemoryValue}
use Rattle.memory_core.proofs.BlocksLemmas.{lowest-same}
use Rattle.memory_core.proofs.memory.Memory.waiting_block.Goals as goal

pub returns : goal.returns
returns c =
    let i = c.self.inside in
    let s = c.self.invariant.0 in
    let p = c.peek_unaccepted.ensures in
    lowest-same i.boot.value i.entries.items i.blocks c.peek_unaccepted.result s.settled s.blocks_are p.block p.lowest p.none
    ∙ ap (λ (m : MemoryValue). lowest_waiting m.boot m.entries) c.self.view_is
