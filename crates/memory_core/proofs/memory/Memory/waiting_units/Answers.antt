use Rattle.std.proofs.Common.{◌∙◌, ap}
use Rattle.std.specs.Option.{option_and_then}
use Rattle.event_core.specs.Blocks.{block_units}
use Rattle.memory_core.specs.Value.{MemoryValue}
use Rattle.memory_core.specs.Waiting.{waiting_units}
use Rattle.memory_core.proofs.BitsLemmas.{block-units-same}
use Rattle.memory_core.proofs.BlocksLemmas.{lowest-same}
use Rattle.memory_core.proofs.memory.Memory.waiting_units.Goals as goal

pub returns-clause-units : goal.returns-clause-units
returns-clause-units c =
    let i = c.self.inside in
    let s = c.self.invariant.0 in
    let p = c.peek_unaccepted.ensures in
    c.block_units_of.ensures.units
    ∙ block-units-same i.boot.value i.bits c.peek_unaccepted.result s.same_bits
    ∙ ap (option_and_then (block_units i.boot.value)) (lowest-same i.boot.value i.entries.items i.blocks c.peek_unaccepted.result s.settled s.blocks_are p.block p.lowest p.none)
    ∙ ap (λ (m : MemoryValue). waiting_units m.boot m.entries) c.self.view_is
