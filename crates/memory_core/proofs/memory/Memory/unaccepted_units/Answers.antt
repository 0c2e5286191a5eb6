use Rattle.std.proofs.Common.{◌∙◌, ap}
use Rattle.event_core.specs.Units.{guarded_units}
use Rattle.memory_core.specs.Bitmaps.{bits_in}
use Rattle.memory_core.specs.Steps.{unaccepted_count}
use Rattle.memory_core.specs.Value.{MemoryValue}
use Rattle.memory_core.proofs.BitsLemmas.{guarded-same, count-same}
use Rattle.memory_core.proofs.memory.Memory.unaccepted_units.Goals as goal

pub returns : goal.returns
returns c =
    let i = c.self.inside in
    let s = c.self.invariant.0 in
    c.count_unaccepted.ensures ∙ count-same i.boot.value i.entries.items (bits_in i.bits) c.guarded_units_of.result s.holds.bits
    ∙ ap (unaccepted_count i.boot.value i.entries.items) (c.guarded_units_of.ensures.units ∙ guarded-same i.boot.value i.bits c.args.start c.args.len s.same_bits)
    ∙ ap (λ (m : MemoryValue). unaccepted_count m.boot m.entries (guarded_units m.boot c.args.start c.args.len)) c.self.view_is
