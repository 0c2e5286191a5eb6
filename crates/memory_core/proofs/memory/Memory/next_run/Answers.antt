use Rattle.std.proofs.Common.{◌∙◌, ap}
use Rattle.event_core.specs.Calls.{calls_of}
use Rattle.event_core.specs.Units.{bit_after, first_run}
use Rattle.memory_core.specs.Bitmaps.{bits_in}
use Rattle.memory_core.specs.Value.{MemoryValue}
use Rattle.memory_core.proofs.UnitsLemmas.{first_run-same}
use Rattle.memory_core.proofs.memory.Memory.next_run.Goals as goal

pub returns : goal.returns
returns c =
    let i = c.self.inside in
    c.run_from.ensures ∙ first_run-same (bits_in i.bits) (bit_after i.boot.value (calls_of i.boot.value i.entries.items)) c.args.from.0 c.args.to.0 (λ unit low high. c.self.invariant.0.holds.bits unit)
    ∙ ap (λ (m : MemoryValue). first_run (bit_after m.boot (calls_of m.boot m.entries)) c.args.from.0 c.args.to.0) c.self.view_is
