use Rattle.std.proofs.Common.{◌∙◌, ap}
use Rattle.event_core.specs.Units.{guarded_units}
use Rattle.memory_core.specs.Value.{MemoryValue}
use Rattle.memory_core.proofs.BitsLemmas.{guarded-same}
use Rattle.memory_core.proofs.memory.Memory.claim_units.Goals as goal

pub returns : goal.returns
returns c = record {
  units =
      c.guarded_units_of.ensures.units ∙ guarded-same c.self.inside.boot.value c.self.inside.bits c.args.start c.args.len c.self.invariant.0.same_bits
      ∙ ap (λ (m : MemoryValue). guarded_units m.boot c.args.start c.args.len) c.self.view_is;
  end = c.guarded_units_of.ensures.end;
}
