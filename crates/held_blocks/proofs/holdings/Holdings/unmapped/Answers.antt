use Rattle.std.proofs.Common.{ap, refl, not, bytes_eq}
use Rattle.event_core.specs.Holdings.{Mapping}
use Rattle.held_blocks.specs.Holdings.{HoldingsValue}
use Rattle.held_blocks.specs.Held.{blocks_of}
use Rattle.held_blocks.proofs.MappedLemmas.{all-filter}
use Rattle.held_blocks.proofs.holdings.Holdings.unmapped.Goals as goal

pub invariant_of-self : goal.invariant_of-self
invariant_of-self c = record {
  mapped = rw c.remove.ensures.kept
      (all-filter (λ (m : Mapping). not (bytes_eq m.name c.args.mapping.now)) (blocks_of c.self.inside.blocks) c.self.inside.mappings.mappings c.self.invariant.mapped);
  pool = c.self.invariant.pool;
}

pub returns : goal.returns
returns c = record {
  own = rw (← c.self.view_is, c.remove.ensures.kept) refl;
  layout = ap (λ (v : HoldingsValue). v.layout) c.self.view_is;
}
