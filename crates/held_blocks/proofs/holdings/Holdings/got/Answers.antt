use Rattle.std.proofs.Common.{ap, sym, subst}
use Rattle.event_core.specs.Holdings.{Own}
use Rattle.held_blocks.specs.Holdings.{HoldingsValue}
use Rattle.held_blocks.specs.Holdings.{AreOfHeld}
use Rattle.held_blocks.proofs.MappedLemmas.{all-more}
use Rattle.held_blocks.proofs.OwnLemmas.{with_rest}
use Rattle.held_blocks.proofs.holdings.Holdings.got.Goals as goal

pub invariant_of-self : goal.invariant_of-self
invariant_of-self c =
    let i = c.self.inside in
    let more = ap (λ (own : Own). own.blocks) c.got.ensures.held in
    record {
      mapped = subst (λ (hs : _). AreOfHeld hs i.mappings.mappings) (sym more)
          (all-more _ _ i.mappings.mappings (rw (← c.self.view_is) at c.requires.fresh) c.self.invariant.mapped);
      pool = c.self.invariant.pool;
    }

pub returns : goal.returns
returns c = record {
  own = rw (← c.self.view_is) (ap (with_rest c.self.inside.mappings c.self.inside.looks) c.got.ensures.held);
  layout = ap (λ (v : HoldingsValue). v.layout) c.self.view_is;
}
