use Rattle.std.proofs.Common.{ap, sym, subst}
use Rattle.event_core.specs.Holdings.{Own}
use Rattle.held_blocks.specs.Holdings.{HoldingsValue}
use Rattle.held_blocks.specs.Holdings.{AreOfHeld}
use Rattle.held_blocks.specs.Held.{blocks_of}
use Rattle.held_blocks.proofs.MappedLemmas.{all-less}
use Rattle.held_blocks.proofs.OwnLemmas.{with_rest}
use Rattle.held_blocks.proofs.holdings.Holdings.freed.Goals as goal

pub invariant_of-self : goal.invariant_of-self
invariant_of-self c =
    let i = c.self.inside in
    let less = ap (λ (own : Own). own.blocks) c.freed.ensures.held in
    record {
      mapped = subst (λ (hs : _). AreOfHeld hs i.mappings.mappings) (sym less)
          (all-less (blocks_of i.blocks) c.args.name.now i.mappings.mappings (rw (← c.self.view_is) at c.requires) c.self.invariant.mapped);
      pool = c.self.invariant.pool;
    }

pub returns : goal.returns
returns c = record {
  own = rw (← c.self.view_is) (ap (with_rest c.self.inside.mappings c.self.inside.looks) c.freed.ensures.held);
  layout = ap (λ (v : HoldingsValue). v.layout) c.self.view_is;
}
