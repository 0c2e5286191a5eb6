use Rattle.held_blocks.specs.Held.{blocks_of}
use Rattle.held_blocks.proofs.OwnLemmas.{of-live}
use Rattle.held_blocks.proofs.holdings.Holdings.mapped.Goals as goal

pub invariant_of-self : goal.invariant_of-self
invariant_of-self c =
    let i = c.self.inside in
    record {
      mapped = rw c.insert.ensures.kept (
        of-live (blocks_of i.blocks) c.args.name.now c.args.mapping c.args.off c.args.direction c.args.run c.named.result c.live_at-live.result
            (rw (← c.self.view_is) at c.named.ensures.named) (rw (← c.self.view_is) at c.requires.within) c.live_at-live.ensures,
        c.self.invariant.mapped,
      );
      pool = c.self.invariant.pool;
    }
