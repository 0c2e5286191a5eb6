use Rattle.std.proofs.Common.{◌+◌, List, ap, sym, subst}
use Rattle.event_core.specs.Holdings.{Holding, Own}
use Rattle.held_blocks.specs.Held.{blocks_of}
use Rattle.held_blocks.specs.Holdings.{AreOfHeld}
use Rattle.held_blocks.proofs.MappedLemmas.{all-written}
use Rattle.held_blocks.proofs.holdings.Holdings.copied_out.Goals as goal

pub invariant_of-self : goal.invariant_of-self
invariant_of-self c =
    let i = c.self.inside in
    let wrote = ap (λ (own : Own). own.blocks) c.write_in.ensures.held in
    record {
      mapped = subst (λ (hs : List Holding). AreOfHeld hs i.mappings.mappings) (sym wrote)
          (all-written c.live-live.result.block (c.from.result + c.args.off) c.args.bytes (blocks_of i.blocks) i.mappings.mappings c.self.invariant.mapped);
      pool = c.self.invariant.pool;
    }
