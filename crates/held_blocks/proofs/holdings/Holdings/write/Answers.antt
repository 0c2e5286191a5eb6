use Rattle.std.proofs.Common.{ap, refl, arith, length}
use Rattle.held_blocks.specs.Held.{owned}
use Rattle.held_blocks.proofs.HeldLemmas.{ends-some, where-err, where-ok}
use Rattle.held_blocks.proofs.MappedLemmas.{all-after}
use Rattle.held_blocks.proofs.OwnLemmas.{own-blocks, with_rest}
use Rattle.held_blocks.proofs.holdings.Holdings.write.Goals as goal

pub write-requires : goal.write-requires
write-requires c = rw (← c.self.view_is) at c.requires

pub invariant_of-self : goal.invariant_of-self
invariant_of-self c =
    let i = c.self.inside in
    let some = ends-some (owned i.blocks) c.args.name.now c.args.off (length c.args.bytes.now) (rw (← c.self.view_is) at c.requires) in
    record {
      mapped = all-after c.write.result i.blocks c.write.new.self i.mappings.mappings c.args.name.now c.args.off c.args.bytes.now some c.write.ensures.ok c.write.ensures.err c.self.invariant.mapped;
      pool = c.self.invariant.pool;
    }

pub returns-clause-ok : goal.returns-clause-ok
returns-clause-ok c =
    rw (← c.self.view_is)
    (where-ok c.write.result (λ says h named. record { own = ap (with_rest c.self.inside.mappings c.self.inside.looks) (says h named); layout = refl }) c.write.ensures.ok)

pub returns-clause-err : goal.returns-clause-err
returns-clause-err c =
    rw (← c.self.view_is)
    (where-err c.write.result
    (λ same. record { own = own-blocks c.self.inside.blocks c.write.new.self c.self.inside.mappings c.self.inside.looks same; layout = refl; block_room = c.write.ensures.room; mapping_room = omega arith }) c.write.ensures.err)
