use Rattle.std.proofs.Common.{ap, refl, arith, [], ◌∷◌}
use Rattle.std.specs.List.{repeat}
use Rattle.held_blocks.specs.Held.{owned}
use Rattle.held_blocks.proofs.HeldLemmas.{ends-some, where-err, where-ok}
use Rattle.held_blocks.proofs.MappedLemmas.{all-after}
use Rattle.held_blocks.proofs.OwnLemmas.{own-blocks, with_rest}
use Rattle.held_blocks.proofs.holdings.Holdings.fill.Goals as goal

pub fill-requires : goal.fill-requires
fill-requires c = rw (← c.self.view_is) at c.requires

pub invariant_of-self : goal.invariant_of-self
invariant_of-self c =
    let i = c.self.inside in
    let some = ends-some (owned i.blocks) c.args.name.now c.args.off c.args.len (rw (← c.self.view_is) at c.requires) in
    record {
      mapped = all-after c.fill.result i.blocks c.fill.new.self i.mappings.mappings c.args.name.now c.args.off (repeat c.args.len (c.args.byte ∷ [])) some c.fill.ensures.ok c.fill.ensures.err c.self.invariant.mapped;
      pool = c.self.invariant.pool;
    }

pub returns-clause-ok : goal.returns-clause-ok
returns-clause-ok c =
    rw (← c.self.view_is)
    (where-ok c.fill.result (λ says h named. record { own = ap (with_rest c.self.inside.mappings c.self.inside.looks) (says h named); layout = refl }) c.fill.ensures.ok)

pub returns-clause-err : goal.returns-clause-err
returns-clause-err c =
    rw (← c.self.view_is)
    (where-err c.fill.result
    (λ same. record { own = own-blocks c.self.inside.blocks c.fill.new.self c.self.inside.mappings c.self.inside.looks same; layout = refl; block_room = c.fill.ensures.room; mapping_room = omega arith }) c.fill.ensures.err)
