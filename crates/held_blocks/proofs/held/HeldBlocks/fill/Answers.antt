use Rattle.std.proofs.Common.{[], ◌∷◌}
use Rattle.std.specs.List.{repeat}
use Rattle.held_blocks.specs.Held.{owned}
use Rattle.held_blocks.proofs.HeldLemmas.{ends-some, some-place, where-err, where-ok, write-apart, write-held, write-same}
use Rattle.held_blocks.proofs.held.HeldBlocks.fill.Goals as goal

pub unreachable-requires : goal.unreachable-requires
unreachable-requires c =
    some-place c.self.inside.kept.items c.args.name.now c.in-None.ensures
    (rw (← c.self.view_is) at (ends-some (owned c.args.self.now) c.args.name.now c.args.off c.args.len c.requires))

pub invariant_of-self : goal.invariant_of-self
invariant_of-self c =
    write-apart c.self.inside.kept.items c.args.name.now c.in-Some.at c.index_mut.result.now c.fill.new.self
    c.self.invariant c.in-Some.ensures c.index_mut.ensures.value

pub returns-clause-ok : goal.returns-clause-ok
returns-clause-ok c =
    rw (← c.self.view_is)
    (where-ok c.fill.result
    (λ wrote h named. write-held c.self.inside.kept.items c.args.name.now c.in-Some.at c.index_mut.result.now c.fill.new.self
    c.args.off (repeat c.args.len (c.args.byte ∷ [])) 0 c.self.invariant c.in-Some.ensures c.index_mut.ensures.value wrote h named)
    c.fill.ensures.ok)

pub returns-clause-err : goal.returns-clause-err
returns-clause-err c =
    rw (← c.self.view_is)
    (where-err c.fill.result
    (write-same c.self.inside.kept.items c.args.name.now c.in-Some.at c.index_mut.result.now c.fill.new.self
    c.in-Some.ensures c.index_mut.ensures.value)
    c.fill.ensures.err)
