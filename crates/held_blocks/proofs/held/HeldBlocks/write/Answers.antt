use Rattle.std.proofs.Common.{length}
use Rattle.held_blocks.specs.Held.{owned}
use Rattle.held_blocks.proofs.HeldLemmas.{ends-some, some-place, where-err, where-ok, write-apart, write-held, write-same}
use Rattle.held_blocks.proofs.held.HeldBlocks.write.Goals as goal

pub unreachable-requires : goal.unreachable-requires
unreachable-requires c =
    some-place c.self.inside.kept.items c.args.name.now c.in-None.ensures
    (rw (← c.self.view_is) at (ends-some (owned c.args.self.now) c.args.name.now c.args.off (length c.args.bytes.now) c.requires))

pub invariant_of-self : goal.invariant_of-self
invariant_of-self c =
    write-apart c.self.inside.kept.items c.args.name.now c.in-Some.at c.index_mut.result.now c.write.new.self
    c.self.invariant c.in-Some.ensures c.index_mut.ensures.value

pub returns-clause-ok : goal.returns-clause-ok
returns-clause-ok c =
    rw (← c.self.view_is)
    (where-ok c.write.result
    (λ wrote h named. write-held c.self.inside.kept.items c.args.name.now c.in-Some.at c.index_mut.result.now c.write.new.self
    c.args.off c.args.bytes.now (length c.args.bytes.now) c.self.invariant c.in-Some.ensures c.index_mut.ensures.value wrote h named)
    c.write.ensures.ok)

pub returns-clause-err : goal.returns-clause-err
returns-clause-err c =
    rw (← c.self.view_is)
    (where-err c.write.result
    (write-same c.self.inside.kept.items c.args.name.now c.in-Some.at c.index_mut.result.now c.write.new.self
    c.in-Some.ensures c.index_mut.ensures.value)
    c.write.ensures.err)
