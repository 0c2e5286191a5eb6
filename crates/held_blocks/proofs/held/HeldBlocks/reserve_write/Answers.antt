use Rattle.held_blocks.proofs.HeldLemmas.{where-ok}
use Rattle.held_blocks.proofs.PlaceLemmas.{block-place, block-placed, place-apart, place-room, place-same}
use Rattle.held_blocks.proofs.held.HeldBlocks.reserve_write.Goals as goal

pub unreachable-requires : goal.unreachable-requires
unreachable-requires c =
    block-placed c.self.inside.kept.items c.args.block c.in-None.ensures (rw (← c.self.view_is) at c.requires)

pub invariant_of-self : goal.invariant_of-self
invariant_of-self c =
    let k = c.index_mut.result.now in
    let place = block-place c.self.inside.kept.items c.args.block c.in-Some.at k c.in-Some.ensures in
    place-apart c.self.inside.kept.items c.args.block c.in-Some.at k c.reserve.new.self c.self.invariant place c.index_mut.ensures.value

pub returns-clause-ok : goal.returns-clause-ok
returns-clause-ok c =
    let k = c.index_mut.result.now in
    let place = block-place c.self.inside.kept.items c.args.block c.in-Some.at k c.in-Some.ensures in
    where-ok c.reserve.result
    (λ some. rw (place-room c.self.inside.kept.items c.args.block c.in-Some.at k c.reserve.new.self _ place c.index_mut.ensures.value) some)
    c.reserve.ensures.ok

pub returns-clause-same : goal.returns-clause-same
returns-clause-same c =
    let k = c.index_mut.result.now in
    let place = block-place c.self.inside.kept.items c.args.block c.in-Some.at k c.in-Some.ensures in
    rw (← c.self.view_is)
    (place-same c.self.inside.kept.items c.args.block c.in-Some.at k c.reserve.new.self place c.index_mut.ensures.value c.reserve.ensures.runs)
