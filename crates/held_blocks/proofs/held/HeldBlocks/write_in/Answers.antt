use Rattle.std.proofs.Common.{length}
use Rattle.held_blocks.proofs.PlaceLemmas.{block-place, block-placed, place-apart, place-written, room-before}
use Rattle.held_blocks.proofs.held.HeldBlocks.write_in.Goals as goal

pub unreachable-requires : goal.unreachable-requires
unreachable-requires c =
    block-placed c.self.inside.kept.items c.args.block c.in-None.ensures (rw (← c.self.view_is) at c.requires.held)

pub write_reserved-requires : goal.write_reserved-requires
write_reserved-requires c =
    let k = c.index_mut.result.now in
    let place = block-place c.self.inside.kept.items c.args.block c.in-Some.at k c.in-Some.ensures in
    record {
      room = rw (← room-before c.self.inside.kept.items c.args.block c.in-Some.at k 0 place c.index_mut.ensures.value)
          (rw (← c.self.view_is) at c.requires.write_room);
    }

pub invariant_of-self : goal.invariant_of-self
invariant_of-self c =
    let k = c.index_mut.result.now in
    let place = block-place c.self.inside.kept.items c.args.block c.in-Some.at k c.in-Some.ensures in
    place-apart c.self.inside.kept.items c.args.block c.in-Some.at k c.write_reserved.new.self c.self.invariant place c.index_mut.ensures.value

pub returns-clause-held : goal.returns-clause-held
returns-clause-held c =
    let k = c.index_mut.result.now in
    let place = block-place c.self.inside.kept.items c.args.block c.in-Some.at k c.in-Some.ensures in
    rw (← c.self.view_is)
    (place-written c.self.inside.kept.items c.args.block c.in-Some.at k c.write_reserved.new.self c.args.off c.args.bytes (length c.args.bytes)
    c.self.invariant place c.index_mut.ensures.value c.write_reserved.ensures.wrote)
