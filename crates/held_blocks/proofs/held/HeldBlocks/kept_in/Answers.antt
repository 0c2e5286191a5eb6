use Rattle.std.proofs.Common.{sym, ◌∙◌}
use Rattle.held_blocks.proofs.PlaceLemmas.{block-place, block-placed, place-memory}
use Rattle.held_blocks.proofs.held.HeldBlocks.kept_in.Goals as goal

pub unreachable-requires : goal.unreachable-requires
unreachable-requires c =
    block-placed c.self.inside.kept.items c.args.block (sym c.in-None.is ∙ c.place_in.ensures) (rw (← c.self.view_is) at c.requires)

pub returns-clause-holding : goal.returns-clause-holding
returns-clause-holding c =
    let k = c.index.result.now in
    let place = block-place c.self.inside.kept.items c.args.block c.in-Some.at k (sym c.in-Some.is ∙ c.place_in.ensures) in
    rw (← c.self.view_is, c.index.ensures) place.holding

pub returns-clause-same : goal.returns-clause-same
returns-clause-same c =
    let k = c.index.result.now in
    let place = block-place c.self.inside.kept.items c.args.block c.in-Some.at k (sym c.in-Some.is ∙ c.place_in.ensures) in
    rw c.index.ensures place.is

pub returns-clause-memory : goal.returns-clause-memory
returns-clause-memory c =
    let k = c.index.result.now in
    let place = block-place c.self.inside.kept.items c.args.block c.in-Some.at k (sym c.in-Some.is ∙ c.place_in.ensures) in
    place-memory c.self.inside.kept.items c.args.block c.in-Some.at k c.self.invariant place
