use Rattle.std.proofs.Common.{sym, ◌∙◌}
use Rattle.held_blocks.proofs.HeldLemmas.{apart-at, named-place, some-place}
use Rattle.held_blocks.proofs.held.HeldBlocks.kept_of.Goals as goal

pub unreachable-requires : goal.unreachable-requires
unreachable-requires c =
    some-place c.self.inside.kept.items c.args.name.now (sym c.in-None.is ∙ c.place_of.ensures) (rw (← c.self.view_is) at c.requires)

pub returns-clause-holding : goal.returns-clause-holding
returns-clause-holding c =
    let k = c.index.result.now in
    let place = named-place c.self.inside.kept.items c.args.name.now c.in-Some.at k (sym c.in-Some.is ∙ c.place_of.ensures) in
    rw (← c.self.view_is, c.index.ensures) place.1

pub returns-clause-memory : goal.returns-clause-memory
returns-clause-memory c =
    let k = c.index.result.now in
    let place = named-place c.self.inside.kept.items c.args.name.now c.in-Some.at k (sym c.in-Some.is ∙ c.place_of.ensures) in
    rw c.index.ensures (apart-at c.self.inside.kept.items c.in-Some.at k c.self.invariant place.0)
