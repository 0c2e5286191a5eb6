use Rattle.std.proofs.Common.{ap, refl, Some}
use Rattle.std.proofs.lemmas.Option.{same_Some}
use Rattle.held_blocks.proofs.HeldLemmas.{apart-at, named-place, unnamed}
use Rattle.held_blocks.proofs.held.HeldBlocks.block_of.Goals as goal

pub returns-in_err-at-clause-block : goal.returns-in_err-at-clause-block
returns-in_err-at-clause-block c =
    rw (← c.self.view_is, c.from_residual.ensures, unnamed c.self.inside.kept.items c.args.name.now c.in_err-at.ensures) refl

pub returns-clause-block : goal.returns-clause-block
returns-clause-block c =
    let k = c.index.result.now in
    let place = named-place c.self.inside.kept.items c.args.name.now c.in_ok-at.at k c.in_ok-at.ensures in
    rw (← c.self.view_is, place.1) (ap (λ x. Some x.block) c.index.ensures)

pub returns-clause-memory : goal.returns-clause-memory
returns-clause-memory c = λ x is.
    let k = c.index.result.now in
    let place = named-place c.self.inside.kept.items c.args.name.now c.in_ok-at.at k c.in_ok-at.ensures in
    rw (← same_Some _ _ is, c.index.ensures) (apart-at c.self.inside.kept.items c.in_ok-at.at k c.self.invariant place.0)
