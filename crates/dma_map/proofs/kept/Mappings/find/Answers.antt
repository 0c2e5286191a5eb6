use Rattle.std.proofs.Common.{ap, refl, Some}
use Rattle.dma_map.proofs.KeptLemmas.{named-place, unnamed}
use Rattle.dma_map.proofs.kept.Mappings.find.Goals as goal

pub returns-in_err-at : goal.returns-in_err-at
returns-in_err-at c =
    rw (← c.self.view_is, c.from_residual.ensures, unnamed c.self.inside.kept.items c.args.name.now c.in_err-at.ensures) refl

pub returns : goal.returns
returns c =
    let k = c.index.result.now in
    let place = named-place c.self.inside.kept.items c.args.name.now c.in_ok-at.at k c.in_ok-at.ensures in
    rw (← c.self.view_is, place) (ap (λ x. Some x.live) c.index.ensures)
