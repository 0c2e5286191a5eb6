use Rattle.std.proofs.Common.{ap, is_some, ◌∙◌}
use Rattle.dma_map.proofs.KeptLemmas.{any-place}
use Rattle.dma_map.proofs.kept.Mappings.any_in.Goals as goal

pub returns : goal.returns
returns c =
    rw (← c.self.view_is)
    (c.is_some.ensures ∙ ap is_some c.place_in.ensures ∙ any-place c.self.inside.kept.items c.args.block)
