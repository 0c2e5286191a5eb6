use Rattle.dma_map.proofs.KeptLemmas.{dropped}
use Rattle.dma_map.proofs.kept.Mappings.remove.Goals as goal

pub returns-clause-kept : goal.returns-clause-kept
returns-clause-kept c =
    rw (← c.self.view_is, c.drop_named.ensures.items) (dropped c.self.inside.kept.items c.args.name.now)
