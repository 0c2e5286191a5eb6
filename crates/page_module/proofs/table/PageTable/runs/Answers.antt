use Rattle.std.proofs.Common.{◌∙◌}
use Rattle.page_module.proofs.MaximalLemmas.{maximal-runs}
use Rattle.page_module.proofs.table.PageTable.runs.Goals as goal

pub returns : goal.returns
returns c =
    rw (c.from_vec.ensures ∙ c.in_ok-runs.ensures.items ∙ c.as_slice.ensures.value, ← c.self.view_is)
    (maximal-runs c.self.inside.runs.items c.self.invariant.rising c.self.invariant.differing)
