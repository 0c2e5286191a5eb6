use Rattle.std.proofs.Common.{[], ap, ◌∙◌}
use Rattle.io_areas.specs.Transfers.{with_bytes}
use Rattle.io_areas.proofs.EntryLemmas.{stands-first, with-bytes-none}
use Rattle.io_areas.proofs.transfers.Transfers.new.Goals as goal

pub invariant_of-result : goal.invariant_of-result
invariant_of-result c = stands-first c.new.result c.new-2.result c.new-3.result c.new.ensures.items c.new-2.ensures.items c.new-3.ensures.items

pub returns : goal.returns
returns c = ap (λ es. with_bytes es c.new-2.result.items) c.new.ensures.items ∙ ap (with_bytes []) c.new-2.ensures.items ∙ with-bytes-none
