use Rattle.std.proofs.Common.{[], ap, ◌∙◌}
use Rattle.io_areas.specs.Transfers.{with_bytes}
use Rattle.io_areas.proofs.EntryLemmas.{with-bytes-none}
use Rattle.guest_cpu.proofs.MadeLemmas.{made-none}
use Rattle.guest_cpu.proofs.made.MadeEntries.new.Goals as goal

pub invariant_of-result : goal.invariant_of-result
invariant_of-result c = made-none c.new.result c.new-2.result c.new.ensures.items c.new-2.ensures.items

pub returns : goal.returns
returns c = ap (λ es. with_bytes es c.new-2.result.items) c.new.ensures.items ∙ ap (with_bytes []) c.new-2.ensures.items ∙ with-bytes-none
