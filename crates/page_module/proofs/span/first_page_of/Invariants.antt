use Rattle.std.proofs.Common.{◌≡◌, drop}
use Rattle.page_module.specs.Marking.{first_page}
use Rattle.page_module.proofs.span.first_page_of.Given as goal

abbrev pub invariant-loop-taken : goal.invariant-loop-taken
invariant-loop-taken l = first_page l.pending l.from (drop l.taken-index l.taken-items) ≡ first_page l.pending l.from l.fn.runs.items
