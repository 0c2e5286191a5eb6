use Rattle.std.proofs.Common.{◌≡◌, ◌++◌, map, take, drop}
use Rattle.page_module.specs.Marking.{accepted_in}
use Rattle.page_module.proofs.span.accept_pages.Given as goal

abbrev pub invariant-loop-taken : goal.invariant-loop-taken
invariant-loop-taken l = l.taken-items ≡ map (accepted_in l.pages) (take l.taken-index l.initial.taken-items) ++ drop l.taken-index l.initial.taken-items
