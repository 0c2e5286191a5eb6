use Rattle.std.proofs.Common.{◌≡◌, ◌++◌, map, take, drop}
use Rattle.page_module.specs.Marking.{all_in_state}
use Rattle.page_module.proofs.span.set_state.Given as goal

abbrev pub invariant-loop-taken : goal.invariant-loop-taken
invariant-loop-taken l = l.taken-items ≡ map (all_in_state l.state) (take l.taken-index l.initial.taken-items) ++ drop l.taken-index l.initial.taken-items
