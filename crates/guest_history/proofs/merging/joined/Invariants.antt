use Rattle.std.proofs.Common.{◌≡◌, ◌++◌}
use Rattle.std.specs.Prelude.{flat_map}
use Rattle.guest_history.proofs.merging.joined.Given as goal

abbrev pub invariant-loop-list : goal.invariant-loop-list
invariant-loop-list l = (l.all.items ≡ flat_map (λ list. list) l.yielded) × (l.fn.lists ≡ l.yielded ++ l.list-iterator.rest.items)
