use Rattle.std.proofs.Common.{rules}
use Rattle.std.proofs.lemmas.List.Sorted.{IsNonDecreasingBy-from_sort_by_key}
use Rattle.event_core.specs.declared.boot.Descriptor.{Descriptor}
use Rattle.unaccepted_bitmap.proofs.stub.sort_by_start.Goals as goal

pub returns-clause-rise : goal.returns-clause-rise
returns-clause-rise c =
    IsNonDecreasingBy-from_sort_by_key (λ (d : Descriptor). d.start) _ c.in_ok-sort_by_key.ensures.sorted (λ a r q k. search rules)
