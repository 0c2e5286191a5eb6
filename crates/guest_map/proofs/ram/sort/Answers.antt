use Rattle.std.proofs.Common.{rules}
use Rattle.guest_base.specs.declared.memory.PageRun.{PageRun}
use Rattle.std.proofs.lemmas.List.Sorted.{IsNonDecreasingBy-from_sort_by_key}
use Rattle.guest_map.proofs.ram.sort.Goals as goal

pub returns-clause-rise : goal.returns-clause-rise
returns-clause-rise c = IsNonDecreasingBy-from_sort_by_key (λ (run : PageRun). run.pages.first) _ c.sort_unstable_by_key.ensures.sorted (λ a r q k. search rules)
