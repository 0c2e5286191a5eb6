use Rattle.std.proofs.Common.{rules}
use Rattle.std.proofs.lemmas.Iterator.{YieldsList-from_slice, YieldsList-from_map, items_from_collect}
use Rattle.guest_history.proofs.merging.cpus_of.Goals as goal

pub returns : goal.returns
returns c = items_from_collect c.collect.result c.collect.ensures.ran (YieldsList-from_map _ (λ e. e.cpu) (YieldsList-from_slice c.args.entries.now cc) c.map.ensures.closure (λ x r q k. search rules))
