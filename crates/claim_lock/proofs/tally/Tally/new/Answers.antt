use Rattle.std.proofs.lemmas.List.{get_or-replicate}
use Rattle.claim_lock.proofs.tally.Tally.new.Goals as goal

pub returns-clause-counts : goal.returns-clause-counts
returns-clause-counts c = λ cpu below. get_or-replicate 64 cpu 0 0 below
