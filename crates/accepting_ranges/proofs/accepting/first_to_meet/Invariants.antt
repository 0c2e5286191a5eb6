use Rattle.accepting_ranges.proofs.ClaimLemmas.{NoneBelow}
use Rattle.accepting_ranges.proofs.accepting.first_to_meet.Given as goal

abbrev pub invariant-loop-claim : goal.invariant-loop-claim
invariant-loop-claim g l = NoneBelow g.T.Claim.units l.claims l.range l.claim-index
