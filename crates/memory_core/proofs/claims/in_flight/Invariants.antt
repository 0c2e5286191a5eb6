use Rattle.memory_core.proofs.FlightLemmas.{NoFlight}
use Rattle.memory_core.proofs.claims.in_flight.Given as goal

abbrev pub invariant-loop-claim : goal.invariant-loop-claim
invariant-loop-claim l = NoFlight l.accepting l.claim-index l.cpu
