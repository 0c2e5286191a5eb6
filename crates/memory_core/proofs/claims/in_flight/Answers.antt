use Rattle.std.proofs.Common.{List, Option, ◌<◌, ◌≤◌, length, slice_index_or, sym, ◌∙◌, ap, subst}
use Rattle.memory_core.specs.declared.claims.OpenClaim.{OpenClaim}
use Rattle.memory_core.proofs.FlightLemmas.{flight-found, flight-none}
use Rattle.memory_core.proofs.claims.in_flight.Goals as goal

pub returns-then-is_flight : goal.returns-then-is_flight
returns-then-is_flight c =
    let all = c.as_slice-claim-items.ensures.claims in
    let item = c.claim-item.result in
    let P : List (Option OpenClaim) → Type 0 = λ xs. c.loop-claim.claim-index < length xs in
    flight-found c.args.accepting.now c.loop-claim.claim-index c.loop-claim.cpu item c.loop-claim.invariant (subst P all c.loop-claim-test.true)
    (c.claim-item.is ∙ ap (λ xs. slice_index_or xs c.loop-claim.claim-index item) all)
    (sym c.is_flight.ensures ∙ c.if-is_flight.true)

pub returns : goal.returns
returns c =
    let P : List (Option OpenClaim) → Type 0 = λ xs. length xs ≤ c.loop-claim.claim-index in
    flight-none c.args.accepting.now c.loop-claim.claim-index c.loop-claim.cpu c.loop-claim.invariant (subst P c.as_slice-claim-items.ensures.claims c.loop-claim-test.false)
