use Rattle.std.proofs.Common.{◌≡◌, ◌≢◌, ℕ, ◌<◌, Option, None, Some, List, length, sym, ◌∙◌, ap, subst, slice_get, get_or}
use Rattle.std.proofs.lemmas.Option.{slice_get-get_or}
use Rattle.event_core.specs.declared.boot.Boot.{Boot}
use Rattle.event_core.specs.Claims.{claim_of}
use Rattle.page_module.specs.Spans.{Taken}
use Rattle.guest_steps.specs.Ground.{Ground}
use Rattle.guest_steps.specs.Seen.{Seen, Accepted}
use Rattle.guest_steps.specs.Standing.{IsOut, Stands, Together}
use Rattle.guest_steps.specs.Steps.{IsBlocked}

-- A blocked processor.

-- a processor with which nothing is out has no open claim
pub no-claim-out : (c : Seen) (base : Ground) → Stands c base → c.out ≡ None → claim_of c.boot base.memory.entries c.number ≡ None
no-claim-out c base stands = by_out c.out c.done stands.out where
  by_out : (out : Option Taken) (unsaid : Option Accepted) → IsOut c base.memory out unsaid → out ≡ None → claim_of c.boot base.memory.entries c.number ≡ None
  by_out None None told is = told
  by_out None (Some done) told is = absurd told
  by_out (Some span) unsaid told is = cc

-- another processor has an open claim
pub record WaitsFor (all : List Seen) (cpu : ℕ) : Type 0 where
  pub other : ℕ
  pub waited : Seen
  pub at : slice_get all other ≡ Some waited
  pub differ : other ≢ cpu
  pub out : waited.out ≢ None

pub blocked-waits : (boot : Boot) (all : List Seen) (base : Ground) (cpu : ℕ) (c : Seen) → Together boot all base → slice_get all cpu ≡ Some c → IsBlocked c base.memory.entries → WaitsFor all cpu
blocked-waits boot all base cpu c t at blocked =
    let was = t.each cpu c at in
    let there : blocked.other < length all = subst (λ n. blocked.other < n) (ap (λ (b : Boot). b.cpus) was.1 ∙ sym t.count) blocked.among in
    let other = get_or all blocked.other c in
    let found = slice_get-get_or all blocked.other c there in
    let its = t.each blocked.other other found in
    let entries = base.memory.entries in
    record {
      other = blocked.other;
      waited = other;
      at = found;
      differ = λ same. blocked.claimed (ap (claim_of c.boot entries) (same ∙ sym was.0) ∙ no-claim-out c base was.2 blocked.rests);
      out = λ none. blocked.claimed
          (ap (λ b. claim_of b entries blocked.other) (was.1 ∙ sym its.1) ∙ ap (claim_of other.boot entries) (sym its.0) ∙ no-claim-out other base its.2 none);
    }
