use Rattle.std.proofs.Common.{◌≡◌, ℕ, ◌-◌, ◌<◌, ◌≤◌, Bool, true, false, List, Option, None, Some, length, min, refl, sym, ◌∙◌, ap, arith}
use Rattle.std.specs.Prelude.{is_some, slice_index_or}
use Rattle.std.proofs.lemmas.List.{get_or_read_under}
use Rattle.guest_base.specs.Search.{first_such}
use Rattle.guest_base.proofs.SearchLemmas.{first_such_none, first_such_is, first_such_same, first_such_clip}
use Rattle.event_core.specs.declared.boot.Boot.{Boot}
use Rattle.event_core.specs.declared.entry.Entry.{Entry}
use Rattle.event_core.specs.Blocks.{in_flight_with, is_for_block}
use Rattle.event_core.specs.Claims.{Claimed, claim_of}
use Rattle.page_module.specs.declared.ticket.Ticket.{Ticket}
use Rattle.accepting_ranges.specs.Claims.{kept_of}
use Rattle.memory_core.specs.OpenClaims.{first_flight, is_flight}
use Rattle.memory_core.specs.StandsFor.{ClaimStands}
use Rattle.memory_core.specs.declared.claims.OpenClaim.{OpenClaim}

-- Which processor accepts a block.

-- none of the first claims is for a block, and this is their number
pub record NoFlight (claims : List (Option OpenClaim)) (index cpu : ℕ) : Type 0 where
  pub number : cpu ≡ index
  pub none : (before : ℕ) → before < index → is_flight (kept_of claims before) ≡ false

pub flight-found : (claims : List (Option OpenClaim)) (index cpu : ℕ) (claim : Option OpenClaim) → NoFlight claims index cpu → index < length claims → claim ≡ slice_index_or claims index claim → is_flight claim ≡ true → Some cpu ≡ first_flight claims
flight-found claims index cpu claim none below at is =
    let same = get_or_read_under claims index (length claims) claim None at below refl in
    ap Some none.number
    ∙ sym (first_such_is (λ n. is_flight (kept_of claims n)) 0 (length claims) index (record { low = omega arith; high = omega (arith, below); passes = sym (ap is_flight same) ∙ is; before = λ n low high. none.none n high }))

pub flight-none : (claims : List (Option OpenClaim)) (index cpu : ℕ) → NoFlight claims index cpu → length claims ≤ index → None ≡ first_flight claims
flight-none claims index cpu none all = sym (first_such_none (λ n. is_flight (kept_of claims n)) 0 (length claims) (record { fails = λ n low high. none.none n (omega (arith, high, all)) }))

-- ---- the kept claims say who accepts a block

same-flight : (boot : Boot) (bit : ℕ → Bool) (tickets : List Ticket) (kept : Option OpenClaim) (claim : Option Claimed) → ClaimStands boot bit tickets kept claim → is_for_block claim ≡ is_flight kept
same-flight boot bit tickets None None stands = refl
same-flight boot bit tickets (Some kept) (Some claim) stands = ap is_some (sym stands.block)
same-flight boot bit tickets None (Some claim) stands = absurd stands
same-flight boot bit tickets (Some kept) None stands = absurd stands

no-flight : (cpu end : ℕ) (kept : Option OpenClaim) → ((claim : OpenClaim) → kept ≡ Some claim → cpu < end) → end ≤ cpu → is_flight kept ≡ false
no-flight cpu end None low high = refl
no-flight cpu end (Some claim) low high = let below = low claim refl in absurd (omega (arith, below, high))

pub flight-same : (boot : Boot) (memory : List Entry) (bit : ℕ → Bool) (tickets : List Ticket) (claims : List (Option OpenClaim)) → boot.cpus ≤ length claims → ((cpu : ℕ) (claim : OpenClaim) → kept_of claims cpu ≡ Some claim → cpu < boot.cpus)
    → ((cpu : ℕ) → ClaimStands boot bit tickets (kept_of claims cpu) (claim_of boot memory cpu)) → in_flight_with boot memory ≡ first_flight claims
unfolding in_flight_with
flight-same boot memory bit tickets claims few low stands =
    let test : ℕ → Bool = λ cpu. is_flight (kept_of claims cpu) in
    let clip : min (length claims) boot.cpus - 0 ≡ boot.cpus = omega (arith, few) in
    let all : length claims - 0 ≡ length claims = omega arith in
    first_such_same (λ cpu. is_for_block (claim_of boot memory cpu)) test 0 boot.cpus (record { same = λ cpu from to. same-flight boot bit tickets (kept_of claims cpu) (claim_of boot memory cpu) (stands cpu) })
    ∙ ap (first_such test 0) (sym clip)
    ∙ first_such_clip test 0 (length claims) boot.cpus (λ cpu past. no-flight cpu boot.cpus (kept_of claims cpu) (low cpu) past)
    ∙ ap (first_such test 0) all
