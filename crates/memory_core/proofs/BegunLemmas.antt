use Rattle.std.proofs.Common.{◌≡◌, ℕ, ◌+◌, ◌^◌, ◌<◌, ◌≤◌, Option, None, Some, List, [], ◌∷◌, ◌++◌, refl, sym, ◌∙◌, ap, subst, arith, max, length}
use Rattle.std.specs.Prelude.{slice_set, map}
use Rattle.std.specs.Option.{ForSome, option_and_then}
use Rattle.guest_base.specs.Search.{count_such}
use Rattle.guest_base.proofs.SearchLemmas.{count_such_same}
use Rattle.guest_base.specs.declared.memory.Block.{Block}
use Rattle.guest_base.specs.declared.memory.Units.{Units}
use Rattle.event_core.specs.declared.boot.Boot.{Boot}
use Rattle.event_core.specs.declared.entry.Entry.{Entry}
use Rattle.event_core.specs.declared.entry.Turn.{Turn}
use Rattle.event_core.specs.declared.event.Event.{Event}
use Rattle.event_core.specs.declared.module_call.ModuleCall.{ModuleCall}
use Rattle.event_core.specs.Acceptance.{stop_of}
use Rattle.event_core.specs.Calls.{calls_of}
use Rattle.event_core.specs.Claims.{Claimed, claim_of, in_the_way}
use Rattle.event_core.specs.MemoryRows.{page_state, run_of_claim, next_run}
use Rattle.event_core.specs.Units.{bit_after, first_run}
use Rattle.page_module.specs.Spans.{Taken}
use Rattle.event_core.specs.Table.{Bits}
use Rattle.accepting_ranges.specs.Claims.{kept_of, MeetsNone}
use Rattle.block_laws.proofs.FitFacts.{ClaimFits}
use Rattle.memory_core.specs.OpenClaims.{units_of, MeetsNoOther}
use Rattle.memory_core.specs.Bitmaps.{bits_in, both_or_none}
use Rattle.memory_core.specs.Value.{MemoryValue, Handed}
use Rattle.memory_core.specs.Waiting.{waiting_left}
use Rattle.memory_core.specs.Steps.{last_stamp, bare_entry, Appends, HasStates, IsForLowest, IsOutFor, unaccepted_count}
use Rattle.memory_core.specs.StandsFor.{handed_for}
use Rattle.memory_core.specs.Answers.{OthersKeep, Opens, GoesOn, Closes, UsesFor, room_after}
use Rattle.memory_core.specs.declared.claims.OpenClaim.{OpenClaim}
use Rattle.memory_core.proofs.BeginLemmas.{FirstRun, first-run}
use Rattle.memory_core.proofs.BitsLemmas.{run-same}
use Rattle.memory_core.proofs.OpenLemmas.{kept-same, kept-other, handed-is}

-- the memory as contracts see it
abbrev pub seen : Boot → List Entry → List (Option OpenClaim) → ℕ → MemoryValue
seen boot entries claims room = record { boot = boot; entries = entries; out = map handed_for claims; room = room }

-- one bare entry was appended
pub appends-of : (old new : MemoryValue) (turn turned : Turn) (last : ℕ) (event event' : Event) → new.boot ≡ old.boot → new.entries ≡ old.entries ++ bare_entry turn last event ∷ [] → last ≡ last_stamp old.entries → event ≡ event' → turned ≡ record turn { clock = max turn.clock last + 1 } → Appends old new turn turned event'
appends-of old new turn turned last event event' boot entries is same clock = record {
  boot = boot;
  entries = entries ∙ ap (λ n. old.entries ++ bare_entry turn n event ∷ []) is ∙ ap (λ e. old.entries ++ bare_entry turn (last_stamp old.entries) e ∷ []) same;
  clock = clock ∙ ap (λ n. record turn { clock = max turn.clock n + 1 }) is;
}

-- ---- what is claimed

pub both-is : (U R : Option Units) (pair : Units × Units) → both_or_none U R ≡ Some pair → (U ≡ Some pair.0) × (R ≡ Some pair.1)
both-is None R pair is = cc
both-is (Some units) None pair is = cc
both-is (Some units) (Some run) pair is = let same : (units, run) ≡ pair = cc in (ap (λ (p : Units × Units). Some p.0) same, ap (λ (p : Units × Units). Some p.1) same)

pub record ClaimedFacts (boot : Boot) (entries : List Entry) (bits : Option Bits) (claims : List (Option OpenClaim)) (asked : Option Units) (room : ℕ) (units run : Units) : Type 0 where
  pub units_are : asked ≡ Some units
  pub run_is : run_of_claim boot entries asked ≡ Some run
  pub first : FirstRun (bits_in bits) units run
  pub clear : MeetsNone units_of claims units
  pub end : units.first + units.count < 2 ^ 64
  pub need : count_such (bits_in bits) units.first units.count < room
  pub fits : run.count < room

units-end : (U : Option Units) (units : Units) → U ≡ Some units → ForSome U (λ u. u.first + u.count < 2 ^ 64) → units.first + units.count < 2 ^ 64
units-end U units is end = let P : Option Units → Type 0 = λ o. ForSome o (λ (u : Units). u.first + u.count < 2 ^ 64) in let here : ForSome (Some units) (λ (u : Units). u.first + u.count < 2 ^ 64) = subst P is end in here units refl

pub claimed-facts : (boot : Boot) (entries : List Entry) (claims : List (Option OpenClaim)) (room : ℕ) (v : MemoryValue) (bits : Option Bits) (U R : Option Units) (pair : Units × Units)
    → seen boot entries claims room ≡ v → ((unit : ℕ) → bits_in bits unit ≡ bit_after boot (calls_of boot entries) unit)
    → ForSome U (λ u. u.first + u.count < 2 ^ 64)
    → R ≡ option_and_then (λ (u : Units). first_run (bits_in bits) u.first (u.first + u.count)) U
    → both_or_none U R ≡ Some pair → MeetsNoOther claims U
    → unaccepted_count v.boot v.entries U < v.room
    → ClaimedFacts boot entries bits claims U room pair.0 pair.1
claimed-facts boot entries claims room v bits U R pair view set end is_run both clear need =
    let two = both-is U R pair both in
    let run : run_of_claim boot entries U ≡ Some pair.1 = sym (run-same boot entries (bits_in bits) U set) ∙ sym is_run ∙ two.1 in
    let found : first_run (bits_in bits) pair.0.first (pair.0.first + pair.0.count) ≡ Some pair.1 = ap (option_and_then (λ (u : Units). first_run (bits_in bits) u.first (u.first + u.count))) (sym two.0) ∙ sym is_run ∙ two.1 in
    let M : MemoryValue → Type 0 = λ m. unaccepted_count m.boot m.entries U < m.room in
    let N : Option Units → Type 0 = λ u. unaccepted_count boot entries u < room in
    let C : Option Units → Type 0 = MeetsNoOther claims in
    let K : ℕ → Type 0 = λ n. n < room in
    let first = first-run (bits_in bits) pair.0 pair.1 found in
    let counts = first.counts in
    let all : count_such (bits_in bits) pair.0.first pair.0.count < room =
    subst K (sym (count_such_same (bits_in bits) (bit_after boot (calls_of boot entries)) pair.0.first pair.0.count (record { same = λ unit low high. set unit })))
    (subst N two.0 (subst M (sym view) need)) in
    record {
      units_are = two.0;
      run_is = run;
      first = first;
      clear = subst C two.0 clear;
      end = units-end U pair.0 two.0 end;
      need = all;
      fits = omega (arith, counts, all);
    }

no-run : (boot : Boot) (entries : List Entry) (U R : Option Units) → both_or_none U R ≡ None → R ≡ run_of_claim boot entries U → run_of_claim boot entries U ≡ None
no-run boot entries None R both is = refl
no-run boot entries (Some units) None both is = sym is
no-run boot entries (Some units) (Some run) both is = cc

-- the run is the definition's
pub run-is : (boot : Boot) (entries : List Entry) (bits : Option Bits) (U R : Option Units) → ((unit : ℕ) → bits_in bits unit ≡ bit_after boot (calls_of boot entries) unit)
    → R ≡ option_and_then (λ (u : Units). first_run (bits_in bits) u.first (u.first + u.count)) U → R ≡ run_of_claim boot entries U
run-is boot entries bits U R set is_run = is_run ∙ run-same boot entries (bits_in bits) U set

-- nothing is claimed
pub none-claimed : (boot : Boot) (entries : List Entry) (bits : Option Bits) (U R : Option Units) → ((unit : ℕ) → bits_in bits unit ≡ bit_after boot (calls_of boot entries) unit)
    → R ≡ option_and_then (λ (u : Units). first_run (bits_in bits) u.first (u.first + u.count)) U → both_or_none U R ≡ None
    → run_of_claim boot entries U ≡ None
none-claimed boot entries bits U R set is_run both = no-run boot entries U R both (run-is boot entries bits U R set is_run)

-- what it uses
pub uses-for : (old new : MemoryValue) (block : Option Block) → new.out ≡ old.out → 0 < old.room → new.room ≡ room_after block old.room → UsesFor block old new
uses-for old new None out some room = record { out = out; room = omega (arith, some, room) }
uses-for old new (Some block) out some room = record { out = out; room = room }

-- the claim fits
pub claim-fits : (boot : Boot) (entries : List Entry) (claims : List (Option OpenClaim)) (room : ℕ) (v : MemoryValue) (bits : Option Bits) (cpu : ℕ) (block : Option Block) (U R : Option Units)
    → seen boot entries claims room ≡ v → claim_of v.boot v.entries cpu ≡ None → ((unit : ℕ) → bits_in bits unit ≡ bit_after boot (calls_of boot entries) unit)
    → R ≡ option_and_then (λ (u : Units). first_run (bits_in bits) u.first (u.first + u.count)) U → ForSome block (IsForLowest v U)
    → ClaimFits boot entries cpu block U R
claim-fits boot entries claims room v bits cpu block U R view free set is_run lowest = record {
  none = ap (λ (m : MemoryValue). claim_of m.boot m.entries cpu) view ∙ free;
  found = run-is boot entries bits U R set is_run;
  lowest = λ b is. (let P : MemoryValue → Type 0 = λ m. IsForLowest m U b in let at : IsForLowest (seen boot entries claims room) U b = subst P (sym view) (lowest b is) in (at.lowest, at.guarded));
}

-- what is out with the others stays, where no module call was made
pub others-kept : (boot : Boot) (entries entries' : List Entry) (claims claims' : List (Option OpenClaim)) (room room' cpu : ℕ) (k : Option OpenClaim) → calls_of boot entries' ≡ calls_of boot entries → waiting_left boot entries' ≤ waiting_left boot entries → claims' ≡ slice_set claims cpu k → OthersKeep (seen boot entries claims room) (seen boot entries' claims' room') cpu
others-kept boot entries entries' claims claims' room room' cpu k calls falls is = record {
  handed = λ other differ. handed-is claims' other ∙ ap (λ cs. handed_for (kept_of cs other)) is ∙ ap handed_for (kept-other claims cpu other k differ) ∙ sym (handed-is claims other);
  states = λ other claim page differ has inside. ap (λ cs. page_state boot cs page) calls;
  waiting = falls;
}

-- what is out with the processor is the span of the run
abbrev pub out-for : (boot : Boot) (entries : List Entry) (claims claims' : List (Option OpenClaim)) (room cpu : ℕ) (run : Units) (span : Taken) (o : OpenClaim) (calls : List ModuleCall) → cpu < length claims → claims' ≡ slice_set claims cpu (Some o) → o.ticket ≡ span.ticket → calls_of boot entries ≡ calls → HasStates boot calls run span → IsOutFor (seen boot entries claims' room) cpu run span
out-for boot entries claims claims' room cpu run span o calls inside is ticket calls_are has = record {
  room = o.room;
  handed = handed-is claims' cpu ∙ ap (λ cs. handed_for (kept_of cs cpu)) is ∙ ap handed_for (kept-same claims cpu (Some o) inside) ∙ ap (λ t. Some (let h : Handed = record { ticket = t; room = o.room } in h)) ticket;
  has = (let P : List ModuleCall → Type 0 = λ cs. HasStates boot cs run span in subst P (sym calls_are) has);
}

-- the claim is begun: the span of its first run is out, and the room for its end is kept
pub opens-of : (boot : Boot) (entries entries' : List Entry) (claims claims' : List (Option OpenClaim)) (room cpu : ℕ) (U : Option Units) (run : Units) (span : Taken) (o : OpenClaim) (calls : List ModuleCall)
    → in_the_way boot entries U ≡ None → run_of_claim boot entries U ≡ Some run → o.room + run.count + 1 ≡ room
    → cpu < length claims → claims' ≡ slice_set claims cpu (Some o) → o.ticket ≡ span.ticket → calls_of boot entries' ≡ calls → HasStates boot calls run span
    → Opens (seen boot entries claims room) (seen boot entries' claims' 0) cpu U span
opens-of boot entries entries' claims claims' room cpu U run span o calls free first kept inside is ticket calls_are has = record {
  run = run;
  free = free;
  first = first;
  out = out-for boot entries' claims claims' 0 cpu run span o calls inside is ticket calls_are has;
  kept = kept;
  left = refl;
}

-- the claim goes on: the span of its next run is out
pub goes-on-of : (boot : Boot) (entries entries' : List Entry) (claims claims' : List (Option OpenClaim)) (room cpu : ℕ) (claim : Claimed) (now : List ModuleCall) (run : Units) (span : Taken) (was o : OpenClaim) (calls : List ModuleCall)
    → next_run boot claim (stop_of now) ≡ Some run → kept_of claims cpu ≡ Some was → o.room + run.count ≡ was.room
    → cpu < length claims → claims' ≡ slice_set claims cpu (Some o) → o.ticket ≡ span.ticket → calls_of boot entries' ≡ calls → HasStates boot calls run span
    → GoesOn (seen boot entries claims room) (seen boot entries' claims' 0) cpu claim now span
goes-on-of boot entries entries' claims claims' room cpu claim now run span was o calls next has_was kept inside is ticket calls_are has = record {
  run = run;
  next = next;
  out = out-for boot entries' claims claims' 0 cpu run span o calls inside is ticket calls_are has;
  kept = λ handed handed_is.
      let made : Handed = record { ticket = was.ticket; room = was.room } in
      let same : Some made ≡ Some handed = sym (handed-is claims cpu ∙ ap handed_for has_was) ∙ handed_is in
      let one : made ≡ handed = cc in
      kept ∙ ap (λ (h : Handed). h.room) one;
  left = refl;
}

-- the claim is closed
pub closes-of : (boot : Boot) (entries entries' : List Entry) (claims claims' : List (Option OpenClaim)) (room cpu : ℕ) → cpu < length claims → claims' ≡ slice_set claims cpu None → Closes (seen boot entries claims room) (seen boot entries' claims' room) cpu
closes-of boot entries entries' claims claims' room cpu inside is = record {
  none = handed-is claims' cpu ∙ ap (λ cs. handed_for (kept_of cs cpu)) is ∙ ap handed_for (kept-same claims cpu None inside);
  room = refl;
}
