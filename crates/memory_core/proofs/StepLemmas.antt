use Rattle.std.proofs.Common.{◌≡◌, ◌≢◌, ℕ, ◌⊎◌, ◌+◌, ◌*◌, ◌^◌, ◌<◌, ◌≤◌, true, false, Option, None, Some, List, [], ◌∷◌, ◌++◌, refl, sym, ◌∙◌, ap, subst, inl, inr, arith, cond, append-nil, append_assoc, length, max, eq-eqb, eqb-true}
use Rattle.std.specs.Prelude.{All, Vec, vec_capacity, ◌==◌}
use Rattle.std.specs.declared.alloc.Global.{Global}
use Rattle.std.proofs.Math.Path.{fun_ext}
use Rattle.std.proofs.Math.Nat.{mul-le-mul_right}
use Rattle.std.proofs.lemmas.Bool.{cases_Bool}
use Rattle.std.proofs.lemmas.List.{length_push, same_from_push}
use Rattle.std.proofs.lemmas.List.Elements.{All-pop}
use Rattle.std.proofs.lemmas.List.Sums.{fold-append}
use Rattle.guest_base.specs.Ranges.{in_range}
use Rattle.guest_base.specs.declared.memory.Block.{Block}
use Rattle.guest_base.specs.declared.memory.Units.{Units}
use Rattle.event_core.specs.declared.boot.Boot.{Boot}
use Rattle.event_core.specs.declared.entry.Entry.{Entry}
use Rattle.event_core.specs.declared.entry.Turn.{Turn}
use Rattle.event_core.specs.declared.event.Event.{Event}
use Rattle.event_core.specs.declared.event.Event.TheVariants.{Claim}
use Rattle.event_core.specs.declared.module_call.ModuleCall.{ModuleCall}
use Rattle.event_core.specs.Calls.{calls_of}
use Rattle.event_core.specs.Claims.{Claimed, claim_of, claim_step, opened}
use Rattle.event_core.specs.MemoryRows.{page_state, pages_first, pages_count}
use Rattle.event_core.proofs.RisingLemmas.{all-middle, rising-push}
use Rattle.event_core.proofs.StandingLemmas.{calls_of-push, claim_of-push}
use Rattle.page_module.specs.Tables.{Table}
use Rattle.event_core.specs.Table.{Bits}
use Rattle.block_allocator.specs.State.{State}
use Rattle.accepting_ranges.specs.Claims.{kept_of}
use Rattle.memory_core.specs.Away.{NoneOf, RunsKeep, Steady, WaitingFalls}
use Rattle.memory_core.specs.Bitmaps.{bits_in, both_or_none}
use Rattle.memory_core.specs.KeptBlocks.{BlocksAfter}
use Rattle.memory_core.specs.Settled.{Settled}
use Rattle.memory_core.specs.Steps.{last_stamp, bare_entry}
use Rattle.memory_core.specs.StandsFor.{StandsFor, HoldsFor}
use Rattle.memory_core.specs.declared.claims.OpenClaim.{OpenClaim}
use Rattle.memory_core.proofs.BlockStepLemmas.{BlocksGo}
use Rattle.memory_core.proofs.ClearLemmas.{nat-cases}

-- ---- one more entry

pub last-push : (entries : List Entry) (turn : Turn) (last : ℕ) (event : Event) → last ≡ last_stamp entries → last_stamp (entries ++ bare_entry turn last event ∷ []) ≡ max turn.clock last + 1
last-push entries turn last event is =
    fold-append (λ n (e : Entry). max n e.stamp) 0 entries (bare_entry turn last event ∷ [])
    ∙ ap (λ n. max n (max turn.clock last + 1)) (sym is)
    ∙ (let greater : max last (max turn.clock last + 1) ≡ max turn.clock last + 1 = omega arith in greater)

-- a claim's event has no module calls
pub calls-claimed : (boot : Boot) (entries : List Entry) (turn : Turn) (last : ℕ) (block : Option Block) (units run : Option Units) → calls_of boot (entries ++ bare_entry turn last (Claim block units run) ∷ []) ≡ calls_of boot entries
calls-claimed boot entries turn last block units run = calls_of-push boot entries (bare_entry turn last (Claim block units run)) ∙ append-nil (calls_of boot entries)

pub same-is : (cpu : ℕ) → (cpu == cpu) ≡ true
same-is cpu = eq-eqb cpu cpu refl

pub not-same : (cpu other : ℕ) → other ≢ cpu → (cpu == other) ≡ false
not-same cpu other differ = elim (cases_Bool (cpu == other)) [ inl t ↦ absurd (differ (sym (eqb-true cpu other t))) | inr f ↦ f ]

pub fewer : (a b size : ℕ) → a ≤ b → a * size ≤ b * size
fewer a b size less = mul-le-mul_right size less

-- the processor's own claim is stepped, each other's stays
pub claim-mine : (boot : Boot) (entries : List Entry) (turn : Turn) (last : ℕ) (event : Event) → claim_of boot (entries ++ bare_entry turn last event ∷ []) turn.cpu.0 ≡ claim_step boot (calls_of boot entries) (claim_of boot entries turn.cpu.0) event
claim-mine boot entries turn last event =
    claim_of-push boot entries (bare_entry turn last event) turn.cpu.0
    ∙ ap (λ b. cond b (claim_step boot (calls_of boot entries) (claim_of boot entries turn.cpu.0) event) (claim_of boot entries turn.cpu.0)) (same-is turn.cpu.0)

pub claim-other : (boot : Boot) (entries : List Entry) (turn : Turn) (last : ℕ) (event : Event) (other : ℕ) → other ≢ turn.cpu.0 → claim_of boot (entries ++ bare_entry turn last event ∷ []) other ≡ claim_of boot entries other
claim-other boot entries turn last event other differ =
    claim_of-push boot entries (bare_entry turn last event) other
    ∙ ap (λ b. cond b (claim_step boot (calls_of boot entries) (claim_of boot entries other) event) (claim_of boot entries other)) (not-same turn.cpu.0 other differ)

not-open : (block : Option Block) (U R : Option Units) (calls : List ModuleCall) → both_or_none U R ≡ None → opened block U R calls ≡ None
not-open block None R calls is = refl
not-open block (Some units) None calls is = refl
not-open block (Some units) (Some run) calls is = cc

-- a claim without a run leaves no claim
pub claims-closed : (boot : Boot) (entries : List Entry) (turn : Turn) (last : ℕ) (block : Option Block) (units run : Option Units) → claim_of boot entries turn.cpu.0 ≡ None → both_or_none units run ≡ None → claim_of boot (entries ++ bare_entry turn last (Claim block units run) ∷ []) ≡ claim_of boot entries
claims-closed boot entries turn last block units run free none =
    fun_ext (λ cpu. elim (nat-cases cpu turn.cpu.0) [
      | inl same ↦
          ap (claim_of boot (entries ++ bare_entry turn last (Claim block units run) ∷ [])) same ∙ claim-mine boot entries turn last (Claim block units run)
          ∙ not-open block units run (calls_of boot entries) none ∙ sym (ap (claim_of boot entries) same ∙ free)
      | inr differ ↦ claim-other boot entries turn last (Claim block units run) cpu differ
    ])

-- ---- the states of the pages of open runs

-- a list is empty, or has a last item
last-of : {A : Type 0} (xs : List A) → (xs ≡ []) ⊎ ((ys : List A) × (y : A) × (xs ≡ ys ++ y ∷ []))
last-of [] = inl refl
last-of (x ∷ xs) = elim (last-of xs) [
  | inl none ↦ inr ([], x, ap (λ ys. x ∷ ys) none)
  | inr found ↦ inr (x ∷ found.0, found.1, ap (λ ys. x ∷ ys) found.2)
]

-- the entries before the last one
all-but-last : {A : Type 0} (P : A → Type 0) (xs : List A) (y : A) → All P (xs ++ y ∷ []) → All P xs
all-but-last P xs y all = (All-pop P (xs ++ y ∷ []) xs (Some y) refl all).0

-- one more entry, of which the claims of other processors and the states of their pages stay
runs-keep-push : (boot : Boot) (entries : List Entry) (turn : Turn) (last : ℕ) (event : Event) → RunsKeep boot entries
    → ((other : ℕ) (claim : Claimed) (page : ℕ) → other ≢ turn.cpu.0 → claim_of boot entries other ≡ Some claim
    → in_range (pages_first boot claim.run) (pages_count boot claim.run) page ≡ true
    → page_state boot (calls_of boot (entries ++ bare_entry turn last event ∷ [])) page ≡ page_state boot (calls_of boot entries) page)
    → RunsKeep boot (entries ++ bare_entry turn last event ∷ [])
runs-keep-push boot entries turn last event keep others cpu claim before rest page has split none inside =
    elim (last-of rest) [
      | inl empty ↦ ap (λ es. page_state boot (calls_of boot es) page) (sym (split ∙ ap (λ es. before ++ es) empty ∙ append-nil before))
      | inr found ↦
          (let e = bare_entry turn last event in
          let two = same_from_push entries (before ++ found.0) e found.1 (split ∙ ap (λ es. before ++ es) found.2 ∙ sym (append_assoc before found.0 (found.1 ∷ []))) in
          let N : List Entry → Type 0 = NoneOf cpu in
          let none' : NoneOf cpu (found.0 ++ found.1 ∷ []) = subst N found.2 none in
          let last_other : found.1.cpu.0 ≢ cpu = all-middle (λ (x : Entry). x.cpu.0 ≢ cpu) found.0 found.1 [] none' in
          let differ : cpu ≢ turn.cpu.0 = λ same. last_other (ap (λ (x : Entry). x.cpu.0) (sym two.1) ∙ sym same) in
          let was = sym (claim-other boot entries turn last event cpu differ) ∙ has in
          keep cpu claim before found.0 page was two.0 (all-but-last (λ (x : Entry). x.cpu.0 ≢ cpu) found.0 found.1 none') inside
          ∙ sym (others cpu claim page differ was inside))
    ]

pub steady-push : (boot : Boot) (entries entries' : List Entry) (turn : Turn) (last : ℕ) (event : Event) → entries' ≡ entries ++ bare_entry turn last event ∷ [] → last ≡ last_stamp entries → Steady boot entries → WaitingFalls boot (entries ++ bare_entry turn last event ∷ [])
    → ((other : ℕ) (claim : Claimed) (page : ℕ) → other ≢ turn.cpu.0 → claim_of boot entries other ≡ Some claim
    → in_range (pages_first boot claim.run) (pages_count boot claim.run) page ≡ true
    → page_state boot (calls_of boot (entries ++ bare_entry turn last event ∷ [])) page ≡ page_state boot (calls_of boot entries) page)
    → Steady boot entries'
steady-push boot entries entries' turn last event is last_is s falls others =
    subst (Steady boot) (sym is)
    (record { rising = rising-push entries (bare_entry turn last event) (omega (arith, last_is)) s.rising; runs_keep = runs-keep-push boot entries turn last event s.runs_keep others; waiting = falls })

-- ---- a step that changes entries and room alone

pub stands-more : (boot : Boot) (entries entries' : Vec Entry Global) (last last' : ℕ) (table : Table) (bits : Option Bits) (claims : List (Option OpenClaim)) (blocks blocks' : State) (pages kept room room' : ℕ) (turn : Turn) (event : Event)
    → StandsFor boot entries last table bits claims blocks pages kept room
    → calls_of boot (entries.items ++ bare_entry turn last event ∷ []) ≡ calls_of boot entries.items
    → claim_of boot (entries.items ++ bare_entry turn last event ∷ []) ≡ claim_of boot entries.items
    → entries'.items ≡ entries.items ++ bare_entry turn last event ∷ [] → vec_capacity entries ≤ vec_capacity entries'
    → last' ≡ max turn.clock last + 1 → turn.clock < 2 ^ 64 → last < 2 ^ 64 → kept < 2 ^ 64 → room' < room → BlocksGo boot entries.items (bare_entry turn last event) blocks' claims room'
    → StandsFor boot entries' last' table bits claims blocks' pages kept room'
stands-more boot entries entries' last last' table bits claims blocks blocks' pages kept room room' turn event s same-calls same-claims is more last_is low_clock low_last few less go =
    let long : length entries'.items ≡ length entries.items + 1 = ap (λ (es : List Entry). length es) is ∙ length_push entries.items (bare_entry turn last event) in
    let fits = s.entry_room in
    let pieces = s.table_room in
    let pieces_less : room' * (2 * pages + 2) ≤ room * (2 * pages + 2) = fewer room' room (2 * pages + 2) (omega (arith, less)) in
    record {
      booted = s.booted;
      holds =
          (let P : List ModuleCall → (ℕ → Option Claimed) → Type 0 = λ calls claimed. HoldsFor boot calls claimed table.runs table.out (bits_in bits) (kept_of claims) in
          let Q : List ModuleCall → Type 0 = λ calls. P calls (claim_of boot entries.items) in
          let R : (ℕ → Option Claimed) → Type 0 = λ claimed. P (calls_of boot entries'.items) claimed in
          subst R (sym (ap (claim_of boot) is ∙ same-claims)) (subst Q (sym (ap (calls_of boot) is ∙ same-calls)) s.holds));
      same_bits = s.same_bits;
      last_is = last_is ∙ sym (ap last_stamp is ∙ last-push entries.items turn last event s.last_is);
      places = s.places;
      cpus = s.cpus;
      spans = s.spans;
      pages_are = s.pages_are;
      reports = s.reports;
      entry_room = omega (arith, long, fits, more, less);
      table_room = omega (arith, pieces, pieces_less);
      stamps = omega (arith, last_is, low_clock, low_last, few);
      steady = steady-push boot entries.items entries'.items turn last event is s.last_is s.steady go.falls (λ other claim page differ has inside. ap (λ cs. page_state boot cs page) same-calls);
      settled = subst (Settled boot) (sym is) go.settled;
      blocks_are = (let B : List Entry → Type 0 = λ es. BlocksAfter boot es blocks' in subst B (sym is) go.blocks_are);
      block_room = go.enough;
    }
