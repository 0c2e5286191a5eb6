-- What stands in the memory stands after each event that fits.
use Rattle.std.proofs.Common.{◌≡◌, ◌≢◌, ℕ, ◌+◌, ◌/◌, ◌<◌, ◌≤◌, Bool, true, false, Option, None, Some, List, [], ◌∷◌, ◌++◌, refl, sym, ◌∙◌, ap, subst, inl, inr, cond, append_assoc, append-nil, eqb-true, eq-eqb}
use Rattle.std.specs.Prelude.{◌⊎◌, ◌==◌, nat_lt}
use Rattle.std.specs.List.{AllByRecursion, flat_map}
use Rattle.std.proofs.lemmas.Bool.{cases_Bool, cases_lt, and_parts}
use Rattle.std.proofs.lemmas.List.Sums.{fold-append}
use Rattle.guest_base.specs.Search.{any_such}
use Rattle.guest_base.proofs.RangeLemmas.{lt-of}
use Rattle.guest_base.proofs.SearchLemmas.{any_such_is}
use Rattle.guest_base.specs.declared.memory.Block.{Block}
use Rattle.guest_base.specs.declared.memory.Page.{Page}
use Rattle.guest_base.specs.declared.memory.Units.{Units}
use Rattle.guest_base.specs.declared.memory.PageState.TheVariants.{Pending}
use Rattle.event_core.specs.declared.boot.Boot.{Boot}
use Rattle.event_core.specs.declared.entry.Entry.{Entry}
use Rattle.event_core.specs.declared.event.Event.{Event}
use Rattle.event_core.specs.declared.event.Event.TheVariants as event
use Rattle.event_core.specs.declared.module_call.CallKind.{CallKind}
use Rattle.event_core.specs.declared.module_call.CallKind.TheVariants.{Accept, Share}
use Rattle.event_core.specs.declared.module_call.ModuleCall.{ModuleCall}
use Rattle.event_core.specs.Blocks.{BlockState, Waits, InFlight, Loose, block_state, block_step, block_units, after_claim, after_report, reported, waits_at_boot}
use Rattle.event_core.specs.Calls.{calls_in, calls_of, state_made}
use Rattle.event_core.specs.Claims.{Claimed, claim_of, claim_step, opened, goes_on}
use Rattle.event_core.specs.Cut.{cut}
use Rattle.event_core.specs.Holdings.{same_block}
use Rattle.event_core.specs.Legal.{CallsFit}
use Rattle.event_core.specs.MemoryRows.{page_state, is_pending, run_of_claim, next_run}
use Rattle.event_core.specs.Runs.{state_in}
use Rattle.event_core.specs.Units.{bit_of, bit_after, is_marked, unit_count, unit_first, unit_pages, units_end, run_after, first_run, units_cleared}
use Rattle.event_core.proofs.BootFacts.{TakesNone, all-append, unit-of}
use Rattle.event_core.proofs.StandingLemmas.{calls_of-push, claim_of-push}
use Rattle.event_laws.proofs.PlaceLemmas.{UnitFits}
use Rattle.event_laws.proofs.TurnLemmas.{all-map}
use Rattle.block_laws.specs.Guarded.{IsPlainCall, PageIn, UnitIn, IsAt, NonePending, StateStands, BlockStands, ClaimStands, PendingIsMarked, MemoryStands}
use Rattle.block_laws.proofs.ListFacts.{all-front, all-back}
use Rattle.block_laws.proofs.PageFacts.{pending-before, not-pending-later, marked-while}
use Rattle.block_laws.proofs.SizeFacts.{steps-accept}
use Rattle.block_laws.proofs.RunFacts.{units-accepted, first-run, first-run-none}
use Rattle.block_laws.proofs.GuardFacts.{guard-holds}
use Rattle.block_laws.proofs.FitFacts.{Fits}

-- ---- what boot leaves

-- a page of a unit whose bit was set at first
pub record SetUnit (boot : Boot) (unit page : ℕ) : Type 0 where
  pub set : bit_of boot.bits unit ≡ true
  pub inside : PageIn boot unit page

-- What boot leaves: calls that accept and share the pool, pending pages in units with a set bit alone, and no pending page in a
-- block that doesn't wait.
pub record BootStands (boot : Boot) : Type 0 where
  pub fits : UnitFits boot.unit boot.base
  pub plain : AllByRecursion (IsPlainCall boot) boot.calls
  pub marked : (page : ℕ) → is_pending (page_state boot boot.calls page) ≡ true → (unit : ℕ) × SetUnit boot unit page
  pub loose : AllByRecursion (λ block. waits_at_boot boot block ≡ false → NonePending boot boot.calls block) (cut boot)

-- ---- calls

kind-takes : (kind : CallKind) → (kind ≡ Accept) ⊎ (kind ≡ Share) → state_made kind ≢ Pending
kind-takes Accept is = λ no. cc
kind-takes Share is = λ no. cc
kind-takes _ (inl is) = cc
kind-takes _ (inr is) = cc

plain-kind : (boot : Boot) (call : ModuleCall) → IsPlainCall boot call → (call.kind ≡ Accept) ⊎ (call.kind ≡ Share)
plain-kind boot call (inl accepts) = inl accepts
plain-kind boot call (inr shares) = inr shares.2

pub plain-takes : (boot : Boot) (calls : List ModuleCall) → AllByRecursion (IsPlainCall boot) calls → AllByRecursion TakesNone calls
plain-takes boot calls all = all-map (IsPlainCall boot) TakesNone (λ call is. kind-takes call.kind (plain-kind boot call is)) calls all

-- the calls of an event that fits accept
pub calls-accept : (boot : Boot) (memory : List Entry) (cpu : ℕ) (e : Event) → Fits boot memory cpu e → CallsFit boot memory e → AllByRecursion (λ (call : ModuleCall). call.kind ≡ Accept) (calls_in e)
calls-accept boot memory cpu (event.Report run calls stopped next) fit steps = steps-accept boot.hosts _ _ _ None calls steps
calls-accept boot memory cpu event.Own fit steps = tt
calls-accept boot memory cpu (event.Claim block units run) fit steps = tt
calls-accept boot memory cpu (event.Got block) fit steps = tt
calls-accept boot memory cpu event.NoBlock fit steps = tt
calls-accept boot memory cpu (event.Freed block) fit steps = tt
calls-accept boot memory cpu (event.Asked found) fit steps = tt
calls-accept boot memory cpu (event.Touched page found) fit steps = tt
calls-accept boot memory cpu _ fit steps = absurd fit

pub accept-plain : (boot : Boot) (calls : List ModuleCall) → AllByRecursion (λ (call : ModuleCall). call.kind ≡ Accept) calls → AllByRecursion (IsPlainCall boot) calls
accept-plain boot calls all = all-map (λ (call : ModuleCall). call.kind ≡ Accept) (IsPlainCall boot) (λ call is. inl is) calls all

calls-plain : (boot : Boot) (memory : List Entry) (cpu : ℕ) (e : Event) → Fits boot memory cpu e → CallsFit boot memory e → AllByRecursion (IsPlainCall boot) (calls_in e)
calls-plain boot memory cpu e fit steps = accept-plain boot (calls_in e) (calls-accept boot memory cpu e fit steps)

-- ---- bits

-- a pending page lies in a unit whose bit was set at first
pub set-unit : (boot : Boot) → BootStands boot → (more : List ModuleCall) (page : ℕ) → AllByRecursion (IsPlainCall boot) more → is_pending (page_state boot (boot.calls ++ more) page) ≡ true → (unit : ℕ) × SetUnit boot unit page
set-unit boot stands more page all h = stands.marked page (pending-before boot boot.calls more page (plain-takes boot more all) h)

-- the bit of its unit was set at each time before
pub bit-before : (boot : Boot) (before rest : List ModuleCall) (unit page : ℕ) → AllByRecursion (IsPlainCall boot) (before ++ rest) → SetUnit boot unit page → is_pending (page_state boot (before ++ rest) page) ≡ true → bit_after boot before unit ≡ true
unfolding bit_after
bit-before boot before rest unit page all at h =
    let takes = plain-takes boot (before ++ rest) all in
    let then = pending-before boot before rest page (all-back TakesNone before rest takes) h in
    let marked : is_marked (bit_of boot.bits unit) before page ≡ true =
    ap (λ (b : Bool). is_marked b before page) at.set ∙ marked-while (state_in boot.ram) before page (all-front TakesNone before rest takes) then
    in
    let below : nat_lt unit (unit_count boot.bits) ≡ true = (and_parts _ _ at.set).0 in
    ap (λ (b : Bool). elim b as (λ _. Bool) [ true ↦ any_such (is_marked (bit_of boot.bits unit) before) (unit_first boot unit) (unit_pages boot) | false ↦ false ]) below
    ∙ any_such_is (is_marked (bit_of boot.bits unit) before) (unit_first boot unit) (unit_pages boot) page at.inside.low at.inside.high marked

-- a page lies in one unit
pub one-unit : (boot : Boot) (unit other page : ℕ) → PageIn boot unit page → PageIn boot other page → unit ≡ other
one-unit boot unit other page a b =
    sym (unit-of (boot.base / 4096) (boot.unit / 4096) unit page a.low a.high) ∙ unit-of (boot.base / 4096) (boot.unit / 4096) other page b.low b.high

pub set-below : (boot : Boot) (unit page : ℕ) → SetUnit boot unit page → unit < unit_count boot.bits
set-below boot unit page at = lt-of unit (unit_count boot.bits) ((and_parts _ _ at.set).0)

-- ---- one more entry

-- the calls and the claims after one more event of a processor
record Pushed (boot : Boot) (memory : List Entry) (cpu : ℕ) (e : Event) (now : List Entry) : Type 0 where
  pub calls : calls_of boot now ≡ calls_of boot memory ++ calls_in e
  pub claim : (c : ℕ) → claim_of boot now c ≡ cond (cpu == c) (claim_step boot (calls_of boot memory) (claim_of boot memory c) e) (claim_of boot memory c)

push : (boot : Boot) (memory : List Entry) (entry : Entry) → Pushed boot memory entry.cpu.0 entry.event (memory ++ entry ∷ [])
push boot memory entry = record { calls = calls_of-push boot memory entry; claim = claim_of-push boot memory entry }

other-claim : (boot : Boot) (memory : List Entry) (cpu : ℕ) (e : Event) (now : List Entry) (c : ℕ) → Pushed boot memory cpu e now → (cpu == c) ≡ false → claim_of boot now c ≡ claim_of boot memory c
other-claim boot memory cpu e now c pushed not = pushed.claim c ∙ ap (λ (b : Bool). cond b (claim_step boot (calls_of boot memory) (claim_of boot memory c) e) (claim_of boot memory c)) not

own-claim : (boot : Boot) (memory : List Entry) (cpu : ℕ) (e : Event) (now : List Entry) → Pushed boot memory cpu e now → claim_of boot now cpu ≡ claim_step boot (calls_of boot memory) (claim_of boot memory cpu) e
own-claim boot memory cpu e now pushed = pushed.claim cpu ∙ ap (λ (b : Bool). cond b (claim_step boot (calls_of boot memory) (claim_of boot memory cpu) e) (claim_of boot memory cpu)) (eq-eqb cpu cpu refl)

same-or : (b : Bool) (x y : Option Claimed) → x ≡ y → cond b x y ≡ y
same-or true x y h = h
same-or false x y h = refl

quiet-claim : (boot : Boot) (memory : List Entry) (cpu : ℕ) (e : Event) (now : List Entry) (c : ℕ) → Pushed boot memory cpu e now → claim_step boot (calls_of boot memory) (claim_of boot memory c) e ≡ claim_of boot memory c → claim_of boot now c ≡ claim_of boot memory c
quiet-claim boot memory cpu e now c pushed same = pushed.claim c ∙ same-or (cpu == c) _ _ same

-- ---- blocks

-- a block whose state is as before
same-state : (boot : Boot) (memory now : List Entry) (block : Block) (more : List ModuleCall) (at : BlockState) → AllByRecursion (IsPlainCall boot) more → calls_of boot now ≡ calls_of boot memory ++ more → ((c : ℕ) → at ≡ InFlight c → claim_of boot now c ≡ claim_of boot memory c) → StateStands boot memory block at → StateStands boot now block at
same-state boot memory now block more Waits plain calls claims stands = tt
same-state boot memory now block more (InFlight c) plain calls claims stands = (stands.0, claims c refl ∙ stands.1, stands.2)
same-state boot memory now block more Loose plain calls claims stands =
    λ page at. ap (λ cs. is_pending (page_state boot cs page)) calls ∙ not-pending-later boot (calls_of boot memory) more page (plain-takes boot more plain) (stands page at)

flight-claims : (boot : Boot) (memory : List Entry) (block : Block) (c : ℕ) (at : BlockState) → StateStands boot memory block at → at ≡ InFlight c → (claim : Claimed) × (claim_of boot memory c ≡ Some claim) × (block_units boot block ≡ Some claim.units)
flight-claims boot memory block c at stands is = subst (StateStands boot memory block) is stands

-- a pending page of a block, or behind it, lies in a unit of the block's guarded ones
guarded-unit : (boot : Boot) → BootStands boot → (block : Block) (unit page : ℕ) → SetUnit boot unit page → IsAt block page → (units : Units) × (block_units boot block ≡ Some units) × UnitIn units unit
guarded-unit boot stands block unit page at is = guard-holds boot block unit page stands.fits (set-below boot unit page at) at.inside is

-- a claim that finds no run leaves no page of its block pending
found-none : (boot : Boot) → BootStands boot → (memory : List Entry) → (more : List ModuleCall) → calls_of boot memory ≡ boot.calls ++ more → AllByRecursion (IsPlainCall boot) (calls_of boot memory) → (block : Block) → run_of_claim boot memory (block_units boot block) ≡ None → NonePending boot (calls_of boot memory) block
found-none boot stands memory more is plain block none page at =
    elim (cases_Bool (is_pending (page_state boot (calls_of boot memory) page))) [
      | inr f ↦ f
      | inl t ↦
          (let rest = all-back (IsPlainCall boot) boot.calls more (subst (AllByRecursion (IsPlainCall boot)) is plain) in
          let found = set-unit boot stands more page rest (sym (ap (λ cs. is_pending (page_state boot cs page)) is) ∙ t) in
          let units = guarded-unit boot stands block found.0 page found.1 at in
          let P : List ModuleCall → Type 0 = λ cs. AllByRecursion (IsPlainCall boot) cs in
          let Q : List ModuleCall → Type 0 = λ cs. is_pending (page_state boot cs page) ≡ true in
          let whole = sym (append-nil (calls_of boot memory)) in
          let set = bit-before boot (calls_of boot memory) [] found.0 page (subst P whole plain) found.1 (subst Q whole t) in
          let clear : first_run (bit_after boot (calls_of boot memory)) units.0.first (units_end units.0) ≡ None = sym (ap (run_of_claim boot memory) units.1) ∙ none in
          let no : true ≡ false = sym set ∙ first-run-none (bit_after boot (calls_of boot memory)) units.0.first (units_end units.0) clear found.0 units.2.low units.2.high in
          cc)
    ]

-- what is known of the memory before an event of a processor that fits
record Before (boot : Boot) (memory : List Entry) (cpu : ℕ) (e : Event) (now : List Entry) : Type 0 where
  pub booted : BootStands boot
  pub stands : MemoryStands boot memory
  pub more : List ModuleCall
  pub begun : calls_of boot memory ≡ boot.calls ++ more
  pub fits : Fits boot memory cpu e
  pub steps : CallsFit boot memory e
  pub pushed : Pushed boot memory cpu e now

pub same-block : (a b : Block) → same_block a b ≡ true → a ≡ b
same-block a b is =
    let two = and_parts (a.first == b.first) (a.order == b.order) is in
    let first : a.first ≡ b.first = eqb-true a.first b.first two.0 in
    let order : a.order ≡ b.order = eqb-true a.order b.order two.1 in
    ap (λ f. let x : Block = record { first = f; order = a.order } in x) first ∙ ap (λ o. let x : Block = record { first = b.first; order = o } in x) order

-- a run of a claim is one of its units
run-units : (boot : Boot) (memory : List Entry) (units : Option Units) (run : Units) → run_of_claim boot memory units ≡ Some run → (us : Units) × (units ≡ Some us) × (run_after boot (calls_of boot memory) us us.first ≡ Some run)
run-units boot memory None run is = cc
run-units boot memory (Some us) run is = (us, refl, is)

-- ---- a claim

module _ (boot : Boot) (memory : List Entry) (cpu : ℕ) (block_of : Option Block) (units run : Option Units) (now : List Entry) (before : Before boot memory cpu (event.Claim block_of units run) now) where
  claim-calls : calls_of boot now ≡ calls_of boot memory
  claim-calls = before.pushed.calls ∙ append-nil (calls_of boot memory)

  -- no other claim changes
  claim-others : (c : ℕ) (claim : Claimed) → claim_of boot memory c ≡ Some claim → claim_of boot now c ≡ claim_of boot memory c
  claim-others c claim is =
      elim (cases_Bool (cpu == c)) [
        | inr f ↦ other-claim boot memory cpu (event.Claim block_of units run) now c before.pushed f
        | inl t ↦
            (let same : cpu ≡ c = eqb-true cpu c t in
            let no : None ≡ Some claim = sym before.fits.none ∙ ap (claim_of boot memory) same ∙ is in cc)
      ]

  claim-keeps : (block : Block) (at : BlockState) → StateStands boot memory block at → StateStands boot now block at
  claim-keeps block at stands =
      same-state boot memory now block [] at tt (before.pushed.calls)
      (λ c is. let flight = flight-claims boot memory block c at stands is in claim-others c flight.0 flight.1) stands

  -- the block that is claimed
  claim-own : (claimed : Block) → block_of ≡ Some claimed → (found : Option Units) → run ≡ found → StateStands boot now claimed (after_claim cpu found)
  claim-own claimed is (Some r) found =
      let lowest = before.fits.lowest claimed is in
      let us = run-units boot memory units r (sym before.fits.found ∙ found) in
      let claim : Claimed = record { block = block_of; units = us.0; run = r; before = calls_of boot memory; cleared = 0 } in (
        claim,
        own-claim boot memory cpu (event.Claim block_of units run) now before.pushed ∙ ap (λ u. opened block_of u run (calls_of boot memory)) us.1 ∙ ap (λ x. opened block_of (Some us.0) x (calls_of boot memory)) found,
        sym lowest.1 ∙ us.1,
      )
  claim-own claimed is None found =
      let lowest = before.fits.lowest claimed is in
      let none : run_of_claim boot memory (block_units boot claimed) ≡ None = ap (run_of_claim boot memory) (sym lowest.1) ∙ sym before.fits.found ∙ found in
      λ page at.
      ap (λ cs. is_pending (page_state boot cs page)) claim-calls
      ∙ found-none boot before.booted memory before.more before.begun before.stands.calls claimed none page at

  claim-block : (of : Option Block) → block_of ≡ of → (block : Block) (at : BlockState) → StateStands boot memory block at → StateStands boot now block (block_step block cpu at (event.Claim of units run))
  claim-block None is block at stands = claim-keeps block at stands
  claim-block (Some claimed) is block at stands =
      elim (cases_Bool (same_block claimed block)) [
        | inl t ↦
            (let same = same-block claimed block t in
            rw t (subst (λ b. StateStands boot now b (after_claim cpu run)) same (claim-own claimed is run refl)))
        | inr f ↦ rw f (claim-keeps block at stands)
      ]

-- ---- a report

module _ (boot : Boot) (memory : List Entry) (cpu : ℕ) (run : Units) (calls : List ModuleCall) (stopped : Option Page) (next : Option Units) (now : List Entry) (before : Before boot memory cpu (event.Report run calls stopped next) now) where
  report-plain : AllByRecursion (IsPlainCall boot) calls
  report-plain = calls-plain boot memory cpu (event.Report run calls stopped next) before.fits before.steps

  report-claim : claim_of boot now cpu ≡ goes_on boot (calls_of boot memory) calls (Some before.fits.claim) stopped next
  report-claim = own-claim boot memory cpu (event.Report run calls stopped next) now before.pushed ∙ ap (λ c. goes_on boot (calls_of boot memory) calls c stopped next) before.fits.opened

  -- a page that is pending after the report was so before it
  was-pending : (page : ℕ) → is_pending (page_state boot (calls_of boot now) page) ≡ true → is_pending (page_state boot (calls_of boot memory) page) ≡ true
  was-pending page h = pending-before boot (calls_of boot memory) calls page (plain-takes boot calls report-plain) (sym (ap (λ cs. is_pending (page_state boot cs page)) before.pushed.calls) ∙ h)

  -- a pending page of the claim's units lies behind its open run, where the report doesn't stop
  behind-run : stopped ≡ None → (unit page : ℕ) → UnitIn before.fits.claim.units unit → PageIn boot unit page → is_pending (page_state boot (calls_of boot now) page) ≡ true → units_end before.fits.claim.run ≤ unit
  behind-run none unit page held inside h =
      let claim = before.fits.claim in
      let first = (before.stands.claims cpu claim before.fits.opened).ahead unit page held inside (was-pending page h) in
      elim (cases_lt unit (units_end claim.run)) [
        | inr past ↦ past
        | inl within ↦
            (let gone = units-accepted boot (calls_of boot memory) run calls before.steps (sym before.fits.stopped_is ∙ none) unit page (subst (λ r. UnitIn r unit) (sym before.fits.run_is) (record { low = first; high = within })) inside in
            let no : true ≡ false = sym h ∙ ap (λ cs. is_pending (page_state boot cs page)) before.pushed.calls ∙ gone in
            cc)
      ]

  -- its bit was set when the claim was made
  set-then : (unit page : ℕ) → SetUnit boot unit page → is_pending (page_state boot (calls_of boot now) page) ≡ true → bit_after boot before.fits.claim.before unit ≡ true
  set-then unit page at h =
      let claim = before.fits.claim in
      let done = before.stands.claims cpu claim before.fits.opened in
      let P : List ModuleCall → Type 0 = AllByRecursion (IsPlainCall boot) in
      let Q : List ModuleCall → Type 0 = λ cs. is_pending (page_state boot cs page) ≡ true in
      bit-before boot claim.before done.more unit page (subst P done.calls before.stands.calls) at (subst Q done.calls (was-pending page h))

  the-unit : (page : ℕ) → is_pending (page_state boot (calls_of boot now) page) ≡ true → (unit : ℕ) × SetUnit boot unit page
  the-unit page h =
      let rest = all-back (IsPlainCall boot) boot.calls before.more (subst (AllByRecursion (IsPlainCall boot)) before.begun before.stands.calls) in
      set-unit boot before.booted before.more page rest (sym (ap (λ cs. is_pending (page_state boot cs page)) before.begun) ∙ was-pending page h)

  next-of : stopped ≡ None → next ≡ run_after boot before.fits.claim.before before.fits.claim.units (units_end before.fits.claim.run)
  next-of none = before.fits.next_is ∙ ap (next_run boot before.fits.claim) (sym before.fits.stopped_is ∙ none)

  -- where no run is left, no page of the claim's units is pending
  none-left : stopped ≡ None → next ≡ None → (unit page : ℕ) → UnitIn before.fits.claim.units unit → SetUnit boot unit page → is_pending (page_state boot (calls_of boot now) page) ≡ true → ⊥
  none-left none last unit page held at h =
      let past = behind-run none unit page held at.inside h in
      let clear = first-run-none (bit_after boot before.fits.claim.before) (units_end before.fits.claim.run) (units_end before.fits.claim.units) (sym (next-of none) ∙ last) unit past held.high in
      let no : true ≡ false = sym (set-then unit page at h) ∙ clear in cc

  -- where one is left, each lies in it or behind it
  next-ahead : stopped ≡ None → (n : Units) → next ≡ Some n → (unit page : ℕ) → UnitIn before.fits.claim.units unit → SetUnit boot unit page → is_pending (page_state boot (calls_of boot now) page) ≡ true → n.first ≤ unit
  next-ahead none n is unit page held at h =
      let past = behind-run none unit page held at.inside h in
      let first = first-run (bit_after boot before.fits.claim.before) (units_end before.fits.claim.run) (units_end before.fits.claim.units) n (sym (next-of none) ∙ is) in
      elim (cases_lt unit n.first) [
        | inr high ↦ high
        | inl low ↦ (let no : true ≡ false = sym (set-then unit page at h) ∙ first.before unit past low in cc)
      ]

  report-keeps : (block : Block) (at : BlockState) → ((c : ℕ) → at ≡ InFlight c → (cpu == c) ≡ false) → StateStands boot memory block at → StateStands boot now block at
  report-keeps block at others stands =
      same-state boot memory now block calls at report-plain before.pushed.calls
      (λ c is. other-claim boot memory cpu (event.Report run calls stopped next) now c before.pushed (others c is)) stands

  -- the block of the processor's own claim
  report-own : (block : Block) → StateStands boot memory block (InFlight cpu) → (s : Option Page) → stopped ≡ s → (n : Option Units) → next ≡ n → StateStands boot now block (after_report cpu s n)
  report-own block stands (Some page) stops n is = tt
  report-own block stands None stops (Some n) is =
      let claim = before.fits.claim in
      let same : stands.0 ≡ claim = (let both : Some stands.0 ≡ Some claim = sym stands.1 ∙ before.fits.opened in cc) in
      let went : Claimed = record claim { run = n; cleared = _ } in (
        went,
        report-claim ∙ ap (λ s. goes_on boot (calls_of boot memory) calls (Some claim) s next) stops ∙ ap (λ x. goes_on boot (calls_of boot memory) calls (Some claim) None x) is,
        stands.2 ∙ ap (λ (c : Claimed). Some c.units) same,
      )
  report-own block stands None stops None is =
      λ page at.
      elim (cases_Bool (is_pending (page_state boot (calls_of boot now) page))) [
        | inr f ↦ f
        | inl t ↦
            (let claim = before.fits.claim in
            let same : stands.0 ≡ claim = (let both : Some stands.0 ≡ Some claim = sym stands.1 ∙ before.fits.opened in cc) in
            let found = the-unit page t in
            let held = guarded-unit boot before.booted block found.0 page found.1 at in
            let units_are : held.0 ≡ claim.units = (let both : Some held.0 ≡ Some claim.units = sym held.1 ∙ stands.2 ∙ ap (λ (c : Claimed). Some c.units) same in cc) in
            absurd (none-left stops is found.0 page (subst (λ us. UnitIn us found.0) units_are held.2) found.1 t))
      ]

  report-block : (block : Block) (at : BlockState) → StateStands boot memory block at → StateStands boot now block (reported cpu stopped next at)
  report-block block Waits stands = tt
  report-block block Loose stands = report-keeps block Loose (λ c is. cc) stands
  report-block block (InFlight by) stands =
      elim (cases_Bool (by == cpu)) [
        | inl t ↦
            (let same : by ≡ cpu = eqb-true by cpu t in
            rw t (report-own block (subst (λ c. StateStands boot memory block (InFlight c)) same stands) stopped refl next refl))
        | inr f ↦ rw f (report-keeps block (InFlight by) (λ c is. not-it c is f) stands)
      ]
    where
      not-it : (c : ℕ) → InFlight by ≡ InFlight c → (by == cpu) ≡ false → (cpu == c) ≡ false
      not-it c is f =
          let same : by ≡ c = cc in
          elim (cases_Bool (cpu == c)) [
            | inr g ↦ g
            | inl g ↦ (let here : cpu ≡ c = eqb-true cpu c g in let no : (by == cpu) ≡ true = eq-eqb by cpu (same ∙ sym here) in cc)
          ]

-- ---- all blocks

quiet-block : (boot : Boot) (memory now : List Entry) (cpu : ℕ) (e : Event) (block : Block) (at : BlockState) → Pushed boot memory cpu e now → calls_in e ≡ [] → ((c : ℕ) → claim_step boot (calls_of boot memory) (claim_of boot memory c) e ≡ claim_of boot memory c) → StateStands boot memory block at → StateStands boot now block at
quiet-block boot memory now cpu e block at pushed none same stands =
    same-state boot memory now block [] at tt (pushed.calls ∙ ap (λ cs. calls_of boot memory ++ cs) none) (λ c is. quiet-claim boot memory cpu e now c pushed (same c)) stands

state-keeps : (boot : Boot) (memory now : List Entry) (cpu : ℕ) (e : Event) (block : Block) (at : BlockState) → Before boot memory cpu e now → StateStands boot memory block at → StateStands boot now block (block_step block cpu at e)
state-keeps boot memory now cpu (event.Claim of units run) block at before stands = claim-block boot memory cpu of units run now before of refl block at stands
state-keeps boot memory now cpu (event.Report run calls stopped next) block at before stands = report-block boot memory cpu run calls stopped next now before block at stands
state-keeps boot memory now cpu event.Own block at before stands = quiet-block boot memory now cpu event.Own block at before.pushed refl (λ c. refl) stands
state-keeps boot memory now cpu (event.Got got) block at before stands = quiet-block boot memory now cpu (event.Got got) block at before.pushed refl (λ c. refl) stands
state-keeps boot memory now cpu event.NoBlock block at before stands = quiet-block boot memory now cpu event.NoBlock block at before.pushed refl (λ c. refl) stands
state-keeps boot memory now cpu (event.Freed freed) block at before stands = quiet-block boot memory now cpu (event.Freed freed) block at before.pushed refl (λ c. refl) stands
state-keeps boot memory now cpu (event.Asked found) block at before stands = quiet-block boot memory now cpu (event.Asked found) block at before.pushed refl (λ c. refl) stands
state-keeps boot memory now cpu (event.Touched page found) block at before stands = quiet-block boot memory now cpu (event.Touched page found) block at before.pushed refl (λ c. refl) stands
state-keeps boot memory now cpu _ block at before stands = absurd before.fits

pub block_state-push : (boot : Boot) (memory : List Entry) (entry : Entry) (block : Block) → block_state boot (memory ++ entry ∷ []) block ≡ block_step block entry.cpu.0 (block_state boot memory block) entry.event
unfolding block_state
block_state-push boot memory entry block = fold-append (λ at (e : Entry). block_step block e.cpu.0 at e.event) (cond (waits_at_boot boot block) Waits Loose) memory (entry ∷ [])

block-keeps : (boot : Boot) (memory : List Entry) (entry : Entry) (block : Block) → Before boot memory entry.cpu.0 entry.event (memory ++ entry ∷ []) → BlockStands boot memory block → BlockStands boot (memory ++ entry ∷ []) block
block-keeps boot memory entry block before stands =
    subst (StateStands boot (memory ++ entry ∷ []) block) (sym (block_state-push boot memory entry block))
    (state-keeps boot memory (memory ++ entry ∷ []) entry.cpu.0 entry.event block (block_state boot memory block) before stands)

-- ---- claims

-- a claim that an event doesn't change
claim-later : (boot : Boot) (memory now : List Entry) (more : List ModuleCall) (claim : Claimed) → AllByRecursion (IsPlainCall boot) more → calls_of boot now ≡ calls_of boot memory ++ more → ClaimStands boot memory claim → ClaimStands boot now claim
claim-later boot memory now more claim plain calls stands = record {
  more = stands.more ++ more;
  calls = calls ∙ ap (λ cs. cs ++ more) stands.calls ∙ append_assoc claim.before stands.more more;
  ahead = λ unit page held inside h. stands.ahead unit page held inside (pending-before boot (calls_of boot memory) more page (plain-takes boot more plain) (sym (ap (λ cs. is_pending (page_state boot cs page)) calls) ∙ h));
}

-- a new claim
claim-new : (boot : Boot) (memory : List Entry) (cpu : ℕ) (of : Option Block) (units run : Option Units) (now : List Entry) → Before boot memory cpu (event.Claim of units run) now → (claim : Claimed) → opened of units run (calls_of boot memory) ≡ Some claim → ClaimStands boot now claim
claim-new boot memory cpu of units run now before claim is = by_units units run refl refl is where
  same : calls_of boot now ≡ calls_of boot memory
  same = claim-calls boot memory cpu of units run now before

  stands : (us r : Units) → units ≡ Some us → run ≡ Some r → ClaimStands boot now (record { block = of; units = us; run = r; before = calls_of boot memory; cleared = 0 })
  stands us r units_are run_is = record {
    more = [];
    calls = same ∙ sym (append-nil (calls_of boot memory));
    ahead =
        λ unit page held inside h.
        let rest = all-back (IsPlainCall boot) boot.calls before.more (subst (AllByRecursion (IsPlainCall boot)) before.begun before.stands.calls) in
        let then = sym (ap (λ cs. is_pending (page_state boot cs page)) same) ∙ h in
        let found = set-unit boot before.booted before.more page rest (sym (ap (λ cs. is_pending (page_state boot cs page)) before.begun) ∙ then) in
        let unit_is : found.0 ≡ unit = one-unit boot found.0 unit page found.1.inside inside in
        let P : List ModuleCall → Type 0 = λ cs. AllByRecursion (IsPlainCall boot) cs in
        let Q : List ModuleCall → Type 0 = λ cs. is_pending (page_state boot cs page) ≡ true in
        let whole = sym (append-nil (calls_of boot memory)) in
        let set = bit-before boot (calls_of boot memory) [] found.0 page (subst P whole before.stands.calls) found.1 (subst Q whole then) in
        let first_is : run_after boot (calls_of boot memory) us us.first ≡ Some r = sym (ap (run_of_claim boot memory) units_are) ∙ sym before.fits.found ∙ run_is in
        let first = first-run (bit_after boot (calls_of boot memory)) us.first (units_end us) r first_is in
        elim (cases_lt unit r.first) [
          | inr high ↦ high
          | inl low ↦ (let no : true ≡ false = sym set ∙ ap (bit_after boot (calls_of boot memory)) unit_is ∙ first.before unit held.low low in cc)
        ];
  }

  by_units : (u r : Option Units) → units ≡ u → run ≡ r → opened of u r (calls_of boot memory) ≡ Some claim → ClaimStands boot now claim
  by_units None r units_are run_is made = cc
  by_units (Some us) None units_are run_is made = cc
  by_units (Some us) (Some r) units_are run_is made =
      let same_claim : record { block = of; units = us; run = r; before = calls_of boot memory; cleared = 0 } ≡ claim = cc in
      subst (ClaimStands boot now) same_claim (stands us r units_are run_is)

-- a claim that goes on
claim-goes : (boot : Boot) (memory : List Entry) (cpu : ℕ) (run : Units) (calls : List ModuleCall) (stopped : Option Page) (next : Option Units) (now : List Entry) → Before boot memory cpu (event.Report run calls stopped next) now → (claim : Claimed)
    → goes_on boot (calls_of boot memory) calls (claim_of boot memory cpu) stopped next ≡ Some claim → ClaimStands boot now claim
claim-goes boot memory cpu run calls stopped next now before claim is = by_end stopped next refl refl (sym (ap (λ c. goes_on boot (calls_of boot memory) calls c stopped next) before.fits.opened) ∙ is) where
  old : Claimed
  old = before.fits.claim

  was : ClaimStands boot memory old
  was = before.stands.claims cpu old before.fits.opened

  stands : (n : Units) (cleared : ℕ) → stopped ≡ None → next ≡ Some n → ClaimStands boot now (record old { run = n; cleared = cleared })
  stands n cleared stops goes = record {
    more = was.more ++ calls;
    calls = before.pushed.calls ∙ ap (λ cs. cs ++ calls) was.calls ∙ append_assoc old.before was.more calls;
    ahead =
        λ unit page held inside h.
        let found = the-unit boot memory cpu run calls stopped next now before page h in
        let unit_is : found.0 ≡ unit = one-unit boot found.0 unit page found.1.inside inside in
        next-ahead boot memory cpu run calls stopped next now before stops n goes unit page held (subst (λ u. SetUnit boot u page) unit_is found.1) h;
  }

  by_end : (s : Option Page) (n : Option Units) → stopped ≡ s → next ≡ n → goes_on boot (calls_of boot memory) calls (Some old) s n ≡ Some claim → ClaimStands boot now claim
  by_end (Some page) n stops goes made = cc
  by_end None None stops goes made = cc
  by_end None (Some n) stops goes made =
      let cleared : ℕ = old.cleared + units_cleared boot (calls_of boot memory) (calls_of boot memory ++ calls) old.run in
      let same_claim : record old { run = n; cleared = cleared } ≡ claim = cc in
      subst (ClaimStands boot now) same_claim (stands n cleared stops goes)

own-keeps : (boot : Boot) (memory now : List Entry) (cpu : ℕ) (e : Event) → Before boot memory cpu e now → (claim : Claimed) → claim_step boot (calls_of boot memory) (claim_of boot memory cpu) e ≡ Some claim → ClaimStands boot now claim
own-keeps boot memory now cpu (event.Claim of units run) before claim is = claim-new boot memory cpu of units run now before claim is
own-keeps boot memory now cpu (event.Report run calls stopped next) before claim is = claim-goes boot memory cpu run calls stopped next now before claim is
own-keeps boot memory now cpu event.Own before claim is = claim-later boot memory now [] claim tt before.pushed.calls (before.stands.claims cpu claim is)
own-keeps boot memory now cpu (event.Got got) before claim is = claim-later boot memory now [] claim tt before.pushed.calls (before.stands.claims cpu claim is)
own-keeps boot memory now cpu event.NoBlock before claim is = claim-later boot memory now [] claim tt before.pushed.calls (before.stands.claims cpu claim is)
own-keeps boot memory now cpu (event.Freed freed) before claim is = claim-later boot memory now [] claim tt before.pushed.calls (before.stands.claims cpu claim is)
own-keeps boot memory now cpu (event.Asked found) before claim is = claim-later boot memory now [] claim tt before.pushed.calls (before.stands.claims cpu claim is)
own-keeps boot memory now cpu (event.Touched page found) before claim is = claim-later boot memory now [] claim tt before.pushed.calls (before.stands.claims cpu claim is)
own-keeps boot memory now cpu _ before claim is = absurd before.fits

claim-keeps-each : (boot : Boot) (memory now : List Entry) (cpu : ℕ) (e : Event) → Before boot memory cpu e now → (c : ℕ) (claim : Claimed) → claim_of boot now c ≡ Some claim → ClaimStands boot now claim
claim-keeps-each boot memory now cpu e before c claim is =
    elim (cases_Bool (cpu == c)) [
      | inr f ↦
          claim-later boot memory now (calls_in e) claim (calls-plain boot memory cpu e before.fits before.steps) before.pushed.calls
          (before.stands.claims c claim (sym (other-claim boot memory cpu e now c before.pushed f) ∙ is))
      | inl t ↦
          (let same : cpu ≡ c = eqb-true cpu c t in
          own-keeps boot memory now cpu e before claim (sym (own-claim boot memory cpu e now before.pushed) ∙ ap (claim_of boot now) same ∙ is))
    ]

-- ---- the memory

begun-push : (boot : Boot) (memory now : List Entry) (cpu : ℕ) (e : Event) (before : Before boot memory cpu e now) → calls_of boot now ≡ boot.calls ++ (before.more ++ calls_in e)
begun-push boot memory now cpu e before = before.pushed.calls ∙ ap (λ cs. cs ++ calls_in e) before.begun ∙ append_assoc boot.calls before.more (calls_in e)

-- each pending page lies in a unit whose bit is set
pub pending-marked : (boot : Boot) → BootStands boot → (calls more : List ModuleCall) → calls ≡ boot.calls ++ more → AllByRecursion (IsPlainCall boot) calls → PendingIsMarked boot calls
pending-marked boot booted calls more is plain page h =
    let rest = all-back (IsPlainCall boot) boot.calls more (subst (AllByRecursion (IsPlainCall boot)) is plain) in
    let found = set-unit boot booted more page rest (sym (ap (λ cs. is_pending (page_state boot cs page)) is) ∙ h) in
    let P : List ModuleCall → Type 0 = λ cs. AllByRecursion (IsPlainCall boot) cs in
    let Q : List ModuleCall → Type 0 = λ cs. is_pending (page_state boot cs page) ≡ true in
    let whole = sym (append-nil calls) in
    (found.0, found.1.inside, bit-before boot calls [] found.0 page (subst P whole plain) found.1 (subst Q whole h))

-- what stands in the memory stands after one more entry that fits
pub memory-push : (boot : Boot) (memory : List Entry) (entry : Entry) → BootStands boot → MemoryStands boot memory → Fits boot memory entry.cpu.0 entry.event → CallsFit boot memory entry.event → MemoryStands boot (memory ++ entry ∷ [])
memory-push boot memory entry booted stands fits steps =
    let before : Before boot memory entry.cpu.0 entry.event (memory ++ entry ∷ []) =
    record { booted = booted; stands = stands; more = flat_map (λ (e : Entry). calls_in e.event) memory; begun = refl; fits = fits; steps = steps; pushed = push boot memory entry }
    in
    let P : List ModuleCall → Type 0 = λ cs. AllByRecursion (IsPlainCall boot) cs in
    let plain = subst P (sym before.pushed.calls) (all-append (IsPlainCall boot) (calls_of boot memory) (calls_in entry.event) stands.calls (calls-plain boot memory entry.cpu.0 entry.event fits steps)) in
    record {
      calls = plain;
      bits = pending-marked boot booted (calls_of boot (memory ++ entry ∷ [])) (before.more ++ calls_in entry.event) (begun-push boot memory (memory ++ entry ∷ []) entry.cpu.0 entry.event before) plain;
      blocks = all-map (BlockStands boot memory) (BlockStands boot (memory ++ entry ∷ [])) (λ block held. block-keeps boot memory entry block before held) (cut boot) stands.blocks;
      claims = claim-keeps-each boot memory (memory ++ entry ∷ []) entry.cpu.0 entry.event before;
    }

-- ---- at first

first-state : (boot : Boot) (block : Block) → (waits_at_boot boot block ≡ false → NonePending boot boot.calls block) → BlockStands boot [] block
unfolding block_state
first-state boot block loose = by_waits (waits_at_boot boot block) refl where
  by_waits : (w : Bool) → waits_at_boot boot block ≡ w → StateStands boot [] block (cond w Waits Loose)
  by_waits true is = tt
  by_waits false is = λ page at. ap (λ cs. is_pending (page_state boot cs page)) (append-nil boot.calls) ∙ loose is page at

pub no-claim : (boot : Boot) (cpu : ℕ) → claim_of boot [] cpu ≡ None
unfolding claim_of
no-claim boot cpu = refl

-- it stands when boot is over
pub memory-first : (boot : Boot) → BootStands boot → MemoryStands boot []
memory-first boot booted =
    let P : List ModuleCall → Type 0 = λ cs. AllByRecursion (IsPlainCall boot) cs in
    let plain = subst P (sym (append-nil boot.calls)) booted.plain in
    record {
      calls = plain;
      bits = pending-marked boot booted (calls_of boot []) [] refl plain;
      blocks = all-map (λ block. waits_at_boot boot block ≡ false → NonePending boot boot.calls block) (BlockStands boot []) (first-state boot) (cut boot) booted.loose;
      claims = λ cpu claim is. (let no : None ≡ Some claim = sym (no-claim boot cpu) ∙ is in cc);
    }
