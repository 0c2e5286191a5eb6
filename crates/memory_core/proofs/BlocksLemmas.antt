-- The kept blocks after each event of the memory.
use Rattle.std.proofs.Common.{◌≡◌, ◌≢◌, ℕ, ◌+◌, ◌*◌, ◌/◌, ◌%◌, ◌^◌, ◌≤◌, Bool, true, false, ◌&&◌, Option, None, Some, List, [], ◌∷◌, ◌++◌, refl, sym, ◌∙◌, ap, subst, inl, inr, cond, arith, eqb-true, eq-eqb}
use Rattle.std.specs.Prelude.{Contains, IfSome, IfNone, find, not, ◌==◌, ◌||◌, ◌⊎◌}
use Rattle.std.specs.List.{list_any}
use Rattle.std.proofs.lemmas.Bool.{cases_Bool, and_parts, and_from}
use Rattle.std.proofs.lemmas.List.Folds.{Any-from_list_any, list_any_at}
use mathlib.Core.Path.{fun_ext}
use Rattle.guest_base.specs.Blocks.{pick}
use Rattle.guest_base.specs.declared.limits.TheConstants.{PAGE_END}
use Rattle.guest_base.specs.Ranges.{in_range}
use Rattle.guest_base.specs.declared.memory.Block.{Block}
use Rattle.guest_base.specs.declared.memory.Page.{Page}
use Rattle.guest_base.specs.declared.memory.Units.{Units}
use Rattle.guest_base.proofs.BlockFacts.{pick_same}
use Rattle.guest_base.proofs.RangeLemmas.{in_range-intro, in_range-elim}
use Rattle.event_core.specs.declared.boot.Boot.{Boot}
use Rattle.event_core.specs.declared.entry.Entry.{Entry}
use Rattle.event_core.specs.declared.event.Event.{Event}
use Rattle.event_core.specs.declared.event.Event.TheVariants as event
use Rattle.event_core.specs.declared.module_call.ModuleCall.{ModuleCall}
use Rattle.event_core.specs.Absent.{in_block}
use Rattle.event_core.specs.Blocks.{BlockState, Waits, InFlight, Loose, block_state, block_step, after_claim, after_report, is_loose, is_owned, is_waiting, free_page, lowest_waiting, owned_after, reported, waits_at_boot}
use Rattle.event_core.specs.Claims.{Claimed, claim_of, claim_step, goes_on, opened}
use Rattle.event_core.specs.Cut.{cut}
use Rattle.event_core.specs.Holdings.{same_block}
use Rattle.event_core.specs.MemoryRows.{run_of_claim}
use Rattle.event_laws.specs.Coming.{BootMade}
use Rattle.block_allocator.specs.State.{State, is_free, waits, page_waits, IsBlock, IsLowestWaiting, Takes, MayPut}
use Rattle.event_core.specs.Calls.{calls_of}
use Rattle.event_core.proofs.BlockLemmas.{first-state, none-owned}
use Rattle.event_core.proofs.StandingLemmas.{claim_of-push}
use Rattle.block_laws.proofs.FitFacts.{Fits, IsPicked}
use Rattle.block_laws.proofs.HeldFacts.{picked-free}
use Rattle.block_laws.proofs.OwnedFacts.{is_owned-push}
use Rattle.block_laws.proofs.StandFacts.{block_state-push, same-block}
use Rattle.memory_core.specs.KeptBlocks.{BlocksAfter}
use Rattle.memory_core.specs.Settled.{OwnerStands, StatesStand, Settled}
use Rattle.memory_core.specs.Waiting.{waits_from}
use Rattle.memory_core.proofs.WaitingLemmas.{lowest-waits, loose-is, loose-stays, same-itself, waiting-is}
use Rattle.memory_core.proofs.CutLemmas.{cut-form, cut-one, cut-find, cut-lowest, cut-least, found-in, find-none, first-inside}

-- ---- tests

abbrev waits_at : Boot → List Entry → ℕ → Block → Bool
waits_at boot memory first block = block.first == first && is_waiting (block_state boot memory block)

abbrev free_in : Boot → List Entry → ℕ → Option Block → Bool
free_in boot memory page None = false
free_in boot memory page (Some block) = is_loose (block_state boot memory block) && not (is_owned memory page)

free-in : (boot : Boot) (memory : List Entry) (page : ℕ) (found : Option Block) → find (in_block page) (cut boot) ≡ found → free_page boot memory page ≡ free_in boot memory page found
unfolding free_page
free-in boot memory page None is = ap (λ o. elim o as (λ _. Bool) [ None ↦ false | Some block ↦ is_loose (block_state boot memory block) && not (is_owned memory page) ]) is
free-in boot memory page (Some block) is = ap (λ o. elim o as (λ _. Bool) [ None ↦ false | Some block ↦ is_loose (block_state boot memory block) && not (is_owned memory page) ]) is

free-held : (boot : Boot) (memory : List Entry) (block : Block) (page : ℕ) → BootMade boot → Contains (cut boot) block → in_block page block ≡ true → free_page boot memory page ≡ (is_loose (block_state boot memory block) && not (is_owned memory page))
free-held boot memory block page made has inside = free-in boot memory page (Some block) (cut-find boot made block page has inside)

any-same : (p q : Block → Bool) → ((x : Block) → p x ≡ q x) → (xs : List Block) → list_any p xs ≡ list_any q xs
any-same p q same xs = ap (λ t. list_any t xs) (fun_ext same)

any-none : (p : Block → Bool) (xs : List Block) → ((x : Block) → Contains xs x → p x ≡ false) → list_any p xs ≡ false
any-none p xs none =
    elim (cases_Bool (list_any p xs)) [
      | inr f ↦ f
      | inl t ↦ (let any = Any-from_list_any p xs t in let no : true ≡ false = sym any.4 ∙ none any.1 (any.0, any.2, any.3) in cc)
    ]

any-has : (p : Block → Bool) (xs : List Block) (x : Block) → Contains xs x → p x ≡ true → list_any p xs ≡ true
any-has p xs x has t = list_any_at p xs has.0 x has.1 (ap p has.2 ∙ t)

and-off : (b : Bool) → (b && false) ≡ false
and-off true = refl
and-off false = refl

and-on : (b : Bool) → (b && true) ≡ b
and-on true = refl
and-on false = refl

or-on : (b : Bool) → (b || true) ≡ true
or-on true = refl
or-on false = refl

or-off : (b : Bool) → (b || false) ≡ b
or-off true = refl
or-off false = refl

false-of : (b : Bool) → (b ≡ true → ⊥) → b ≡ false
false-of true never = absurd (never refl)
false-of false never = refl

true-false : (b : Bool) → b ≡ true → b ≡ false → ⊥
true-false b t f = let no : true ≡ false = sym t ∙ f in cc

-- a waiting block of the cut that begins at a page
pub record WaitsThere (boot : Boot) (memory : List Entry) (first : ℕ) : Type 0 where
  pub block : Block
  pub has : Contains (cut boot) block
  pub at : block.first ≡ first
  pub waiting : block_state boot memory block ≡ Waits

pub waits-there : (boot : Boot) (memory : List Entry) (first : ℕ) → waits_from boot memory first ≡ true → WaitsThere boot memory first
waits-there boot memory first is =
    let any = Any-from_list_any (waits_at boot memory first) (cut boot) is in
    let two = and_parts (any.1.first == first) (is_waiting (block_state boot memory any.1)) any.4 in
    record { block = any.1; has = (any.0, any.2, any.3); at = eqb-true any.1.first first two.0; waiting = waiting-is (block_state boot memory any.1) two.1 }

waits-here : (boot : Boot) (memory : List Entry) (block : Block) → Contains (cut boot) block → block_state boot memory block ≡ Waits → waits_from boot memory block.first ≡ true
waits-here boot memory block has is =
    any-has (waits_at boot memory block.first) (cut boot) block has (and_from (block.first == block.first) (is_waiting (block_state boot memory block)) (eq-eqb block.first block.first refl) (ap is_waiting is))

-- ---- the states of blocks (for `Settled.states`)

waits-ten : (boot : Boot) (block : Block) → waits_at_boot boot block ≡ true → block.order ≡ 10
unfolding waits_at_boot
waits-ten boot block is =
    elim (cases_Bool (block.order == 10)) [
      | inl t ↦ eqb-true block.order 10 t
      | inr f ↦ (let no : waits_at_boot boot block ≡ false = rw (f, waits_at_boot) refl in absurd (true-false (waits_at_boot boot block) is no))
    ]

pub states-first : (boot : Boot) → StatesStand boot []
states-first boot = record {
  tens = λ block out. elim (cases_Bool (waits_at_boot boot block)) [
    | inl t ↦ waits-ten boot block t
    | inr f ↦ absurd (out (first-state boot block ∙ ap (λ b. cond b Waits Loose) f))
  ];
  flying = λ cpu block is. absurd (no-flight (waits_at_boot boot block) cpu (sym (first-state boot block) ∙ is));
  owned = λ block page has inside is. absurd (true-false (is_owned [] page) is (none-owned page));
}
  where
    no-flight : (b : Bool) (cpu : ℕ) → cond b Waits Loose ≡ InFlight cpu → ⊥
    no-flight true cpu is = cc
    no-flight false cpu is = cc

-- where a page comes to be owned
owned-before : (boot : Boot) (memory : List Entry) (cpu page : ℕ) (owned : Bool) (e : Event) → Fits boot memory cpu e → owned_after page owned e ≡ true → (owned ≡ true) ⊎ ((got : Block) × IsPicked boot memory got × (in_block page got ≡ true))
owned-before boot memory cpu page owned (event.Got got) fits is =
    elim (cases_Bool (in_block page got)) [
      | inl t ↦ inr (got, fits, t)
      | inr f ↦ inl (sym (ap (λ b. cond b true owned) f) ∙ is)
    ]
owned-before boot memory cpu page owned (event.Freed freed) fits is =
    elim (cases_Bool (in_block page freed)) [
      | inl t ↦ (let no : false ≡ true = sym (ap (λ b. cond b false owned) t) ∙ is in cc)
      | inr f ↦ inl (sym (ap (λ b. cond b false owned) f) ∙ is)
    ]
owned-before boot memory cpu page owned event.Own fits is = inl is
owned-before boot memory cpu page owned (event.Claim block units run) fits is = inl is
owned-before boot memory cpu page owned (event.Report run calls stopped next) fits is = inl is
owned-before boot memory cpu page owned event.NoBlock fits is = inl is
owned-before boot memory cpu page owned (event.Asked found) fits is = inl is
owned-before boot memory cpu page owned (event.Touched at found) fits is = inl is
owned-before boot memory cpu page owned _ fits is = absurd fits

-- a claim for a block
abbrev ClaimFor : Option Claimed → Block → Type 0
ClaimFor claim block = (c : Claimed) × (claim ≡ Some c) × (c.block ≡ Some block)

or-same : (b : Bool) (x y : Option Claimed) → x ≡ y → cond b x y ≡ y
or-same true x y is = is
or-same false x y is = refl

flight-eq : (a b : ℕ) → InFlight a ≡ InFlight b → a ≡ b
flight-eq a b is = cc

module _ (boot : Boot) (memory : List Entry) (entry : Entry) (states : StatesStand boot memory) (cpu : ℕ) (block : Block) where
  quiet-flight : ((c : Option Claimed) → claim_step boot (calls_of boot memory) c entry.event ≡ c) → block_state boot memory block ≡ InFlight cpu → ClaimFor (claim_of boot (memory ++ entry ∷ []) cpu) block
  quiet-flight same is =
      let had = states.flying cpu block is in
      (had.0, claim_of-push boot memory entry cpu ∙ or-same (entry.cpu.0 == cpu) _ _ (same (claim_of boot memory cpu)) ∙ had.1, had.2)

  other-flight : (entry.cpu.0 == cpu) ≡ false → block_state boot memory block ≡ InFlight cpu → ClaimFor (claim_of boot (memory ++ entry ∷ []) cpu) block
  other-flight not is =
      let had = states.flying cpu block is in
      (had.0, claim_of-push boot memory entry cpu ∙ ap (λ b. cond b (claim_step boot (calls_of boot memory) (claim_of boot memory cpu) entry.event) (claim_of boot memory cpu)) not ∙ had.1, had.2)

  own-claim : entry.cpu.0 ≡ cpu → claim_of boot (memory ++ entry ∷ []) cpu ≡ claim_step boot (calls_of boot memory) (claim_of boot memory cpu) entry.event
  own-claim same = claim_of-push boot memory entry cpu ∙ ap (λ b. cond b (claim_step boot (calls_of boot memory) (claim_of boot memory cpu) entry.event) (claim_of boot memory cpu)) (eq-eqb entry.cpu.0 cpu same)

  -- a processor that claims had no claim
  claim-flight : claim_of boot memory entry.cpu.0 ≡ None → block_state boot memory block ≡ InFlight cpu → ClaimFor (claim_of boot (memory ++ entry ∷ []) cpu) block
  claim-flight none is =
      other-flight (false-of (entry.cpu.0 == cpu) (λ t. (
      let same = eqb-true entry.cpu.0 cpu t in
      let had = states.flying cpu block is in
      let no : None ≡ Some had.0 = sym none ∙ ap (claim_of boot memory) same ∙ had.1 in
      cc))) is

  new-flight : (claimed : Block) (units : Option Units) (run : Option Units) → entry.event ≡ event.Claim (Some claimed) units run → run ≡ run_of_claim boot memory units → claimed ≡ block → (u r : Option Units) → units ≡ u → run ≡ r → after_claim entry.cpu.0 r ≡ InFlight cpu → ClaimFor (claim_of boot (memory ++ entry ∷ []) cpu) block
  new-flight claimed units run is found same u None us rs at = cc
  new-flight claimed units run is found same None (Some r) us rs at = let no : None ≡ Some r = sym (ap (run_of_claim boot memory) us) ∙ sym found ∙ rs in cc
  new-flight claimed units run is found same (Some u) (Some r) us rs at =
      let by : entry.cpu.0 ≡ cpu = flight-eq entry.cpu.0 cpu at in
      let claim : Claimed = record { block = Some claimed; units = u; run = r; before = calls_of boot memory; cleared = 0 } in
      let opens : opened (Some claimed) units run (calls_of boot memory) ≡ Some claim = ap (λ x. opened (Some claimed) x run (calls_of boot memory)) us ∙ ap (λ x. opened (Some claimed) (Some u) x (calls_of boot memory)) rs in
      (claim, own-claim by ∙ ap (claim_step boot (calls_of boot memory) (claim_of boot memory cpu)) is ∙ opens, ap Some same)

  next-flight : (run : Units) (calls : List ModuleCall) (stopped : Option Page) (next : Option Units) → entry.event ≡ event.Report run calls stopped next → block_state boot memory block ≡ InFlight entry.cpu.0 → (s : Option Page) (n : Option Units) → stopped ≡ s → next ≡ n → after_report entry.cpu.0 s n ≡ InFlight cpu → ClaimFor (claim_of boot (memory ++ entry ∷ []) cpu) block
  next-flight run calls stopped next is was (Some page) n ss ns at = cc
  next-flight run calls stopped next is was None None ss ns at = cc
  next-flight run calls stopped next is was None (Some n) ss ns at =
      let by : entry.cpu.0 ≡ cpu = flight-eq entry.cpu.0 cpu at in
      let had = states.flying cpu block (was ∙ ap InFlight by) in
      let goes = ap (λ c. goes_on boot (calls_of boot memory) calls c stopped next) had.1 ∙ ap (λ x. goes_on boot (calls_of boot memory) calls (Some had.0) x next) ss ∙ ap (λ x. goes_on boot (calls_of boot memory) calls (Some had.0) None x) ns in
      (_, own-claim by ∙ ap (claim_step boot (calls_of boot memory) (claim_of boot memory cpu)) is ∙ goes, had.2)

  report-flight : (run : Units) (calls : List ModuleCall) (stopped : Option Page) (next : Option Units) → entry.event ≡ event.Report run calls stopped next → (at : BlockState) → block_state boot memory block ≡ at → reported entry.cpu.0 stopped next at ≡ InFlight cpu → ClaimFor (claim_of boot (memory ++ entry ∷ []) cpu) block
  report-flight run calls stopped next is Waits was now = cc
  report-flight run calls stopped next is Loose was now = cc
  report-flight run calls stopped next is (InFlight by) was now =
      elim (cases_Bool (by == entry.cpu.0)) [
        | inl t ↦
            (let same = eqb-true by entry.cpu.0 t in
            next-flight run calls stopped next is (was ∙ ap InFlight same) stopped next refl refl (sym (ap (λ b. cond b (after_report entry.cpu.0 stopped next) (InFlight by)) t) ∙ now))
        | inr f ↦
            (let here : by ≡ cpu = flight-eq by cpu (sym (ap (λ b. cond b (after_report entry.cpu.0 stopped next) (InFlight by)) f) ∙ now) in
            other-flight (false-of (entry.cpu.0 == cpu) (λ t. true-false (by == entry.cpu.0) (eq-eqb by entry.cpu.0 (here ∙ sym (eqb-true entry.cpu.0 cpu t))) f)) (was ∙ ap InFlight here))
      ]

  flying-step : (e : Event) → entry.event ≡ e → Fits boot memory entry.cpu.0 e → block_step block entry.cpu.0 (block_state boot memory block) e ≡ InFlight cpu → ClaimFor (claim_of boot (memory ++ entry ∷ []) cpu) block
  flying-step (event.Claim None units run) is fits now = claim-flight fits.none now
  flying-step (event.Claim (Some claimed) units run) is fits now =
      elim (cases_Bool (same_block claimed block)) [
        | inl t ↦ new-flight claimed units run is fits.found (same-block claimed block t) units run refl refl (sym (ap (λ b. cond b (after_claim entry.cpu.0 run) (block_state boot memory block)) t) ∙ now)
        | inr f ↦ claim-flight fits.none (sym (ap (λ b. cond b (after_claim entry.cpu.0 run) (block_state boot memory block)) f) ∙ now)
      ]
  flying-step (event.Report run calls stopped next) is fits now = report-flight run calls stopped next is (block_state boot memory block) refl now
  flying-step event.Own is fits now = quiet-flight (λ c. ap (claim_step boot (calls_of boot memory) c) is) now
  flying-step (event.Got got) is fits now = quiet-flight (λ c. ap (claim_step boot (calls_of boot memory) c) is) now
  flying-step event.NoBlock is fits now = quiet-flight (λ c. ap (claim_step boot (calls_of boot memory) c) is) now
  flying-step (event.Freed freed) is fits now = quiet-flight (λ c. ap (claim_step boot (calls_of boot memory) c) is) now
  flying-step (event.Asked found) is fits now = quiet-flight (λ c. ap (claim_step boot (calls_of boot memory) c) is) now
  flying-step (event.Touched page found) is fits now = quiet-flight (λ c. ap (claim_step boot (calls_of boot memory) c) is) now
  flying-step _ is fits now = absurd fits

pub states-push : (boot : Boot) (memory : List Entry) (entry : Entry) → BootMade boot → StatesStand boot memory → Fits boot memory entry.cpu.0 entry.event → StatesStand boot (memory ++ entry ∷ [])
states-push boot memory entry made states fits = record {
  tens = λ block out. states.tens block (λ is. out (loose-stays boot memory entry block fits is));
  flying = λ cpu block is. flying-step boot memory entry states cpu block entry.event refl fits (sym (block_state-push boot memory entry block) ∙ is);
  owned = λ block page has inside is. loose-stays boot memory entry block fits
      (elim (owned-before boot memory entry.cpu.0 page (is_owned memory page) entry.event fits (sym (is_owned-push memory entry page) ∙ is)) [
        | inl was ↦ states.owned block page has inside was
        | inr got ↦
            (let free = picked-free (free_page boot memory) got.1.0 got.0 got.1.1 page got.2 in
            let two = and_parts (is_loose (block_state boot memory block)) (not (is_owned memory page)) (sym (free-held boot memory block page made has inside) ∙ free) in
            loose-is (block_state boot memory block) two.0)
      ]);
}

-- ---- what the kept blocks say

-- what an allocation picks
pub picked-same : (boot : Boot) (memory : List Entry) (blocks : State) → BlocksAfter boot memory blocks → (order : ℕ) → pick (is_free blocks) order ≡ pick (free_page boot memory) order
picked-same boot memory blocks after order = pick_same (is_free blocks) (free_page boot memory) after.free order

block-eq : (a b : Block) → a.first ≡ b.first → a.order ≡ b.order → a ≡ b
block-eq a b first order = ap (λ f. let x : Block = record { first = f; order = a.order } in x) first ∙ ap (λ o. let x : Block = record { first = b.first; order = o } in x) order

wait-not-loose : (at : BlockState) → at ≡ Waits → at ≢ Loose
wait-not-loose at is = λ loose. cc

-- the waiting block with the lowest address
pub lowest-same : (boot : Boot) (memory : List Entry) (blocks : State) (result : Option Block) → Settled boot memory → BlocksAfter boot memory blocks → IfSome result (IsBlock 10) → IfSome result (IsLowestWaiting blocks) → IfNone result ((first : ℕ) → waits blocks first ≡ false) → result ≡ lowest_waiting boot memory
unfolding lowest_waiting
lowest-same boot memory blocks None settled after block lowest none =
    sym (find-none (λ c. is_waiting (block_state boot memory c)) (cut boot)
    (λ c has. false-of (is_waiting (block_state boot memory c)) (λ t.
    true-false (waits blocks c.first) (after.waiting c.first ∙ waits-here boot memory c has (waiting-is (block_state boot memory c) t)) (none c.first))))
lowest-same boot memory blocks (Some b) settled after block lowest none =
    let there = waits-there boot memory b.first (sym (after.waiting b.first) ∙ lowest.0) in
    let ten = settled.states.tens there.block (wait-not-loose (block_state boot memory there.block) there.waiting) in
    let same = block-eq there.block b there.at (ten ∙ sym block.0) in
    sym (cut-lowest boot settled.made (λ c. is_waiting (block_state boot memory c)) b (subst (Contains (cut boot)) same there.has)
    (ap (λ c. is_waiting (block_state boot memory c)) (sym same) ∙ ap is_waiting there.waiting)
    (λ other has t. lowest.1 other.first (after.waiting other.first ∙ waits-here boot memory other has (waiting-is (block_state boot memory other) t))))

-- it has order 10, and is the one that the allocator takes
pub lowest-back : (boot : Boot) (memory : List Entry) (blocks : State) (block : Block) → Settled boot memory → BlocksAfter boot memory blocks → lowest_waiting boot memory ≡ Some block → IsBlock 10 block × IsLowestWaiting blocks block
unfolding lowest_waiting
lowest-back boot memory blocks block settled after lowest =
    let its = lowest-waits boot memory block lowest in
    let form = cut-form boot settled.made block its.0 in
    let ten = settled.states.tens block (wait-not-loose (block_state boot memory block) its.1) in (
      (ten, sym (ap (λ o. block.first % 2 ^ o) ten) ∙ form.aligned, subst (λ o. block.first + 2 ^ o ≤ PAGE_END) ten form.end),
      (
        after.waiting block.first ∙ waits-here boot memory block its.0 its.1,
        λ first t. (
            let there = waits-there boot memory first (sym (after.waiting first) ∙ t) in
            subst (λ f. block.first ≤ f) there.at (least there.block there.has (ap is_waiting there.waiting))),
      ),
    )
  where
    least : (other : Block) → Contains (cut boot) other → is_waiting (block_state boot memory other) ≡ true → block.first ≤ other.first
    least other has t = cut-least boot settled.made (λ b. is_waiting (block_state boot memory b)) block other lowest has t

-- ---- which blocks may be put

-- no page of a block that isn't loose is free
closed-page : (boot : Boot) (memory : List Entry) (block : Block) (page : ℕ) → BootMade boot → Contains (cut boot) block → in_block page block ≡ true → is_loose (block_state boot memory block) ≡ false → free_page boot memory page ≡ false
closed-page boot memory block page made has inside closed = free-held boot memory block page made has inside ∙ ap (λ b. b && not (is_owned memory page)) closed

-- a page of a block that waits lies behind a page from which it waits
in-ten : (block : Block) (page : ℕ) → block.order ≡ 10 → block.first ≡ page / 2 ^ 10 * 2 ^ 10 → in_block page block ≡ true
in-ten block page ten at =
    let size : 2 ^ block.order ≡ 1024 = ap (λ o. 2 ^ o) ten in in_range-intro block.first (2 ^ block.order) page (omega (arith, at)) (omega (arith, at, size))

pub ten-first : (block : Block) (page : ℕ) → block.order ≡ 10 → block.first % 2 ^ block.order ≡ 0 → in_block page block ≡ true → block.first ≡ page / 2 ^ 10 * 2 ^ 10
ten-first block page ten aligned inside =
    let size : 2 ^ block.order ≡ 1024 = ap (λ o. 2 ^ o) ten in
    let even : block.first % 1024 ≡ 0 = sym (ap (λ n. block.first % n) size) ∙ aligned in
    let two = in_range-elim block.first (2 ^ block.order) page inside in
    let low = two.0 in
    let high = two.1 in
    omega (arith, even, low, high, size)

-- no page of a block of the cut that doesn't wait lies in one that does
unwaited-page : (boot : Boot) (memory : List Entry) (blocks : State) (block : Block) (page : ℕ) → Settled boot memory → BlocksAfter boot memory blocks → Contains (cut boot) block → in_block page block ≡ true → is_waiting (block_state boot memory block) ≡ false → page_waits blocks page ≡ false
unwaited-page boot memory blocks block page settled after has inside gone =
    false-of (page_waits blocks page) (λ t.
    let there = waits-there boot memory (page / 2 ^ 10 * 2 ^ 10) (sym (after.waiting (page / 2 ^ 10 * 2 ^ 10)) ∙ t) in
    let ten = settled.states.tens there.block (wait-not-loose (block_state boot memory there.block) there.waiting) in
    let same = cut-one boot settled.made there.block block page there.has has (in-ten there.block page ten there.at) inside in
    true-false (is_waiting (block_state boot memory block)) (ap (λ b. is_waiting (block_state boot memory b)) (sym same) ∙ ap is_waiting there.waiting) gone)

-- a block that a processor owns
pub may-free : (boot : Boot) (memory : List Entry) (blocks : State) (block : Block) → Settled boot memory → BlocksAfter boot memory blocks → OwnerStands boot memory block → MayPut blocks block
may-free boot memory blocks block settled after owner = record {
  order = owner.order;
  aligned = owner.aligned;
  end = owner.end;
  not_free = λ page at.
      let inside = in_range-intro block.first (2 ^ block.order) page at.0 at.1 in
      after.free page ∙ free-held boot memory owner.home page settled.made owner.cut_has (owner.inside page inside)
      ∙ ap (λ b. is_loose (block_state boot memory owner.home) && not b) (owner.owned page inside) ∙ and-off (is_loose (block_state boot memory owner.home));
  not_waiting = λ page at.
      let inside = in_range-intro block.first (2 ^ block.order) page at.0 at.1 in
      unwaited-page boot memory blocks owner.home page settled after owner.cut_has (owner.inside page inside) (ap is_waiting owner.loose);
}

-- the block of an open claim
pub may-close : (boot : Boot) (memory : List Entry) (blocks : State) (cpu : ℕ) (claim : Claimed) (block : Block) → Settled boot memory → BlocksAfter boot memory blocks → claim_of boot memory cpu ≡ Some claim → claim.block ≡ Some block → MayPut blocks block × (block.order ≡ 10)
may-close boot memory blocks cpu claim block settled after opens its =
    let flight = settled.flights cpu claim block opens its in
    let form = cut-form boot settled.made block flight.1 in (
      record {
        order = form.order;
        aligned = form.aligned;
        end = form.end;
        not_free = λ page at. after.free page ∙ closed-page boot memory block page settled.made flight.1 (in_range-intro block.first (2 ^ block.order) page at.0 at.1) (ap is_loose flight.0);
        not_waiting = λ page at. unwaited-page boot memory blocks block page settled after flight.1 (in_range-intro block.first (2 ^ block.order) page at.0 at.1) (ap is_waiting flight.0);
      },
      settled.states.tens block (λ loose. in-flight (block_state boot memory block) flight.0 loose),
    )
  where
    in-flight : (at : BlockState) → at ≡ InFlight cpu → at ≡ Loose → ⊥
    in-flight at is loose = cc

-- ---- what changes of the tests

module _ (boot : Boot) (memory now : List Entry) where
  free-same : ((block : Block) → is_loose (block_state boot now block) ≡ is_loose (block_state boot memory block)) → ((page : ℕ) → is_owned now page ≡ is_owned memory page) → (page : ℕ) → free_page boot now page ≡ free_page boot memory page
  free-same states owned page = free-in boot now page (find (in_block page) (cut boot)) refl ∙ by_home (find (in_block page) (cut boot)) ∙ sym (free-in boot memory page (find (in_block page) (cut boot)) refl) where
    by_home : (found : Option Block) → free_in boot now page found ≡ free_in boot memory page found
    by_home None = refl
    by_home (Some block) = ap (λ b. b && not (is_owned now page)) (states block) ∙ ap (λ b. is_loose (block_state boot memory block) && not b) (owned page)

  waits-same : ((block : Block) → is_waiting (block_state boot now block) ≡ is_waiting (block_state boot memory block)) → (first : ℕ) → waits_from boot now first ≡ waits_from boot memory first
  waits-same states first = any-same (waits_at boot now first) (waits_at boot memory first) (λ block. ap (λ b. block.first == first && b) (states block)) (cut boot)

  -- no block changes, and no page
  kept-same : (blocks : State) → ((block : Block) → block_state boot now block ≡ block_state boot memory block) → ((page : ℕ) → is_owned now page ≡ is_owned memory page) → BlocksAfter boot memory blocks → BlocksAfter boot now blocks
  kept-same blocks states owned after = record {
    free = λ page. after.free page ∙ sym (free-same (λ block. ap is_loose (states block)) owned page);
    waiting = λ first. after.waiting first ∙ sym (waits-same (λ block. ap is_waiting (states block)) first);
  }

  -- one block changes
  module _ (block : Block) (made : BootMade boot) (has : Contains (cut boot) block) (others : (other : Block) → block ≢ other → block_state boot now other ≡ block_state boot memory other) where
    -- the test of another block that begins elsewhere
    elsewhere : (first : ℕ) → (block.first == first) ≡ false → (other : Block) → waits_at boot now first other ≡ waits_at boot memory first other
    elsewhere first away other =
        elim (cases_Bool (other.first == first)) [
          | inr f ↦ ap (λ b. b && is_waiting (block_state boot now other)) f ∙ sym (ap (λ b. b && is_waiting (block_state boot memory other)) f)
          | inl t ↦
              ap (λ at. other.first == first && is_waiting at)
              (others other (λ same. true-false (block.first == first) (ap (λ (b : Block). b.first == first) same ∙ t) away))
        ]

    -- it waits no longer
    waits-out : is_waiting (block_state boot now block) ≡ false → (first : ℕ) → waits_from boot now first ≡ (waits_from boot memory first && not (block.first == first))
    waits-out gone first =
        elim (cases_Bool (block.first == first)) [
          | inr f ↦
              any-same (waits_at boot now first) (waits_at boot memory first) (elsewhere first f) (cut boot)
              ∙ sym (ap (λ b. waits_from boot memory first && not b) f ∙ and-on (waits_from boot memory first))
          | inl t ↦
              any-none (waits_at boot now first) (cut boot) (λ other there. at-first first (eqb-true block.first first t) other there)
              ∙ sym (ap (λ b. waits_from boot memory first && not b) t ∙ and-off (waits_from boot memory first))
        ]
      where
        at-first : (first : ℕ) → block.first ≡ first → (other : Block) → Contains (cut boot) other → waits_at boot now first other ≡ false
        at-first first at other there =
            false-of (waits_at boot now first other) (λ t.
            let two = and_parts (other.first == first) (is_waiting (block_state boot now other)) t in
            let starts : block.first ≡ other.first = at ∙ sym (eqb-true other.first first two.0) in
            let same = cut-one boot made block other block.first has there (first-inside block) (ap (λ f. in_block f other) starts ∙ first-inside other) in
            true-false (is_waiting (block_state boot now other)) two.1 (ap (λ b. is_waiting (block_state boot now b)) (sym same) ∙ gone))

    -- it waits now
    waits-more : block_state boot now block ≡ Waits → (first : ℕ) → waits_from boot now first ≡ (waits_from boot memory first || block.first == first)
    waits-more is first =
        elim (cases_Bool (block.first == first)) [
          | inr f ↦
              any-same (waits_at boot now first) (waits_at boot memory first) (elsewhere first f) (cut boot)
              ∙ sym (ap (λ b. waits_from boot memory first || b) f ∙ or-off (waits_from boot memory first))
          | inl t ↦
              sym (ap (waits_from boot now) (eqb-true block.first first t)) ∙ waits-here boot now block has is
              ∙ sym (ap (λ b. waits_from boot memory first || b) t ∙ or-on (waits_from boot memory first))
        ]

    -- it is loose now, and no page of it is owned
    free-more : ((page : ℕ) → is_owned now page ≡ is_owned memory page) → ((page : ℕ) → in_block page block ≡ true → is_owned memory page ≡ false) → is_loose (block_state boot now block) ≡ true → (page : ℕ) → free_page boot now page ≡ (free_page boot memory page || in_block page block)
    free-more owned none loose page =
        elim (cases_Bool (in_block page block)) [
          | inl t ↦
              free-held boot now block page made has t ∙ ap (λ b. b && not (is_owned now page)) loose ∙ ap (λ b. not b) (owned page ∙ none page t)
              ∙ sym (ap (λ b. free_page boot memory page || b) t ∙ or-on (free_page boot memory page))
          | inr f ↦
              free-in boot now page (find (in_block page) (cut boot)) refl ∙ by_home (find (in_block page) (cut boot)) refl f ∙ sym (free-in boot memory page (find (in_block page) (cut boot)) refl)
              ∙ sym (ap (λ b. free_page boot memory page || b) f ∙ or-off (free_page boot memory page))
        ]
      where
        by_home : (found : Option Block) → find (in_block page) (cut boot) ≡ found → in_block page block ≡ false → free_in boot now page found ≡ free_in boot memory page found
        by_home None at out = refl
        by_home (Some other) at out =
            let inside = (found-in (in_block page) (cut boot) other at).1 in
            let same = others other (λ same. true-false (in_block page block) (ap (in_block page) same ∙ inside) out) in
            ap (λ at. is_loose at && not (is_owned now page)) same ∙ ap (λ b. is_loose (block_state boot memory other) && not b) (owned page)

  -- a test of states that one block passes as before
  same-test : (test : BlockState → Bool) (block : Block) → ((other : Block) → block ≢ other → block_state boot now other ≡ block_state boot memory other) → test (block_state boot now block) ≡ test (block_state boot memory block) → (other : Block) → test (block_state boot now other) ≡ test (block_state boot memory other)
  same-test test block others same other =
      elim (cases_Bool (same_block block other)) [
        | inl t ↦ (let is = same-block block other t in subst (λ b. test (block_state boot now b) ≡ test (block_state boot memory b)) is same)
        | inr f ↦ ap test (others other (λ is. true-false (same_block block other) (ap (same_block block) (sym is) ∙ same-itself block) f))
      ]

-- ---- after an event

-- an event that changes no block: none of a claim for a block, a report that closes, an allocation and a free
abbrev pub LeavesBlocks : Event → Type 0
LeavesBlocks (event.Claim None units run) = Unit {0}
LeavesBlocks event.Own = Unit {0}
LeavesBlocks event.NoBlock = Unit {0}
LeavesBlocks (event.Asked found) = Unit {0}
LeavesBlocks (event.Touched page found) = Unit {0}
LeavesBlocks _ = ⊥

leaves-state : (block : Block) (cpu : ℕ) (at : BlockState) (e : Event) → LeavesBlocks e → block_step block cpu at e ≡ at
leaves-state block cpu at (event.Claim None units run) leaves = refl
leaves-state block cpu at event.Own leaves = refl
leaves-state block cpu at event.NoBlock leaves = refl
leaves-state block cpu at (event.Asked found) leaves = refl
leaves-state block cpu at (event.Touched page found) leaves = refl
leaves-state block cpu at _ leaves = absurd leaves

leaves-owned : (page : ℕ) (owned : Bool) (e : Event) → LeavesBlocks e → owned_after page owned e ≡ owned
leaves-owned page owned (event.Claim None units run) leaves = refl
leaves-owned page owned event.Own leaves = refl
leaves-owned page owned event.NoBlock leaves = refl
leaves-owned page owned (event.Asked found) leaves = refl
leaves-owned page owned (event.Touched at found) leaves = refl
leaves-owned page owned _ leaves = absurd leaves

pub blocks-same : (boot : Boot) (memory : List Entry) (entry : Entry) (blocks : State) → BlocksAfter boot memory blocks → LeavesBlocks entry.event → BlocksAfter boot (memory ++ entry ∷ []) blocks
blocks-same boot memory entry blocks after leaves =
    kept-same boot memory (memory ++ entry ∷ []) blocks
    (λ block. block_state-push boot memory entry block ∙ leaves-state block entry.cpu.0 (block_state boot memory block) entry.event leaves)
    (λ page. is_owned-push memory entry page ∙ leaves-owned page (is_owned memory page) entry.event leaves) after

module _ (boot : Boot) (memory : List Entry) (entry : Entry) where
  -- the state of a block, and who owns a page, after an event
  state-after : (block : Block) (e : Event) → entry.event ≡ e → block_state boot (memory ++ entry ∷ []) block ≡ block_step block entry.cpu.0 (block_state boot memory block) e
  state-after block e is = block_state-push boot memory entry block ∙ ap (block_step block entry.cpu.0 (block_state boot memory block)) is

  owned-after : (page : ℕ) (e : Event) → entry.event ≡ e → is_owned (memory ++ entry ∷ []) page ≡ owned_after page (is_owned memory page) e
  owned-after page e is = is_owned-push memory entry page ∙ ap (owned_after page (is_owned memory page)) is

  -- a report with which a claim goes on
  pub blocks-next : (blocks : State) (run next : Units) (calls : List ModuleCall) → BlocksAfter boot memory blocks → entry.event ≡ event.Report run calls None (Some next) → BlocksAfter boot (memory ++ entry ∷ []) blocks
  blocks-next blocks run next calls after is =
      kept-same boot memory (memory ++ entry ∷ []) blocks
      (λ block. state-after block (event.Report run calls None (Some next)) is ∙ still (block_state boot memory block))
      (λ page. owned-after page (event.Report run calls None (Some next)) is) after
    where
      still : (at : BlockState) → reported entry.cpu.0 None (Some next) at ≡ at
      still Waits = refl
      still Loose = refl
      still (InFlight by) =
          elim (cases_Bool (by == entry.cpu.0)) [
            | inl t ↦ ap (λ b. cond b (InFlight entry.cpu.0) (InFlight by)) t ∙ ap InFlight (sym (eqb-true by entry.cpu.0 t))
            | inr f ↦ ap (λ b. cond b (InFlight entry.cpu.0) (InFlight by)) f
          ]

  -- a report leaves the blocks that aren't the claim's
  report-other : (claim : Claimed) (stopped : Option Page) (next : Option Units) (block : Block) → StatesStand boot memory → claim_of boot memory entry.cpu.0 ≡ Some claim → claim.block ≢ Some block → (at : BlockState) → block_state boot memory block ≡ at → reported entry.cpu.0 stopped next at ≡ at
  report-other claim stopped next block states opens not Waits was = refl
  report-other claim stopped next block states opens not Loose was = refl
  report-other claim stopped next block states opens not (InFlight by) was =
      elim (cases_Bool (by == entry.cpu.0)) [
        | inr f ↦ ap (λ b. cond b (after_report entry.cpu.0 stopped next) (InFlight by)) f
        | inl t ↦
            (let had = states.flying entry.cpu.0 block (was ∙ ap InFlight (eqb-true by entry.cpu.0 t)) in
            let both : Some claim ≡ Some had.0 = sym opens ∙ had.1 in
            let same : claim ≡ had.0 = cc in
            absurd (not (ap (λ (c : Claimed). c.block) same ∙ had.2)))
      ]

  -- a report of a claim for no block
  pub blocks-without : (blocks : State) (claim : Claimed) (run : Units) (calls : List ModuleCall) (stopped : Option Page) (next : Option Units) → Settled boot memory → BlocksAfter boot memory blocks → claim_of boot memory entry.cpu.0 ≡ Some claim → claim.block ≡ None → entry.event ≡ event.Report run calls stopped next → BlocksAfter boot (memory ++ entry ∷ []) blocks
  blocks-without blocks claim run calls stopped next settled after opens its is =
      kept-same boot memory (memory ++ entry ∷ []) blocks
      (λ block.
      state-after block (event.Report run calls stopped next) is
      ∙ report-other claim stopped next block settled.states opens (λ some. (let no : None ≡ Some block = sym its ∙ some in cc)) (block_state boot memory block) refl)
      (λ page. owned-after page (event.Report run calls stopped next) is) after

  some-eq : (a b : Block) → Some a ≡ Some b → a ≡ b
  some-eq a b is = cc

  module _ (claim : Claimed) (block : Block) (settled : Settled boot memory) (run : Units) (calls : List ModuleCall) (stopped : Option Page) (next : Option Units) (opens : claim_of boot memory entry.cpu.0 ≡ Some claim) (its : claim.block ≡ Some block) (is : entry.event ≡ event.Report run calls stopped next) where
    report-others : (other : Block) → block ≢ other → block_state boot (memory ++ entry ∷ []) other ≡ block_state boot memory other
    report-others other not =
        state-after other (event.Report run calls stopped next) is
        ∙ report-other claim stopped next other settled.states opens (λ some. not (some-eq block other (sym its ∙ some))) (block_state boot memory other) refl

    report-own : block_state boot (memory ++ entry ∷ []) block ≡ after_report entry.cpu.0 stopped next
    report-own =
        state-after block (event.Report run calls stopped next) is
        ∙ ap (reported entry.cpu.0 stopped next) (settled.flights entry.cpu.0 claim block opens its).0
        ∙ ap (λ b. cond b (after_report entry.cpu.0 stopped next) (InFlight entry.cpu.0)) (eq-eqb entry.cpu.0 entry.cpu.0 refl)

-- no page of a block of the cut that isn't loose is owned
unowned : (boot : Boot) (memory : List Entry) (block : Block) → StatesStand boot memory → Contains (cut boot) block → block_state boot memory block ≢ Loose → (page : ℕ) → in_block page block ≡ true → is_owned memory page ≡ false
unowned boot memory block states has closed page inside = false-of (is_owned memory page) (λ t. closed (states.owned block page has inside t))

flight-not-loose : (cpu : ℕ) (at : BlockState) → at ≡ InFlight cpu → at ≢ Loose
flight-not-loose cpu at is = λ loose. cc

-- a report that closes a claim for a block with no run left: the block is free
pub blocks-closed : (boot : Boot) (memory : List Entry) (entry : Entry) (old new : State) (claim : Claimed) (block : Block) (run : Units) (calls : List ModuleCall) → Settled boot memory → BlocksAfter boot memory old → claim_of boot memory entry.cpu.0 ≡ Some claim → claim.block ≡ Some block → entry.event ≡ event.Report run calls None None
    → ((page : ℕ) → is_free new page ≡ (is_free old page || in_range block.first (2 ^ block.order) page)) → ((first : ℕ) → waits new first ≡ waits old first) → BlocksAfter boot (memory ++ entry ∷ []) new
blocks-closed boot memory entry old new claim block run calls settled after opens its is freed waiting =
    let now = memory ++ entry ∷ [] in
    let flight = settled.flights entry.cpu.0 claim block opens its in
    let own = report-own boot memory entry claim block settled run calls None None opens its is in
    let others = report-others boot memory entry claim block settled run calls None None opens its is in
    let owned = λ (page : ℕ). owned-after boot memory entry page (event.Report run calls None None) is in
    record {
      free = λ page.
          freed page ∙ ap (λ b. b || in_block page block) (after.free page)
          ∙ sym (free-more boot memory now block settled.made flight.1 others owned (unowned boot memory block settled.states flight.1 (flight-not-loose entry.cpu.0 (block_state boot memory block) flight.0)) (ap is_loose own) page);
      waiting = λ first.
          waiting first ∙ after.waiting first
          ∙ sym (waits-same boot memory now (same-test boot memory now is_waiting block others (ap is_waiting own ∙ sym (ap is_waiting flight.0))) first);
    }

-- a report that closes a claim for a block whose acceptance stopped: the block waits
pub blocks-stopped : (boot : Boot) (memory : List Entry) (entry : Entry) (old new : State) (claim : Claimed) (block : Block) (run : Units) (calls : List ModuleCall) (page : Page) (next : Option Units) → Settled boot memory → BlocksAfter boot memory old → claim_of boot memory entry.cpu.0 ≡ Some claim → claim.block ≡ Some block → entry.event ≡ event.Report run calls (Some page) next
    → ((first : ℕ) → waits new first ≡ (waits old first || block.first == first)) → ((page : ℕ) → is_free new page ≡ is_free old page) → BlocksAfter boot (memory ++ entry ∷ []) new
blocks-stopped boot memory entry old new claim block run calls stop next settled after opens its is waiting free =
    let now = memory ++ entry ∷ [] in
    let flight = settled.flights entry.cpu.0 claim block opens its in
    let own = report-own boot memory entry claim block settled run calls (Some stop) next opens its is in
    let others = report-others boot memory entry claim block settled run calls (Some stop) next opens its is in
    let owned = λ (page : ℕ). owned-after boot memory entry page (event.Report run calls (Some stop) next) is in
    record {
      free = λ page.
          free page ∙ after.free page
          ∙ sym (free-same boot memory now (same-test boot memory now is_loose block others (ap is_loose own ∙ sym (ap is_loose flight.0))) owned page);
      waiting = λ first.
          waiting first ∙ ap (λ b. b || block.first == first) (after.waiting first)
          ∙ sym (waits-more boot memory now block settled.made flight.1 others own first);
    }

-- an allocation
pub blocks-got : (boot : Boot) (memory : List Entry) (entry : Entry) (old new : State) (order : ℕ) (block : Block) → BlocksAfter boot memory old → IsBlock order block → entry.event ≡ event.Got block → Takes order block (is_free old) (is_free new) → ((first : ℕ) → waits new first ≡ waits old first) → BlocksAfter boot (memory ++ entry ∷ []) new
blocks-got boot memory entry old new order block after form is takes waiting =
    let now = memory ++ entry ∷ [] in
    let states = λ (other : Block). state-after boot memory entry other (event.Got block) is in
    record {
      free = λ page.
          takes.1 page ∙ ap (λ o. is_free old page && not (in_range block.first (2 ^ o) page)) (sym form.0) ∙ ap (λ b. b && not (in_block page block)) (after.free page)
          ∙ ap (λ b. b && not (in_block page block)) (free-in boot memory page (find (in_block page) (cut boot)) refl)
          ∙ sym (free-in boot now page (find (in_block page) (cut boot)) refl ∙ by_home page (find (in_block page) (cut boot)));
      waiting = λ first. waiting first ∙ after.waiting first ∙ sym (waits-same boot memory now (λ other. ap is_waiting (states other)) first);
    }
  where
    either : (loose owned inside : Bool) → (loose && not (cond inside true owned)) ≡ ((loose && not owned) && not inside)
    either true owned true = sym (and-off (not owned))
    either true owned false = sym (and-on (not owned))
    either false owned inside = refl

    by_home : (page : ℕ) (found : Option Block) → free_in boot (memory ++ entry ∷ []) page found ≡ (free_in boot memory page found && not (in_block page block))
    by_home page None = refl
    by_home page (Some home) =
        ap (λ at. is_loose at && not (is_owned (memory ++ entry ∷ []) page)) (state-after boot memory entry home (event.Got block) is)
        ∙ ap (λ b. is_loose (block_state boot memory home) && not b) (owned-after boot memory entry page (event.Got block) is)
        ∙ either (is_loose (block_state boot memory home)) (is_owned memory page) (in_block page block)

-- a block that is freed
pub blocks-freed : (boot : Boot) (memory : List Entry) (entry : Entry) (old new : State) (block : Block) → Settled boot memory → OwnerStands boot memory block → BlocksAfter boot memory old → entry.event ≡ event.Freed block
    → ((page : ℕ) → is_free new page ≡ (is_free old page || in_range block.first (2 ^ block.order) page)) → ((first : ℕ) → waits new first ≡ waits old first) → BlocksAfter boot (memory ++ entry ∷ []) new
blocks-freed boot memory entry old new block settled owner after is freed waiting =
    record {
      free = λ page. freed page ∙ ap (λ b. b || in_block page block) (after.free page) ∙ sym (by_page page);
      waiting = λ first. waiting first ∙ after.waiting first ∙ sym (waits-same boot memory (memory ++ entry ∷ []) (λ other. ap is_waiting (state-after boot memory entry other (event.Freed block) is)) first);
    }
  where
    by_home : (page : ℕ) (found : Option Block) → in_block page block ≡ false → free_in boot (memory ++ entry ∷ []) page found ≡ free_in boot memory page found
    by_home page None out = refl
    by_home page (Some home) out =
        ap (λ at. is_loose at && not (is_owned (memory ++ entry ∷ []) page)) (state-after boot memory entry home (event.Freed block) is)
        ∙ ap (λ b. is_loose (block_state boot memory home) && not b) (owned-after boot memory entry page (event.Freed block) is ∙ ap (λ b. cond b false (is_owned memory page)) out)

    by_page : (page : ℕ) → free_page boot (memory ++ entry ∷ []) page ≡ (free_page boot memory page || in_block page block)
    by_page page =
        elim (cases_Bool (in_block page block)) [
          | inl t ↦
              free-held boot (memory ++ entry ∷ []) owner.home page settled.made owner.cut_has (owner.inside page t)
              ∙ ap (λ at. is_loose at && not (is_owned (memory ++ entry ∷ []) page)) (state-after boot memory entry owner.home (event.Freed block) is ∙ owner.loose)
              ∙ ap not (owned-after boot memory entry page (event.Freed block) is ∙ ap (λ b. cond b false (is_owned memory page)) t)
              ∙ sym (ap (λ b. free_page boot memory page || b) t ∙ or-on (free_page boot memory page))
          | inr f ↦
              free-in boot (memory ++ entry ∷ []) page (find (in_block page) (cut boot)) refl ∙ by_home page (find (in_block page) (cut boot)) f ∙ sym (free-in boot memory page (find (in_block page) (cut boot)) refl)
              ∙ sym (ap (λ b. free_page boot memory page || b) f ∙ or-off (free_page boot memory page))
        ]

-- a claim for a block leaves the others
claim-others : (boot : Boot) (memory : List Entry) (entry : Entry) (block : Block) (units run : Option Units) → entry.event ≡ event.Claim (Some block) units run → (other : Block) → block ≢ other → block_state boot (memory ++ entry ∷ []) other ≡ block_state boot memory other
claim-others boot memory entry block units run is other differ =
    state-after boot memory entry other (event.Claim (Some block) units run) is
    ∙ ap (λ b. cond b (after_claim entry.cpu.0 run) (block_state boot memory other)) (false-of (same_block block other) (λ t. differ (same-block block other t)))

claim-own : (boot : Boot) (memory : List Entry) (entry : Entry) (block : Block) (units run : Option Units) → entry.event ≡ event.Claim (Some block) units run → block_state boot (memory ++ entry ∷ []) block ≡ after_claim entry.cpu.0 run
claim-own boot memory entry block units run is =
    state-after boot memory entry block (event.Claim (Some block) units run) is
    ∙ ap (λ b. cond b (after_claim entry.cpu.0 run) (block_state boot memory block)) (same-itself block)

-- the lowest waiting block is claimed, and a run of it is out
pub blocks-claimed : (boot : Boot) (memory : List Entry) (entry : Entry) (old new : State) (block : Block) (units : Option Units) (run : Units) → Settled boot memory → BlocksAfter boot memory old → lowest_waiting boot memory ≡ Some block → entry.event ≡ event.Claim (Some block) units (Some run)
    → ((first : ℕ) → waits new first ≡ (waits old first && not (block.first == first))) → ((page : ℕ) → is_free new page ≡ is_free old page) → BlocksAfter boot (memory ++ entry ∷ []) new
blocks-claimed boot memory entry old new block units run settled after lowest is waiting free =
    let now = memory ++ entry ∷ [] in
    let its = lowest-waits boot memory block lowest in
    let own = claim-own boot memory entry block units (Some run) is in
    let others = claim-others boot memory entry block units (Some run) is in
    let owned = λ (page : ℕ). owned-after boot memory entry page (event.Claim (Some block) units (Some run)) is in
    record {
      free = λ page.
          free page ∙ after.free page
          ∙ sym (free-same boot memory now (same-test boot memory now is_loose block others (ap is_loose own ∙ sym (ap is_loose its.1))) owned page);
      waiting = λ first.
          waiting first ∙ ap (λ b. b && not (block.first == first)) (after.waiting first)
          ∙ sym (waits-out boot memory now block settled.made its.0 others (ap is_waiting own) first);
    }

-- the lowest waiting block is claimed, and is free, since it has no unaccepted unit
pub blocks-cleared : (boot : Boot) (memory : List Entry) (entry : Entry) (old mid new : State) (block : Block) (units : Option Units) → Settled boot memory → BlocksAfter boot memory old → lowest_waiting boot memory ≡ Some block → entry.event ≡ event.Claim (Some block) units None
    → ((first : ℕ) → waits mid first ≡ (waits old first && not (block.first == first))) → ((page : ℕ) → is_free mid page ≡ is_free old page)
    → ((page : ℕ) → is_free new page ≡ (is_free mid page || in_range block.first (2 ^ block.order) page)) → ((first : ℕ) → waits new first ≡ waits mid first) → BlocksAfter boot (memory ++ entry ∷ []) new
blocks-cleared boot memory entry old mid new block units settled after lowest is taken same freed kept =
    let now = memory ++ entry ∷ [] in
    let its = lowest-waits boot memory block lowest in
    let own = claim-own boot memory entry block units None is in
    let others = claim-others boot memory entry block units None is in
    let owned = λ (page : ℕ). owned-after boot memory entry page (event.Claim (Some block) units None) is in
    record {
      free = λ page.
          freed page ∙ ap (λ b. b || in_block page block) (same page ∙ after.free page)
          ∙ sym (free-more boot memory now block settled.made its.0 others owned (unowned boot memory block settled.states its.0 (wait-not-loose (block_state boot memory block) its.1)) (ap is_loose own) page);
      waiting = λ first.
          kept first ∙ taken first ∙ ap (λ b. b && not (block.first == first)) (after.waiting first)
          ∙ sym (waits-out boot memory now block settled.made its.0 others (ap is_waiting own) first);
    }
