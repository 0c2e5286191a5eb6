-- What stands of blocks in the memory stands after each event that fits.
use Rattle.std.proofs.Common.{◌≡◌, ◌≢◌, ℕ, ◌+◌, ◌-◌, ◌^◌, Bool, true, false, Option, None, Some, List, [], ◌∷◌, ◌++◌, refl, sym, ◌∙◌, ap, subst, inl, inr, arith, cond, eqb-true, eq-eqb, ne_eqb}
use Rattle.std.specs.Prelude.{Contains, ◌⊎◌, ◌==◌}
use Rattle.std.proofs.lemmas.Bool.{cases_Bool}
use Rattle.std.proofs.lemmas.List.Elements.{All-contains, All-from_recursion}
use Rattle.std.proofs.lemmas.List.Sums.{fold-append}
use Rattle.std.proofs.lemmas.Nat.{pow_pos}
use Rattle.guest_base.specs.Blocks.{pick}
use Rattle.guest_base.specs.declared.memory.Block.{Block}
use Rattle.guest_base.specs.declared.memory.Page.{Page}
use Rattle.guest_base.specs.declared.memory.Units.{Units}
use Rattle.guest_base.proofs.RangeLemmas.{in_range-intro, in_range-elim}
use Rattle.event_core.specs.declared.boot.Boot.{Boot}
use Rattle.event_core.specs.declared.entry.Entry.{Entry}
use Rattle.event_core.specs.declared.event.Event.{Event}
use Rattle.event_core.specs.declared.event.Event.TheVariants as event
use Rattle.event_core.specs.declared.module_call.ModuleCall.{ModuleCall}
use Rattle.event_core.specs.Absent.{absent_after, in_block, is_absent}
use Rattle.event_core.specs.Blocks.{BlockState, InFlight, after_claim, after_report, block_state, block_step, free_page, is_loose, is_owned, owned_after}
use Rattle.event_core.specs.Calls.{accepts_page, calls_of}
use Rattle.event_core.specs.Claims.{Claimed, claim_of, claim_step, goes_on, opened}
use Rattle.event_core.specs.Cut.{cut}
use Rattle.event_core.specs.Holdings.{same_block}
use Rattle.event_core.specs.Legal.{CallsFit}
use Rattle.event_core.proofs.StandingLemmas.{claim_of-push}
use Rattle.event_laws.specs.Coming.{BootMade}
use Rattle.block_laws.specs.Apart.{AreApart}
use Rattle.block_laws.specs.Guarded.{BlockStands, NonePending}
use Rattle.block_laws.proofs.BootedFacts.{boot-stands}
use Rattle.block_laws.proofs.FitFacts.{ClaimFits, Fits, IsPicked}
use Rattle.block_laws.proofs.HeldFacts.{loose-stands, picked-free}
use Rattle.block_laws.proofs.OwnedFacts.{apart-swap, free-unowned, is_owned-push}
use Rattle.block_laws.proofs.StandFacts.{block_state-push, memory-first, memory-push, no-claim, same-block}
use Rattle.memory_core.specs.Owners.{is_owner, owned_by}
use Rattle.memory_core.specs.Settled.{OwnerStands, Settled}
use Rattle.memory_core.proofs.BlocksLemmas.{states-first, states-push}
use Rattle.memory_core.proofs.HomeLemmas.{picked-home, picked-place}
use Rattle.memory_core.proofs.WaitingLemmas.{loose-stays, lowest-waits, not-claimed, same-itself}

-- ---- at first

no-owner : (cpu : ℕ) (block : Block) → is_owner [] cpu block ≡ false
unfolding is_owner
no-owner cpu block = refl

none-absent : (page : ℕ) → is_absent [] page ≡ false
unfolding is_absent
none-absent page = refl

-- when boot is over nobody owns a block
pub settled-first : (boot : Boot) → BootMade boot → Settled boot []
settled-first boot made = record {
  made = made;
  stands = memory-first boot (boot-stands boot made);
  states = states-first boot;
  owners = λ cpu block is. (let no : true ≡ false = sym is ∙ no-owner cpu block in cc);
  apart = λ cpu other a b first second differ. (let no : true ≡ false = sym first ∙ no-owner cpu a in cc);
  flights = λ cpu claim block opened its. (let no : None ≡ Some claim = sym (no-claim boot cpu) ∙ opened in cc);
  absent = none-absent;
}

-- ---- facts on owners

-- each page of a picked block is owned by nobody
picked-unowned : (boot : Boot) (memory : List Entry) (order : ℕ) (block : Block) → pick (free_page boot memory) order ≡ Some block → (page : ℕ) → in_block page block ≡ true → is_owned memory page ≡ false
picked-unowned boot memory order block is page inside = free-unowned boot memory page (picked-free (free_page boot memory) order block is page inside)

-- nobody owns a picked block
pub picked-nobodys : (boot : Boot) (memory : List Entry) (order : ℕ) (block : Block) → Settled boot memory → pick (free_page boot memory) order ≡ Some block → (cpu : ℕ) → is_owner memory cpu block ≡ false
picked-nobodys boot memory order block settled is cpu =
    elim (cases_Bool (is_owner memory cpu block)) [
      | inr f ↦ f
      | inl t ↦
          (let some = pow_pos block.order in
          let first = in_range-intro block.first (2 ^ block.order) block.first (omega arith) (omega (arith, some)) in
          let no : true ≡ false = sym ((settled.owners cpu block t).owned block.first first) ∙ picked-unowned boot memory order block is block.first first in
          cc)
    ]

-- no page of a block that a processor owns is pending, nor is the page behind it
pub owner-clear : (boot : Boot) (memory : List Entry) (cpu : ℕ) (block : Block) → Settled boot memory → is_owner memory cpu block ≡ true → NonePending boot (calls_of boot memory) block
owner-clear boot memory cpu block settled is page at =
    let owner = settled.owners cpu block is in
    let home = owner.home in
    let stands = All-contains (BlockStands boot memory) (cut boot) home (All-from_recursion (BlockStands boot memory) (cut boot) settled.stands.blocks) owner.cut_has in
    let none = loose-stands boot memory home (block_state boot memory home) (ap is_loose owner.loose) stands in
    let some = pow_pos block.order in
    let last : ℕ = block.first + 2 ^ block.order - 1 in
    let from = (in_range-elim home.first (2 ^ home.order) block.first (owner.inside block.first (in_range-intro block.first (2 ^ block.order) block.first (omega arith) (omega (arith, some))))).0 in
    let to = (in_range-elim home.first (2 ^ home.order) last (owner.inside last (in_range-intro block.first (2 ^ block.order) last (omega (arith, some)) (omega (arith, some))))).1 in
    let low = at.low in
    let high = at.high in
    none page (record { low = omega (arith, from, low); high = omega (arith, to, high, some) })

-- ---- one more entry

pub is_owner-push : (memory : List Entry) (entry : Entry) (cpu : ℕ) (block : Block) → is_owner (memory ++ entry ∷ []) cpu block ≡ cond (entry.cpu.0 == cpu) (owned_by block (is_owner memory cpu block) entry.event) (is_owner memory cpu block)
unfolding is_owner
is_owner-push memory entry cpu block = fold-append (λ owned (e : Entry). cond (e.cpu.0 == cpu) (owned_by block owned e.event) owned) false memory (entry ∷ [])

-- an owner of a block was so before, or got it
owned-then : (block : Block) (owned : Bool) (e : Event) → owned_by block owned e ≡ true → (owned ≡ true) ⊎ (e ≡ event.Got block)
owned-then block owned (event.Got got) is =
    elim (cases_Bool (same_block got block)) [
      | inl t ↦ inr (ap event.Got (same-block got block t))
      | inr f ↦ inl (sym (ap (λ b. cond b true owned) f) ∙ is)
    ]
owned-then block owned (event.Freed freed) is =
    elim (cases_Bool (same_block freed block)) [
      | inl t ↦ (let no : false ≡ true = sym (ap (λ b. cond b false owned) t) ∙ is in cc)
      | inr f ↦ inl (sym (ap (λ b. cond b false owned) f) ∙ is)
    ]
owned-then block owned _ is = inl is

not-freed : (block freed : Block) (owned : Bool) → owned_by block owned (event.Freed freed) ≡ true → freed ≢ block
not-freed block freed owned is same =
    let no : false ≡ true = sym (ap (λ b. cond b false owned) (ap (same_block freed) (sym same) ∙ same-itself freed)) ∙ is in cc

-- an owned page stays owned where no block of it is freed
owned-stays : (boot : Boot) (memory : List Entry) (cpu page : ℕ) (e : Event) → Fits boot memory cpu e → ((freed : Block) → e ≡ event.Freed freed → in_block page freed ≡ false) → owned_after page true e ≡ true
owned-stays boot memory cpu page (event.Got got) fits out = either (in_block page got) where
  either : (b : Bool) → cond b true true ≡ true
  either true = refl
  either false = refl
owned-stays boot memory cpu page (event.Freed freed) fits out = ap (λ b. cond b false true) (out freed refl)
owned-stays boot memory cpu page (event.Claim of units run) fits out = refl
owned-stays boot memory cpu page (event.Report run calls stopped next) fits out = refl
owned-stays boot memory cpu page event.Own fits out = refl
owned-stays boot memory cpu page event.NoBlock fits out = refl
owned-stays boot memory cpu page (event.Asked found) fits out = refl
owned-stays boot memory cpu page (event.Touched at found) fits out = refl
owned-stays boot memory cpu page _ fits out = absurd fits

-- nothing becomes absent
absent-step : (boot : Boot) (memory : List Entry) (cpu page : ℕ) (e : Event) → Fits boot memory cpu e → absent_after page false e ≡ false
absent-step boot memory cpu page (event.Report run calls stopped next) fits = either (accepts_page calls page) where
  either : (b : Bool) → cond b false false ≡ false
  either true = refl
  either false = refl
absent-step boot memory cpu page (event.Claim of units run) fits = refl
absent-step boot memory cpu page (event.Got got) fits = refl
absent-step boot memory cpu page (event.Freed freed) fits = refl
absent-step boot memory cpu page event.Own fits = refl
absent-step boot memory cpu page event.NoBlock fits = refl
absent-step boot memory cpu page (event.Asked found) fits = refl
absent-step boot memory cpu page (event.Touched at found) fits = refl
absent-step boot memory cpu page _ fits = absurd fits

is_absent-push : (memory : List Entry) (entry : Entry) (page : ℕ) → is_absent (memory ++ entry ∷ []) page ≡ absent_after page (is_absent memory page) entry.event
unfolding is_absent
is_absent-push memory entry page = fold-append (λ absent (e : Entry). absent_after page absent e.event) false memory (entry ∷ [])

-- a block that another processor accepts
other-flight : (boot : Boot) (memory : List Entry) (by cpu : ℕ) (block : Block) (e : Event) → Fits boot memory by e → block_state boot memory block ≡ InFlight cpu → cpu ≢ by → block_step block by (InFlight cpu) e ≡ InFlight cpu
other-flight boot memory by cpu block (event.Claim None units run) fits is other = refl
other-flight boot memory by cpu block (event.Claim (Some claimed) units run) fits is other =
    ap (λ b. cond b (after_claim by run) (InFlight cpu)) (not-claimed boot memory claimed block (fits.lowest claimed refl).0 (InFlight cpu) is refl)
other-flight boot memory by cpu block (event.Report run calls stopped next) fits is other = ap (λ b. cond b (after_report by stopped next) (InFlight cpu)) (ne_eqb cpu by other)
other-flight boot memory by cpu block event.Own fits is other = refl
other-flight boot memory by cpu block (event.Got got) fits is other = refl
other-flight boot memory by cpu block event.NoBlock fits is other = refl
other-flight boot memory by cpu block (event.Freed freed) fits is other = refl
other-flight boot memory by cpu block (event.Asked found) fits is other = refl
other-flight boot memory by cpu block (event.Touched at found) fits is other = refl
other-flight boot memory by cpu block _ fits is other = absurd fits

-- a block that a processor accepts after an event of its own
abbrev Flies : Boot → ℕ → Block → BlockState → Type 0
Flies boot cpu block at = (at ≡ InFlight cpu) × Contains (cut boot) block

module _ (boot : Boot) (memory : List Entry) (settled : Settled boot memory) where
  claim-flies : (cpu : ℕ) (of : Option Block) (units run : Option Units) → ClaimFits boot memory cpu of units run → (claim : Claimed) (block : Block) → opened of units run (calls_of boot memory) ≡ Some claim → claim.block ≡ Some block
      → Flies boot cpu block (block_step block cpu (block_state boot memory block) (event.Claim of units run))
  claim-flies cpu of None run fits claim block is its = cc
  claim-flies cpu of (Some us) None fits claim block is its = cc
  claim-flies cpu of (Some us) (Some r) fits claim block is its =
      let made : record { block = of; units = us; run = r; before = calls_of boot memory; cleared = 0 } ≡ claim = cc in
      let same : of ≡ Some block = ap (λ (c : Claimed). c.block) made ∙ its in
      let waits = lowest-waits boot memory block (fits.lowest block same).0 in (
        ap (λ o. block_step block cpu (block_state boot memory block) (event.Claim o (Some us) (Some r))) same
            ∙ ap (λ b. cond b (InFlight cpu) (block_state boot memory block)) (same-itself block),
        waits.0,
      )

  report-flies : (cpu : ℕ) (calls : List ModuleCall) (old : Option Claimed) (stopped : Option Page) (next : Option Units) → claim_of boot memory cpu ≡ old → (run : Units) (claim : Claimed) (block : Block)
      → goes_on boot (calls_of boot memory) calls old stopped next ≡ Some claim → claim.block ≡ Some block
      → Flies boot cpu block (block_step block cpu (block_state boot memory block) (event.Report run calls stopped next))
  report-flies cpu calls None stopped next was run claim block is its = cc
  report-flies cpu calls (Some old) (Some page) next was run claim block is its = cc
  report-flies cpu calls (Some old) None None was run claim block is its = cc
  report-flies cpu calls (Some old) None (Some n) was run claim block is its =
      let both : old.block ≡ claim.block = cc in
      let same : old.block ≡ Some block = both ∙ its in
      let flight = settled.flights cpu old block was same in (
        ap (λ at. block_step block cpu at (event.Report run calls None (Some n))) flight.0
            ∙ ap (λ b. cond b (InFlight cpu) (InFlight cpu)) (eq-eqb cpu cpu refl),
        flight.1,
      )

  own-flies : (cpu : ℕ) (e : Event) → Fits boot memory cpu e → (claim : Claimed) (block : Block) → claim_step boot (calls_of boot memory) (claim_of boot memory cpu) e ≡ Some claim → claim.block ≡ Some block
      → Flies boot cpu block (block_step block cpu (block_state boot memory block) e)
  own-flies cpu (event.Claim of units run) fits claim block is its = claim-flies cpu of units run fits claim block is its
  own-flies cpu (event.Report run calls stopped next) fits claim block is its = report-flies cpu calls (claim_of boot memory cpu) stopped next refl run claim block is its
  own-flies cpu event.Own fits claim block is its = settled.flights cpu claim block is its
  own-flies cpu (event.Got got) fits claim block is its = settled.flights cpu claim block is its
  own-flies cpu event.NoBlock fits claim block is its = settled.flights cpu claim block is its
  own-flies cpu (event.Freed freed) fits claim block is its = settled.flights cpu claim block is its
  own-flies cpu (event.Asked found) fits claim block is its = settled.flights cpu claim block is its
  own-flies cpu (event.Touched at found) fits claim block is its = settled.flights cpu claim block is its
  own-flies cpu _ fits claim block is its = absurd fits

  module _ (entry : Entry) (fits : Fits boot memory entry.cpu.0 entry.event) where
    abbrev now : List Entry
    now = memory ++ entry ∷ []

    flights-keep : (cpu : ℕ) (claim : Claimed) (block : Block) → claim_of boot now cpu ≡ Some claim → claim.block ≡ Some block → Flies boot cpu block (block_state boot now block)
    flights-keep cpu claim block is its =
        let step = claim_of-push boot memory entry cpu in
        elim (cases_Bool (entry.cpu.0 == cpu)) [
          | inr f ↦
              (let kept = sym (step ∙ ap (λ b. cond b (claim_step boot (calls_of boot memory) (claim_of boot memory cpu) entry.event) (claim_of boot memory cpu)) f) ∙ is in
              let flight = settled.flights cpu claim block kept its in
              let other : cpu ≢ entry.cpu.0 = λ same. (let no : true ≡ false = sym (eq-eqb entry.cpu.0 cpu (sym same)) ∙ f in cc) in (
                block_state-push boot memory entry block ∙ ap (λ at. block_step block entry.cpu.0 at entry.event) flight.0
                    ∙ other-flight boot memory entry.cpu.0 cpu block entry.event fits flight.0 other,
                flight.1,
              ))
          | inl t ↦
              (let same : entry.cpu.0 ≡ cpu = eqb-true entry.cpu.0 cpu t in
              let went = sym (step ∙ ap (λ b. cond b (claim_step boot (calls_of boot memory) (claim_of boot memory cpu) entry.event) (claim_of boot memory cpu)) t) ∙ is in
              let flies = own-flies cpu entry.event (subst (λ c. Fits boot memory c entry.event) same fits) claim block went its in
              (block_state-push boot memory entry block ∙ ap (λ c. block_step block c (block_state boot memory block) entry.event) same ∙ flies.0, flies.1))
        ]

    -- who owns a block after the entry
    owner-cases : (cpu : ℕ) (block : Block) → is_owner now cpu block ≡ true → (is_owner memory cpu block ≡ true) ⊎ ((entry.cpu.0 ≡ cpu) × (entry.event ≡ event.Got block))
    owner-cases cpu block is =
        elim (cases_Bool (entry.cpu.0 == cpu)) [
          | inr f ↦ inl (sym (is_owner-push memory entry cpu block ∙ ap (λ b. cond b (owned_by block (is_owner memory cpu block) entry.event) (is_owner memory cpu block)) f) ∙ is)
          | inl t ↦
              elim (owned-then block (is_owner memory cpu block) entry.event (sym (is_owner-push memory entry cpu block ∙ ap (λ b. cond b (owned_by block (is_owner memory cpu block) entry.event) (is_owner memory cpu block)) t) ∙ is)) [
                | inl was ↦ inl was
                | inr got ↦ inr (eqb-true entry.cpu.0 cpu t, got)
              ]
        ]

    got-picked : (block : Block) → entry.event ≡ event.Got block → IsPicked boot memory block
    got-picked block got = subst (Fits boot memory entry.cpu.0) got fits

    -- a block that is freed isn't one that a processor goes on owning
    freed-other : (cpu : ℕ) (block freed : Block) → entry.event ≡ event.Freed freed → is_owner now cpu block ≡ true → (entry.cpu.0 ≢ cpu) ⊎ (freed ≢ block)
    freed-other cpu block freed frees is =
        elim (cases_Bool (entry.cpu.0 == cpu)) [
          | inr f ↦ inl (λ same. (let no : true ≡ false = sym (eq-eqb entry.cpu.0 cpu same) ∙ f in cc))
          | inl t ↦
              inr (not-freed block freed (is_owner memory cpu block)
              (sym (is_owner-push memory entry cpu block ∙ ap (λ b. cond b (owned_by block (is_owner memory cpu block) entry.event) (is_owner memory cpu block)) t ∙ ap (owned_by block (is_owner memory cpu block)) frees) ∙ is))
        ]

    apart-picked : (cpu : ℕ) (a b : Block) → is_owner memory cpu a ≡ true → entry.event ≡ event.Got b → AreApart a b
    apart-picked cpu a b first got page inside =
        elim (cases_Bool (in_block page b)) [
          | inr f ↦ f
          | inl t ↦
              (let picked = got-picked b got in
              let no : true ≡ false = sym ((settled.owners cpu a first).owned page inside) ∙ picked-unowned boot memory picked.0 b picked.1 page t in
              cc)
        ]

    apart-keep : (cpu other : ℕ) (a b : Block) → is_owner now cpu a ≡ true → is_owner now other b ≡ true → (cpu ≢ other) ⊎ (a ≢ b) → AreApart a b
    apart-keep cpu other a b first second differ =
        elim (owner-cases cpu a first) [
          | inl old ↦
              elim (owner-cases other b second) [
                | inl kept ↦ settled.apart cpu other a b old kept differ
                | inr got ↦ apart-picked cpu a b old got.1
              ]
          | inr new ↦
              elim (owner-cases other b second) [
                | inl kept ↦ apart-swap b a (apart-picked other b a kept new.1)
                | inr got ↦
                    (let both : event.Got a ≡ event.Got b = sym new.1 ∙ got.1 in
                    let blocks : a ≡ b = cc in
                    elim differ [ inl not ↦ absurd (not (sym new.0 ∙ got.0)) | inr not ↦ absurd (not blocks) ])
              ]
        ]

    module _ (frees : (block : Block) → entry.event ≡ event.Freed block → is_owner memory entry.cpu.0 block ≡ true) where
      owned-keep : (cpu : ℕ) (block : Block) → is_owner memory cpu block ≡ true → is_owner now cpu block ≡ true → (page : ℕ) → in_block page block ≡ true → is_owned now page ≡ true
      owned-keep cpu block was is page inside =
          is_owned-push memory entry page ∙ ap (λ b. owned_after page b entry.event) ((settled.owners cpu block was).owned page inside)
          ∙ owned-stays boot memory entry.cpu.0 page entry.event fits
          (λ freed at. apart-swap freed block (settled.apart entry.cpu.0 cpu freed block (frees freed at) was (freed-other cpu block freed at is)) page inside)

      owners-keep : (cpu : ℕ) (block : Block) → is_owner now cpu block ≡ true → OwnerStands boot now block
      owners-keep cpu block is =
          elim (owner-cases cpu block is) [
            | inl was ↦
                (let owner = settled.owners cpu block was in
                record {
                  order = owner.order;
                  aligned = owner.aligned;
                  end = owner.end;
                  home = owner.home;
                  cut_has = owner.cut_has;
                  loose = loose-stays boot memory entry owner.home fits owner.loose;
                  inside = owner.inside;
                  owned = owned-keep cpu block was is;
                })
            | inr got ↦
                (let picked = got-picked block got.1 in
                let place = picked-place (free_page boot memory) picked.0 block picked.1 in
                let home = picked-home boot memory picked.0 block settled.made picked.1 in
                record {
                  order = place.order;
                  aligned = place.aligned;
                  end = place.end;
                  home = home.0;
                  cut_has = home.1.cut_has;
                  loose = loose-stays boot memory entry home.0 fits home.1.loose;
                  inside = home.1.inside;
                  owned =
                      λ page inside.
                      is_owned-push memory entry page ∙ ap (owned_after page (is_owned memory page)) got.1
                      ∙ ap (λ (b : Bool). cond b true (is_owned memory page)) inside;
                })
          ]

-- one more entry that fits, where a processor frees a block that it owns
pub settled-push : (boot : Boot) (memory : List Entry) (entry : Entry) → Settled boot memory → Fits boot memory entry.cpu.0 entry.event → CallsFit boot memory entry.event
    → ((block : Block) → entry.event ≡ event.Freed block → is_owner memory entry.cpu.0 block ≡ true) → Settled boot (memory ++ entry ∷ [])
settled-push boot memory entry settled fits steps frees = record {
  made = settled.made;
  stands = memory-push boot memory entry (boot-stands boot settled.made) settled.stands fits steps;
  states = states-push boot memory entry settled.made settled.states fits;
  owners = owners-keep boot memory settled entry fits frees;
  apart = apart-keep boot memory settled entry fits;
  flights = flights-keep boot memory settled entry fits;
  absent = λ page. is_absent-push memory entry page ∙ ap (λ b. absent_after page b entry.event) (settled.absent page) ∙ absent-step boot memory entry.cpu.0 page entry.event fits;
}
