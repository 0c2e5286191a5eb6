use Rattle.std.proofs.Common.{◌≡◌, ℕ, ◌+◌, ◌-◌, ◌<◌, ◌≤◌, Bool, true, false, ◌&&◌, Option, None, Some, List, [], ◌∷◌, refl, sym, ◌∙◌, ap, inl, inr, arith, cond}
use Rattle.std.specs.Prelude.{◌⊎◌}
use Rattle.std.proofs.lemmas.Bool.{cases_Bool}
use Rattle.guest_base.specs.Ranges.{in_range}
use Rattle.guest_base.specs.Levels.{level_pages}
use Rattle.guest_base.proofs.RangeLemmas.{in_range-intro, in_range-elim}
use Rattle.guest_base.proofs.SearchLemmas.{first_such-Some, each_such-true}
use Rattle.guest_base.specs.declared.memory.Level.{Level}
use Rattle.guest_base.specs.declared.memory.PageState.{PageState}
use Rattle.guest_base.specs.declared.memory.PageState.TheVariants.{Pending, Accepted, Shared}
use Rattle.guest_base.specs.declared.memory.HostRun.{HostRun}
use Rattle.event_core.specs.declared.module_call.ModuleCall.{ModuleCall}
use Rattle.event_core.specs.Calls.{States, is_done, covers, after_call, state_after, state_before, SoundCalls}
use Rattle.event_core.specs.Acceptance.{fits, levels_below, greatest_fitting, place_of_next, goes_on_at, tried_at, IsAcceptCall, AcceptanceSteps}
use Rattle.event_core.specs.MemoryRows.{is_pending}

pub pending-is : (s : Option PageState) → is_pending s ≡ true → s ≡ Some Pending
pending-is None h = cc
pending-is (Some Pending) h = refl
pending-is (Some Accepted) h = cc
pending-is (Some Shared) h = cc

-- the state that is left of a page where a test fails is none
pub pending-if : (b : Bool) (s : Option PageState) → is_pending (cond b s None) ≡ (b && is_pending s)
pending-if true s = refl
pending-if false s = refl

-- a test behind another one
pub second_of : (b c : Bool) → elim b as (λ _. Bool) [ true ↦ c | false ↦ false ] ≡ true → c ≡ true
second_of true c h = h
second_of false c h = cc

-- a level that fits has all its pages in the set
pub fits-set : (set : ℕ → Bool) (place : ℕ) (level : Level) → fits set place level ≡ true → (page : ℕ) → place ≤ page → page < place + level_pages level → set page ≡ true
unfolding fits
fits-set set place level h page low high = (each_such-true set place (level_pages level) (second_of _ _ h)).passes page low high

fits_or : (b : Bool) (l level : Level) (others : Option Level) → elim b as (λ _. Option Level) [ true ↦ Some l | false ↦ others ] ≡ Some level → ((b ≡ true) × (l ≡ level)) ⊎ (others ≡ Some level)
fits_or true l level others h = inl (refl, cc)
fits_or false l level others h = inr h

-- what is found to fit fits
pub greatest_fitting-fits : (set : ℕ → Bool) (place : ℕ) (levels : List Level) (level : Level) → greatest_fitting set place levels ≡ Some level → fits set place level ≡ true
greatest_fitting-fits set place [] level h = cc
greatest_fitting-fits set place (l ∷ levels) level h =
    elim (fits_or (fits set place l) l level (greatest_fitting set place levels) h) [
      | inl here ↦ sym (ap (fits set place) here.1) ∙ here.0
      | inr later ↦ greatest_fitting-fits set place levels level later
    ]

-- the next place isn't below the one from which it is looked for
pub place_of_next-from : (set : ℕ → Bool) (end from : ℕ) (tried : Option Level) (at : ℕ) → place_of_next set end from tried ≡ Some at → from ≤ at
place_of_next-from set end from None at h = (first_such-Some set from (end - from) at h).low
place_of_next-from set end from (Some l) at h = let e : from ≡ at = cc in omega arith

-- the pages of the steps' first call are in the set
pub steps-covers : (set : ℕ → Bool) (place : ℕ) (tried : Option Level) (call : ModuleCall) → greatest_fitting set place (levels_below tried) ≡ Some call.level → call.first ≡ place → IsAcceptCall call → (page : ℕ) → covers call page ≡ true → (place ≤ page) × (set page ≡ true)
steps-covers set place tried call found at is page covered =
    let within = in_range-elim call.first call.count page covered in
    let size = is.count in
    let low : place ≤ page = omega (arith, within.0, at) in
    let high : page < place + level_pages call.level = omega (arith, within.1, at, size) in
    (low, fits-set set place call.level (greatest_fitting-fits set place (levels_below tried) call.level found) page low high)

-- a choice whose two conditions don't hold together
pub not_both : {A : Type 0} (done covered : Bool) (x y : A) → (done ≡ true → covered ≡ false) → cond (done && covered) x y ≡ y
not_both false covered x y h = refl
not_both true false x y h = refl
not_both true true x y h = let no : true ≡ false = h refl in cc

goes_on-done : (done : Bool) (first pages page : ℕ) → done ≡ true → cond done (first + pages) first ≤ page → first + pages ≤ page
goes_on-done true first pages page h above = above
goes_on-done false first pages page h above = cc

goes_on-low : (done : Bool) (first pages page : ℕ) → cond done (first + pages) first ≤ page → first ≤ page
goes_on-low true first pages page above = omega arith
goes_on-low false first pages page above = above

-- a call changes no page from where the next call goes on
goes_on-unchanged : (call : ModuleCall) (states : States) (page : ℕ) → call.count ≡ level_pages call.level → goes_on_at call ≤ page → after_call states call page ≡ states page
goes_on-unchanged call states page size above =
    not_both (is_done call) (covers call page) _ _ (λ done. elim (cases_Bool (covers call page)) [
      | inl covered ↦
          (let within = in_range-elim call.first call.count page covered in
          let behind = goes_on-done (is_done call) call.first (level_pages call.level) page done above in
          absurd (omega (arith, within.1, size, behind)))
      | inr uncovered ↦ uncovered
    ])

goes_on-from : (call : ModuleCall) (page : ℕ) → goes_on_at call ≤ page → call.first ≤ page
goes_on-from call page above = goes_on-low (is_done call) call.first (level_pages call.level) page above

-- calls of acceptance steps find each page pending, where the pages of the set from a place on are pending
pub steps-sound : (hosts : List HostRun) (set : ℕ → Bool) (end from : ℕ) (tried : Option Level) (calls : List ModuleCall) (states : States) → ((page : ℕ) → from ≤ page → set page ≡ true → states page ≡ Some Pending) → AcceptanceSteps hosts set end from tried calls → SoundCalls states calls
steps-sound hosts set end from tried [] states pending steps = tt
steps-sound hosts set end from tried (call ∷ calls) states pending steps =
    let low = place_of_next-from set end from tried call.first steps.0 in (
      (λ page covered.
          let found = steps-covers set call.first tried call steps.1 refl steps.2 page covered in
          pending page (omega (arith, low, found.0)) found.1 ∙ ap (λ kind. Some (state_before kind)) (sym steps.2.kind)),
      steps-sound hosts set end (goes_on_at call) (tried_at call) calls (after_call states call)
          (λ page above in_set. goes_on-unchanged call states page steps.2.count above ∙ pending page (omega (arith, low, goes_on-from call page above)) in_set)
          steps.4,
    )

-- calls of acceptance steps change no page outside the set
pub steps-outside : (hosts : List HostRun) (set : ℕ → Bool) (end from : ℕ) (tried : Option Level) (calls : List ModuleCall) (states : States) (page : ℕ) → set page ≡ false → AcceptanceSteps hosts set end from tried calls → state_after states calls page ≡ states page
steps-outside hosts set end from tried [] states page out steps = refl
steps-outside hosts set end from tried (call ∷ calls) states page out steps =
    steps-outside hosts set end (goes_on_at call) (tried_at call) calls (after_call states call) page out steps.4
    ∙ not_both (is_done call) (covers call page) _ _ (λ _. elim (cases_Bool (covers call page)) [
      | inl covered ↦
          (let no : true ≡ false = sym (steps-covers set call.first tried call steps.1 refl steps.2 page covered).1 ∙ out in cc)
      | inr uncovered ↦ uncovered
    ])
