-- The state of a page over calls of which none makes a page pending.
use Rattle.std.proofs.Common.{◌≡◌, ◌≢◌, ℕ, Bool, true, false, ◌&&◌, Option, Some, List, [], ◌∷◌, ◌++◌, refl, sym, ◌∙◌, ap, subst, inl, inr, cond}
use Rattle.std.specs.Prelude.{◌⊎◌, fold}
use Rattle.std.specs.List.{AllByRecursion}
use Rattle.std.proofs.lemmas.Bool.{cases_Bool}
use Rattle.guest_base.specs.declared.memory.PageState.{PageState}
use Rattle.guest_base.specs.declared.memory.PageState.TheVariants.{Pending, Accepted, Shared}
use Rattle.event_core.specs.declared.boot.Boot.{Boot}
use Rattle.event_core.specs.declared.module_call.CallKind.{CallKind}
use Rattle.event_core.specs.declared.module_call.CallKind.TheVariants.{Accept}
use Rattle.event_core.specs.declared.module_call.ModuleCall.{ModuleCall}
use Rattle.event_core.specs.Calls.{States, is_done, covers, after_call, state_after, state_made}
use Rattle.event_core.specs.MemoryRows.{page_state, is_pending}
use Rattle.event_core.specs.Runs.{state_in}
use Rattle.event_core.specs.Units.{mark_step, mark_made, is_marked}
use Rattle.event_core.proofs.BootFacts.{TakesNone}
use Rattle.event_core.proofs.SoundLemmas.{state_after-append}

-- ---- one call

made-not : (made : PageState) → made ≢ Pending → is_pending (Some made) ≡ false
made-not Pending not = absurd (not refl)
made-not Accepted not = refl
made-not Shared not = refl

one-pending : (b : Bool) (made : PageState) (s : Option PageState) → made ≢ Pending → is_pending (cond b (Some made) s) ≡ true → (b ≡ false) × (is_pending s ≡ true)
one-pending true made s not h = let no : true ≡ false = sym h ∙ made-not made not in cc
one-pending false made s not h = (refl, h)

-- ---- pages that are pending

-- what is pending after calls was pending before them
pub pending-first : (states : States) (calls : List ModuleCall) (page : ℕ) → AllByRecursion TakesNone calls → is_pending (state_after states calls page) ≡ true → is_pending (states page) ≡ true
pending-first states [] page all h = h
pending-first states (call ∷ calls) page all h =
    (one-pending (is_done call && covers call page) (state_made call.kind) (states page) all.0 (pending-first (after_call states call) calls page all.1 h)).1

pub pending-before : (boot : Boot) (before calls : List ModuleCall) (page : ℕ) → AllByRecursion TakesNone calls → is_pending (page_state boot (before ++ calls) page) ≡ true → is_pending (page_state boot before page) ≡ true
pending-before boot before calls page all h =
    pending-first (page_state boot before) calls page all (sym (ap (λ (states : States). is_pending (states page)) (state_after-append (state_in boot.ram) before calls)) ∙ h)

pub not-pending-later : (boot : Boot) (before calls : List ModuleCall) (page : ℕ) → AllByRecursion TakesNone calls → is_pending (page_state boot before page) ≡ false → is_pending (page_state boot (before ++ calls) page) ≡ false
not-pending-later boot before calls page all h =
    elim (cases_Bool (is_pending (page_state boot (before ++ calls) page))) [
      | inl t ↦ (let no : true ≡ false = sym (pending-before boot before calls page all t) ∙ h in cc)
      | inr f ↦ f
    ]

-- a page that is pending after calls is marked after them, if it was so at first
pub marked-while : (states : States) (calls : List ModuleCall) (page : ℕ) → AllByRecursion TakesNone calls → is_pending (state_after states calls page) ≡ true → is_marked true calls page ≡ true
marked-while states [] page all h = refl
marked-while states (call ∷ calls) page all h =
    let one = one-pending (is_done call && covers call page) (state_made call.kind) (states page) all.0 (pending-first (after_call states call) calls page all.1 h) in
    ap (λ (b : Bool). fold (mark_step page) (cond b (mark_made call.kind true) true) calls) one.0 ∙ marked-while (after_call states call) calls page all.1 h

-- ---- pages that are private

-- a page of RAM that isn't shared
abbrev pub IsPrivate : Option PageState → Type 0
IsPrivate s = (s ≡ Some Pending) ⊎ (s ≡ Some Accepted)

-- a call that accepts, or isn't about a page
abbrev pub KeepsPrivate : ℕ → ModuleCall → Type 0
KeepsPrivate page call = (call.kind ≡ Accept) ⊎ (covers call page ≡ false)

one-accept : (b : Bool) (kind : CallKind) (s : Option PageState) → kind ≡ Accept → (cond b (Some (state_made kind)) s ≡ Some Accepted) ⊎ (cond b (Some (state_made kind)) s ≡ s)
one-accept true kind s is = inl (ap (λ k. Some (state_made k)) is)
one-accept false kind s is = inr refl

one-apart : (done covered : Bool) (x s : Option PageState) → covered ≡ false → cond (done && covered) x s ≡ s
one-apart true false x s is = refl
one-apart true true x s is = cc
one-apart false covered x s is = refl

pub private-while : (states : States) (calls : List ModuleCall) (page : ℕ) → AllByRecursion (KeepsPrivate page) calls → IsPrivate (states page) → IsPrivate (state_after states calls page)
private-while states [] page all is = is
private-while states (call ∷ calls) page all is = private-while (after_call states call) calls page all.1 (one all.0) where
  one : KeepsPrivate page call → IsPrivate (after_call states call page)
  one (inl accepts) =
      elim (one-accept (is_done call && covers call page) call.kind (states page) accepts) [
        | inl accepted ↦ inr accepted
        | inr same ↦ subst IsPrivate (sym same) is
      ]
  one (inr apart) = subst IsPrivate (sym (one-apart (is_done call) (covers call page) (Some (state_made call.kind)) (states page) apart)) is

pub accepted-while : (states : States) (calls : List ModuleCall) (page : ℕ) → AllByRecursion (KeepsPrivate page) calls → states page ≡ Some Accepted → state_after states calls page ≡ Some Accepted
accepted-while states [] page all is = is
accepted-while states (call ∷ calls) page all is = accepted-while (after_call states call) calls page all.1 (one all.0) where
  one : KeepsPrivate page call → after_call states call page ≡ Some Accepted
  one (inl accepts) =
      elim (one-accept (is_done call && covers call page) call.kind (states page) accepts) [
        | inl accepted ↦ accepted
        | inr same ↦ same ∙ is
      ]
  one (inr apart) = one-apart (is_done call) (covers call page) (Some (state_made call.kind)) (states page) apart ∙ is

-- what is private and not pending is accepted
pub private-accepted : (s : Option PageState) → IsPrivate s → is_pending s ≡ false → s ≡ Some Accepted
private-accepted s (inl pending) not = let no : true ≡ false = sym (ap is_pending pending) ∙ not in cc
private-accepted s (inr accepted) not = accepted
