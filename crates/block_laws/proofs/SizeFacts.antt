-- Acceptance by sizes that doesn't stop leaves no page of its set pending.
use Rattle.std.proofs.Common.{◌≡◌, ◌≢◌, ℕ, ◌+◌, ◌-◌, ◌<◌, ◌≤◌, Bool, true, false, ◌&&◌, Option, None, Some, List, [], ◌∷◌, refl, sym, ◌∙◌, ap, subst, inl, inr, arith, cond}
use Rattle.std.specs.Prelude.{◌⊎◌}
use Rattle.std.specs.List.{AllByRecursion}
use Rattle.std.proofs.lemmas.Bool.{cases_Bool, cases_lt}
use Rattle.guest_base.specs.Levels.{level_at, level_pages}
use Rattle.guest_base.proofs.RangeLemmas.{in_range-intro}
use Rattle.guest_base.proofs.SearchLemmas.{first_such-Some, first_such-None}
use Rattle.guest_base.specs.declared.memory.HostRun.{HostRun}
use Rattle.guest_base.specs.declared.memory.Level.{Level}
use Rattle.guest_base.specs.declared.memory.Level.TheVariants.{Small, Large, Huge}
use Rattle.guest_base.specs.declared.memory.PageState.TheVariants.{Pending}
use Rattle.event_core.specs.declared.module_call.CallKind.{CallKind}
use Rattle.event_core.specs.declared.module_call.CallKind.TheVariants.{Accept}
use Rattle.event_core.specs.declared.module_call.ModuleCall.{ModuleCall}
use Rattle.event_core.specs.declared.module_call.PortAnswer.{PortAnswer}
use Rattle.event_core.specs.declared.module_call.PortAnswer.TheVariants.{Ok as AnsweredOk, SizeMismatch, Failed}
use Rattle.event_core.specs.Acceptance.{AcceptanceSteps, IsAcceptCall, MayEnd, place_of_next, goes_on_at, tried_at, stop_by, stop_of}
use Rattle.event_core.specs.Calls.{States, is_done, covers, after_call, state_after, state_made, HonestHost, HonestAnswer, is_smaller}
use Rattle.event_core.specs.MemoryRows.{is_pending}
use Rattle.event_core.proofs.BootFacts.{TakesNone}
use Rattle.block_laws.proofs.PageFacts.{pending-first}

accept-takes : (kind : CallKind) → kind ≡ Accept → state_made kind ≢ Pending
accept-takes Accept is = λ no. cc
accept-takes _ is = cc

pub steps-take-none : (hosts : List HostRun) (set : ℕ → Bool) (end from : ℕ) (tried : Option Level) (calls : List ModuleCall) → AcceptanceSteps hosts set end from tried calls → AllByRecursion TakesNone calls
steps-take-none hosts set end from tried [] steps = tt
steps-take-none hosts set end from tried (call ∷ calls) steps = (accept-takes call.kind steps.2.kind, steps-take-none hosts set end (goes_on_at call) (tried_at call) calls steps.4)

pub steps-accept : (hosts : List HostRun) (set : ℕ → Bool) (end from : ℕ) (tried : Option Level) (calls : List ModuleCall) → AcceptanceSteps hosts set end from tried calls → AllByRecursion (λ (call : ModuleCall). call.kind ≡ Accept) calls
steps-accept hosts set end from tried [] steps = tt
steps-accept hosts set end from tried (call ∷ calls) steps = (steps.2.kind, steps-accept hosts set end (goes_on_at call) (tried_at call) calls steps.4)

-- ---- a call

-- a Small accept call is done, or stops
not-smaller : (level : Level) → is_smaller level Small ≡ false
not-smaller Small = refl
not-smaller Large = refl
not-smaller Huge = refl

abbrev done-by : PortAnswer → Bool
done-by answer = elim answer [ AnsweredOk ↦ true | SizeMismatch ↦ false | Failed ↦ false ]

honest-small : (hosts : List HostRun) (call : ModuleCall) → call.kind ≡ Accept → call.level ≡ Small → HonestHost hosts call → (call.answer ≡ Failed) ⊎ (call.answer ≡ AnsweredOk)
honest-small hosts call kind small honest =
    elim (accepts honest) [
      | inl failed ↦ inl failed
      | inr answered ↦ inr (answered ∙ ap (λ level. cond (is_smaller (level_at hosts call.first) level) SizeMismatch AnsweredOk) small ∙ ap (λ (b : Bool). cond b SizeMismatch AnsweredOk) (not-smaller (level_at hosts call.first)))
    ]
  where
    accepts : HonestHost hosts call → HonestAnswer hosts call Accept
    accepts h = subst (HonestAnswer hosts call) kind h

small-stops : (hosts : List HostRun) (call : ModuleCall) → call.kind ≡ Accept → HonestHost hosts call → call.level ≡ Small → is_done call ≡ false → stop_by call call.level call.answer ≡ None → ⊥
small-stops hosts call kind honest small out none =
    elim (honest-small hosts call kind small honest) [
      | inl failed ↦ (let stops : stop_by call call.level call.answer ≡ Some (record { 0 = call.first }) = ap (λ level. stop_by call level call.answer) small ∙ ap (stop_by call Small) failed in cc)
      | inr answered ↦ (let done : is_done call ≡ true = ap (λ answer. done-by answer) answered in cc)
    ]

-- pages behind the place from which the next one is looked for, up to that, aren't in the set
next-skips : (set : ℕ → Bool) (end from : ℕ) (tried : Option Level) (at page : ℕ) → place_of_next set end from tried ≡ Some at → from ≤ page → page < at → set page ≡ false
next-skips set end from None at page is low high = (first_such-Some set from (end - from) at is).before page low high
next-skips set end from (Some level) at page is low high = let same : from ≡ at = cc in absurd (omega (arith, low, high, same))

accepts-page : (states : States) (call : ModuleCall) (page : ℕ) → call.kind ≡ Accept → is_done call ≡ true → covers call page ≡ true → is_pending (after_call states call page) ≡ false
accepts-page states call page kind done covered =
    ap (λ (b : Bool). is_pending (cond (b && covers call page) (Some (state_made call.kind)) (states page))) done
    ∙ ap (λ (b : Bool). is_pending (cond b (Some (state_made call.kind)) (states page))) covered
    ∙ ap (λ k. is_pending (Some (state_made k))) kind

goes-done : (call : ModuleCall) → is_done call ≡ true → goes_on_at call ≡ call.first + level_pages call.level
goes-done call done = ap (λ (b : Bool). cond b (call.first + level_pages call.level) call.first) done

goes-tried : (call : ModuleCall) → is_done call ≡ false → goes_on_at call ≡ call.first
goes-tried call done = ap (λ (b : Bool). cond b (call.first + level_pages call.level) call.first) done

-- the list that ends behind its last call leaves no page
end-none : (set : ℕ → Bool) (end : ℕ) (call : ModuleCall) (done : Bool) → is_done call ≡ done → (hosts : List HostRun) → call.kind ≡ Accept → HonestHost hosts call → stop_by call call.level call.answer ≡ None
    → MayEnd set end (goes_on_at call) (cond done None (Some call.level)) → (page : ℕ) → goes_on_at call ≤ page → page < end → set page ≡ false
end-none set end call true is hosts kind honest none may page low high = (first_such-None set (goes_on_at call) (end - goes_on_at call) may).fails page low (omega (arith, low, high))
end-none set end call false is hosts kind honest none may page low high = absurd (small-stops hosts call kind honest may is none)

-- ---- the steps

-- a page of the set that a call leaves behind is no longer pending
behind : (set : ℕ → Bool) (end from : ℕ) (tried : Option Level) (call : ModuleCall) (states : States) (page : ℕ) → place_of_next set end from tried ≡ Some call.first → IsAcceptCall call → from ≤ page → page < goes_on_at call → set page ≡ true → is_pending (after_call states call page) ≡ false
behind set end from tried call states page next is low high inside =
    elim (cases_lt page call.first) [
      | inl before ↦ (let no : true ≡ false = sym inside ∙ next-skips set end from tried call.first page next low before in cc)
      | inr at ↦
          elim (cases_Bool (is_done call)) [
            | inl done ↦
                (let goes = goes-done call done in
                let count = is.count in
                accepts-page states call page is.kind done (in_range-intro call.first call.count page at (omega (arith, high, goes, count))))
            | inr out ↦ (let goes = goes-tried call out in absurd (omega (arith, high, goes, at)))
          ]
    ]

-- no page of the set is pending behind steps that don't stop
pub steps-complete : (hosts : List HostRun) (set : ℕ → Bool) (end from : ℕ) (tried : Option Level) (call : ModuleCall) (calls : List ModuleCall) (states : States) → AcceptanceSteps hosts set end from tried (call ∷ calls) → stop_of (call ∷ calls) ≡ None → (page : ℕ) → from ≤ page → page < end → set page ≡ true → is_pending (state_after states (call ∷ calls) page) ≡ false
steps-complete hosts set end from tried call [] states steps none page low high inside =
    elim (cases_lt page (goes_on_at call)) [
      | inl before ↦ behind set end from tried call states page steps.0 steps.2 low before inside
      | inr at ↦ (let no : true ≡ false = sym inside ∙ end-none set end call (is_done call) refl hosts steps.2.kind steps.3 none steps.4 page at high in cc)
    ]
steps-complete hosts set end from tried call (next ∷ calls) states steps none page low high inside =
    elim (cases_lt page (goes_on_at call)) [
      | inl before ↦
          (let gone = behind set end from tried call states page steps.0 steps.2 low before inside in
          let take = steps-take-none hosts set end (goes_on_at call) (tried_at call) (next ∷ calls) steps.4 in
          elim (cases_Bool (is_pending (state_after (after_call states call) (next ∷ calls) page))) [
            | inl t ↦ (let no : true ≡ false = sym (pending-first (after_call states call) (next ∷ calls) page take t) ∙ gone in cc)
            | inr f ↦ f
          ])
      | inr at ↦ steps-complete hosts set end (goes_on_at call) (tried_at call) next calls (after_call states call) steps.4 none page at high inside
    ]

-- behind all steps from the first place on
pub steps-none-left : (hosts : List HostRun) (set : ℕ → Bool) (end from : ℕ) (calls : List ModuleCall) (states : States) → AcceptanceSteps hosts set end from None calls → stop_of calls ≡ None → (page : ℕ) → from ≤ page → page < end → set page ≡ true → is_pending (state_after states calls page) ≡ false
steps-none-left hosts set end from [] states steps none page low high inside =
    let no : true ≡ false = sym inside ∙ (first_such-None set from (end - from) steps).fails page low (omega (arith, low, high)) in cc
steps-none-left hosts set end from (call ∷ calls) states steps none page low high inside = steps-complete hosts set end from None call calls states steps none page low high inside
