-- What the calls of a conversion make of a span.
use Rattle.std.proofs.Common.{◌≡◌, ◌≢◌, ◌⊎◌, ℕ, ◌+◌, Bool, true, false, ◌&&◌, Option, None, Some, List, [], ◌∷◌, ◌++◌, refl, sym, ◌∙◌, ap, subst, inl, inr, arith, cond, append_assoc}
use Rattle.std.specs.List.{AllByRecursion}
use Rattle.std.proofs.Math.Path.{fun_ext}
use Rattle.std.proofs.lemmas.Bool.{cases_Bool}
use Rattle.guest_base.specs.Ranges.{in_range}
use Rattle.guest_base.specs.Levels.{level_pages}
use Rattle.guest_base.proofs.RangeLemmas.{in_range-intro, in_range-elim}
use Rattle.guest_base.specs.declared.memory.HostRun.{HostRun}
use Rattle.guest_base.specs.declared.memory.Level.{Level}
use Rattle.guest_base.specs.declared.memory.Level.TheVariants.{Small, Large, Huge}
use Rattle.guest_base.specs.declared.memory.Page.{Page}
use Rattle.guest_base.specs.declared.memory.PageState.{PageState}
use Rattle.guest_base.specs.declared.memory.PageState.TheVariants.{Pending, Accepted, Shared}
use Rattle.event_core.specs.declared.event.ConvertEnd.{ConvertEnd}
use Rattle.event_core.specs.declared.event.ConvertEnd.TheVariants.{Converted, Refused, Half}
use Rattle.event_core.specs.declared.module_call.CallKind.{CallKind}
use Rattle.event_core.specs.declared.module_call.CallKind.TheVariants.{Accept, Unshare}
use Rattle.event_core.specs.declared.module_call.ModuleCall.{ModuleCall}
use Rattle.event_core.specs.declared.module_call.PortAnswer.{PortAnswer}
use Rattle.event_core.specs.declared.module_call.PortAnswer.TheVariants.{Ok as AnsweredOk, SizeMismatch, Failed}
use Rattle.event_core.specs.Acceptance.{AcceptanceSteps, goes_on_at, tried_at, stop_by, stop_of}
use Rattle.event_core.specs.Calls.{States, SoundCalls, after_call, covers, is_done, state_after, state_before, state_made}
use Rattle.event_core.specs.ConvertRows.{accept_end, private_end}
use Rattle.event_core.specs.MemoryRows.{is_pending}
use Rattle.event_core.proofs.StepsLemmas.{not_both, pending-is, steps-sound}
use Rattle.block_laws.proofs.SizeFacts.{steps-accept, steps-none-left}
use Rattle.page_module.specs.Modules.{span_call}
use Rattle.page_module.specs.Spans.{Becomes, SpanIs, Taken}
use Rattle.page_module.specs.States.{state_in}
use Rattle.accept_sizes.specs.Accepts.{Accepts, pending_of, span_end}
use Rattle.page_convert.specs.Asking.{AddsCalls}
use Rattle.page_convert.specs.Conversions.{AcceptsAfter, AllOrNoneShared, ConvertsSpan, ConvertsSpanBy, LeavesOnce, LeavesPrivate, NoneShared, NoneUnaccepted, is_shared_span, pending_after}

-- ---- acceptance

one_accept : (b : Bool) (kind : CallKind) (s : Option PageState) → kind ≡ Accept → (cond b (Some (state_made kind)) s ≡ Some Accepted) ⊎ (cond b (Some (state_made kind)) s ≡ s)
one_accept true kind s is = inl (ap (λ k. Some (state_made k)) is)
one_accept false kind s is = inr refl

-- accept calls leave a page's state, or make it Accepted
accepted-or-same : (states : States) (calls : List ModuleCall) (page : ℕ) → AllByRecursion (λ (call : ModuleCall). call.kind ≡ Accept) calls → (state_after states calls page ≡ Some Accepted) ⊎ (state_after states calls page ≡ states page)
accepted-or-same states [] page all = inr refl
accepted-or-same states (call ∷ calls) page all =
    elim (accepted-or-same (after_call states call) calls page all.1) [
      | inl accepted ↦ inl accepted
      | inr same ↦
          elim (one_accept (is_done call && covers call page) call.kind (states page) all.0) [
            | inl accepted ↦ inl (same ∙ accepted)
            | inr still ↦ inr (same ∙ still)
          ]
    ]

none_pending : (s t : Option PageState) → is_pending s ≡ false → (t ≡ Some Accepted) ⊎ (t ≡ s) → is_pending t ≡ false
none_pending s t not (inl accepted) = ap is_pending accepted
none_pending s t not (inr same) = ap is_pending same ∙ not

accepted_of : (s t : Option PageState) → s ≢ Some Shared → (t ≡ Some Accepted) ⊎ (t ≡ s) → is_pending t ≡ false → t ≢ None → t ≡ Some Accepted
accepted_of s t private (inl accepted) not some = accepted
accepted_of s None private (inr same) not some = absurd (some refl)
accepted_of s (Some Pending) private (inr same) not some = cc
accepted_of s (Some Accepted) private (inr same) not some = refl
accepted_of s (Some Shared) private (inr same) not some = absurd (private (sym same))

not_shared : (s t : Option PageState) → s ≢ Some Shared → (t ≡ Some Accepted) ⊎ (t ≡ s) → t ≢ Some Shared
not_shared s t private (inl accepted) = λ shared. (let no : Some Accepted ≡ Some Shared = sym accepted ∙ shared in cc)
not_shared s t private (inr same) = λ shared. private (sym same ∙ shared)

-- where a page of a span lies after an acceptance, it lay before
in-old : (hosts : List HostRun) (old new : Taken) (calls : List ModuleCall) (page : ℕ) → Accepts hosts old new calls → in_range new.ticket.pages.first new.ticket.pages.count page ≡ true → in_range old.ticket.pages.first old.ticket.pages.count page ≡ true
in-old hosts old new calls page a inside = sym (ap (λ t. in_range t.pages.first t.pages.count page) a.ticket) ∙ inside

-- each state after an acceptance
after-accepts : (hosts : List HostRun) (old new : Taken) (calls : List ModuleCall) (page : ℕ) → Accepts hosts old new calls → (state_in new.runs page ≡ Some Accepted) ⊎ (state_in new.runs page ≡ state_in old.runs page)
after-accepts hosts old new calls page a =
    elim (accepted-or-same (state_in old.runs) calls page (steps-accept hosts _ _ _ None calls a.steps)) [
      | inl accepted ↦ inl (a.states page ∙ accepted)
      | inr same ↦ inr (a.states page ∙ same)
    ]

-- where an acceptance didn't stop, none of the span's pages is pending any more
pub whole-left : (hosts : List HostRun) (old new : Taken) (calls : List ModuleCall) → Accepts hosts old new calls → stop_of calls ≡ None → NoneShared old → NoneUnaccepted new
whole-left hosts old new calls a whole private page inside some =
    let at = in-old hosts old new calls page a inside in
    let within = in_range-elim old.ticket.pages.first old.ticket.pages.count page at in
    let either = after-accepts hosts old new calls page a in
    let none : is_pending (state_in new.runs page) ≡ false =
    elim (cases_Bool (pending_of old page)) [
      | inl t ↦ ap is_pending (a.states page) ∙ steps-none-left hosts (pending_of old) (span_end old) old.ticket.pages.first calls (state_in old.runs) a.steps whole page within.0 within.1 t
      | inr f ↦ none_pending (state_in old.runs page) (state_in new.runs page) f either
    ] in
    accepted_of (state_in old.runs page) (state_in new.runs page) (private page at) either none some

-- what stops an acceptance
stopped-by : (call : ModuleCall) (level : Level) (answer : PortAnswer) (page : Page) → stop_by call level answer ≡ Some page → (level ≡ Small) × (answer ≡ Failed) × (call.first ≡ page.0)
stopped-by call Small Failed page stops = (refl, refl, cc)
stopped-by call Small AnsweredOk page stops = cc
stopped-by call Small SizeMismatch page stops = cc
stopped-by call Large answer page stops = cc
stopped-by call Huge answer page stops = cc

-- the page at which an acceptance stopped is pending
stop-pending : (hosts : List HostRun) (set : ℕ → Bool) (end from : ℕ) (tried : Option Level) (calls : List ModuleCall) (states : States) (page : Page) → AcceptanceSteps hosts set end from tried calls → SoundCalls states calls → stop_of calls ≡ Some page → state_after states calls page.0 ≡ Some Pending
stop-pending hosts set end from tried [] states page steps sound stops = cc
stop-pending hosts set end from tried (call ∷ []) states page steps sound stops =
    let by = stopped-by call call.level call.answer page stops in
    let size = steps.2.count in
    let one : level_pages call.level ≡ 1 = ap level_pages by.0 in
    let first = by.2 in
    let covered : covers call page.0 ≡ true = in_range-intro call.first call.count page.0 (omega arith) (omega (arith, size, one)) in
    let undone : is_done call ≡ false = ap (λ (answer : PortAnswer). elim answer [ AnsweredOk ↦ true | SizeMismatch ↦ false | Failed ↦ false ]) by.1 in
    not_both (is_done call) (covers call page.0) _ _ (λ done. (let no : true ≡ false = sym done ∙ undone in cc))
    ∙ sound.0 page.0 covered
    ∙ ap (λ kind. Some (state_before kind)) steps.2.kind
stop-pending hosts set end from tried (call ∷ next ∷ calls) states page steps sound stops =
    stop-pending hosts set end (goes_on_at call) (tried_at call) (next ∷ calls) (after_call states call) page steps.4 sound.1 stops

-- where an acceptance stopped at a page, this is pending, and none is Shared
pub stopped-left : (hosts : List HostRun) (old new : Taken) (calls : List ModuleCall) (page : Page) → Accepts hosts old new calls → stop_of calls ≡ Some page → NoneShared old → NoneShared new × (state_in new.runs page.0 ≡ Some Pending)
stopped-left hosts old new calls page a stops private =
    let sound = steps-sound hosts (pending_of old) (span_end old) old.ticket.pages.first None calls (state_in old.runs) (λ page low set. pending-is (state_in old.runs page) set) a.steps in (
      (λ page inside. not_shared (state_in old.runs page) (state_in new.runs page) (private page (in-old hosts old new calls page a inside)) (after-accepts hosts old new calls page a)),
      a.states page.0 ∙ stop-pending hosts (pending_of old) (span_end old) old.ticket.pages.first None calls (state_in old.runs) page a.steps sound stops,
    )

-- ---- one call, and then an acceptance

-- an acceptance behind a call that took the span back
pub back-converts : (hosts : List HostRun) (old mid new : Taken) (calls : List ModuleCall) (end : ConvertEnd) → is_shared_span old ≡ true → Becomes Pending old mid old.ticket.pages.first old.ticket.pages.count → Accepts hosts mid new calls → end ≡ accept_end (stop_of calls) → ConvertsSpan hosts Accepted old new (span_call Unshare old AnsweredOk ∷ calls) end
back-converts hosts old mid new calls end shared back a ends =
    let call = span_call Unshare old AnsweredOk in
    let By : Bool → Type 0 = λ s. ConvertsSpanBy hosts old s Accepted (call ∷ calls) in
    let states : state_in mid.runs ≡ after_call (state_in old.runs) call = fun_ext back.states in
    let Steps : Taken → (ℕ → Bool) → Type 0 = λ span set. AcceptanceSteps hosts set (span.ticket.pages.first + span.ticket.pages.count) span.ticket.pages.first None calls in
    let At : _ → Type 0 = λ t. AcceptanceSteps hosts (pending_after old (call ∷ [])) (t.pages.first + t.pages.count) t.pages.first None calls in
    let pending : States → ℕ → Bool = λ s page. is_pending (s page) in
    let sets : pending_of mid ≡ pending_after old (call ∷ []) = ap pending states in
    let steps : AcceptsAfter hosts old (call ∷ []) calls = subst At back.ticket (subst (Steps mid) sets a.steps) in
    record {
      made = subst By (sym shared) (record { whole = refl; answered = inr refl }, steps);
      ends = ends ∙ ap (λ s. private_end s (call ∷ calls)) (sym shared);
      ticket = a.ticket ∙ back.ticket;
      states = λ page. a.states page ∙ ap (λ (s : States). state_after s calls page) states;
    }

-- more calls behind a first one
pub adds-behind : {K : Type 0} (calls_in : K → List ModuleCall) (room_in : K → ℕ) (old mid new : K) (call : ModuleCall) (calls : List ModuleCall) → AddsCalls calls_in room_in old mid (call ∷ []) → AddsCalls calls_in room_in mid new calls → AddsCalls calls_in room_in old new (call ∷ calls)
adds-behind calls_in room_in old mid new call calls first second =
    let one = first.room_used in
    let more = second.room_used in
    record {
      added = second.added ∙ ap (λ l. l ++ calls) first.added ∙ append_assoc (calls_in old) (call ∷ []) calls;
      room_used = omega (arith, one, more);
    }

-- ---- what may be converted next

none-shared : (span : Taken) → SpanIs Accepted span → NoneShared span
none-shared span accepted page inside = λ shared. (let no : Some Accepted ≡ Some Shared = sym (accepted page inside) ∙ shared in cc)

-- what was refused is as it was
pub once-refused : (to : PageState) (old new : Taken) (end : ConvertEnd) → LeavesOnce to old new end → end ≡ Refused → new ≡ old
once-refused to old new Converted left is = cc
once-refused to old new Refused left is = left
once-refused to old new (Half page) left is = absurd left

-- pages that were to be shared can be made private
pub once-shared : (old new : Taken) (end : ConvertEnd) → SpanIs Accepted old → LeavesOnce Shared old new end → AllOrNoneShared new
once-shared old new Converted accepted left = inl left
once-shared old new Refused accepted left = inr (subst NoneShared (sym left) (none-shared old accepted))
once-shared old new (Half page) accepted left = absurd left

-- and so can pages that were to be made private
pub private-shared : (old new : Taken) (end : ConvertEnd) → AllOrNoneShared old → LeavesPrivate old new end → AllOrNoneShared new
private-shared old new Converted shared left = inr (λ page inside is. (let some : state_in new.runs page ≢ None = λ none. (let no : Some Shared ≡ None = sym is ∙ none in cc) in let no : Some Accepted ≡ Some Shared = sym (left page inside some) ∙ is in cc))
private-shared old new Refused shared left = subst AllOrNoneShared (sym left) shared
private-shared old new (Half page) shared left = inr left.0
