-- A span's conversion is the conversion of the block whose pages it has.
use Rattle.std.proofs.Common.{◌≡◌, ℕ, ◌+◌, ◌^◌, ◌≤◌, Bool, true, false, ◌&&◌, Option, None, Some, List, [], ◌∷◌, ◌++◌, refl, sym, ◌∙◌, ap, subst, inl, inr, arith, cond, append-nil}
use Rattle.std.proofs.Math.Path.{fun_ext}
use Rattle.std.proofs.lemmas.Bool.{cases_Bool}
use Rattle.std.proofs.lemmas.Nat.{pow_pos}
use Rattle.guest_base.specs.Ranges.{in_range}
use Rattle.guest_base.proofs.RangeLemmas.{in_range-intro}
use Rattle.guest_base.specs.declared.memory.Block.{Block}
use Rattle.guest_base.specs.declared.memory.HostRun.{HostRun}
use Rattle.guest_base.specs.declared.memory.Pages.{Pages}
use Rattle.guest_base.specs.declared.memory.PageState.{PageState}
use Rattle.guest_base.specs.declared.memory.PageState.TheVariants.{Pending, Accepted, Shared}
use Rattle.event_core.specs.declared.boot.Boot.{Boot}
use Rattle.event_core.specs.declared.entry.Entry.{Entry}
use Rattle.event_core.specs.declared.event.ConvertEnd.{ConvertEnd}
use Rattle.event_core.specs.declared.module_call.CallKind.{CallKind}
use Rattle.event_core.specs.declared.module_call.CallKind.TheVariants.{Share, Unshare, Give}
use Rattle.event_core.specs.declared.module_call.ModuleCall.{ModuleCall}
use Rattle.event_core.specs.Absent.{in_block}
use Rattle.event_core.specs.Acceptance.{AcceptanceSteps}
use Rattle.event_core.specs.Calls.{HonestAnswer, HonestHost, States, after_call, calls_of, covers, is_done, state_after, state_made}
use Rattle.event_core.specs.ConvertRows.{AcceptsBlockPages, CallsOnce, Converts, ConvertsBy, IsBlockCall, TakesBlockBack, aim_of, convert_end, end_by, is_shared, is_shared_block, pending_in_block}
use Rattle.event_core.specs.MemoryRows.{is_pending, page_state}
use Rattle.event_core.proofs.SoundLemmas.{state_after-append}
use Rattle.event_core.proofs.StepsLemmas.{not_both, steps-outside}
use Rattle.page_module.specs.Spans.{Taken}
use Rattle.page_module.specs.States.{state_in}
use Rattle.page_convert.specs.Conversions.{AcceptsAfter, CallsOnceFor, ConvertsSpan, ConvertsSpanBy, IsCallFor, TakesSpanBack, is_shared_span, pending_after}
use Rattle.page_convert.specs.Blocks.{ConvertsBlock, HasBlock, is_shared_after}

-- ---- pages outside the block

-- a call for the span changes no page outside
call-outside : (kind : CallKind) (span : Taken) (call : ModuleCall) (states : States) (page : ℕ) → IsCallFor kind span call → in_range span.ticket.pages.first span.ticket.pages.count page ≡ false → after_call states call page ≡ states page
call-outside kind span call states page is out = not_both (is_done call) (covers call page) _ _ (λ done. ap (λ (c : ModuleCall). covers c page) is.whole ∙ out)

accepts-outside : (hosts : List HostRun) (span : Taken) (before calls : List ModuleCall) (states : States) (page : ℕ) → AcceptsAfter hosts span before calls → state_after (state_in span.runs) before page ≡ None → state_after states calls page ≡ states page
accepts-outside hosts span before calls states page steps none = steps-outside hosts (pending_after span before) _ _ None calls states page (ap is_pending none) steps

once-outside : (kind : CallKind) (span : Taken) (calls : List ModuleCall) (page : ℕ) → CallsOnceFor kind span calls → in_range span.ticket.pages.first span.ticket.pages.count page ≡ false → state_after (state_in span.runs) calls page ≡ state_in span.runs page
once-outside kind span [] page once out = absurd once
once-outside kind span (call ∷ []) page once out = call-outside kind span call (state_in span.runs) page once out
once-outside kind span (call ∷ next ∷ calls) page once out = absurd once

rest-outside : (hosts : List HostRun) (span : Taken) (call : ModuleCall) (calls : List ModuleCall) (page : ℕ) (done : Bool) → after_call (state_in span.runs) call page ≡ None → elim done as (λ _. Type 0) [ true ↦ AcceptsAfter hosts span (call ∷ []) calls | false ↦ calls ≡ [] ] → state_after (after_call (state_in span.runs) call) calls page ≡ None
rest-outside hosts span call calls page true none steps = accepts-outside hosts span (call ∷ []) calls (after_call (state_in span.runs) call) page steps none ∙ none
rest-outside hosts span call calls page false none is = ap (λ (cs : List ModuleCall). state_after (after_call (state_in span.runs) call) cs page) is ∙ none

back-outside : (hosts : List HostRun) (span : Taken) (calls : List ModuleCall) (page : ℕ) → TakesSpanBack hosts span calls → in_range span.ticket.pages.first span.ticket.pages.count page ≡ false → state_in span.runs page ≡ None → state_after (state_in span.runs) calls page ≡ None
back-outside hosts span [] page back out none = absurd back
back-outside hosts span (call ∷ calls) page back out none =
    rest-outside hosts span call calls page (is_done call) (call-outside Unshare span call (state_in span.runs) page back.0 out ∙ none) back.1

-- a page outside the span has no state after the calls either
pub converts-outside : (hosts : List HostRun) (span : Taken) (shared : Bool) (to : PageState) (calls : List ModuleCall) (page : ℕ) → ConvertsSpanBy hosts span shared to calls → in_range span.ticket.pages.first span.ticket.pages.count page ≡ false → state_in span.runs page ≡ None → state_after (state_in span.runs) calls page ≡ None
converts-outside hosts span shared Shared calls page made out none = once-outside Share span calls page made out ∙ none
converts-outside hosts span shared Pending calls page made out none = once-outside Give span calls page made out ∙ none
converts-outside hosts span true Accepted calls page made out none = back-outside hosts span calls page made out none
converts-outside hosts span false Accepted calls page made out none = accepts-outside hosts span [] calls (state_in span.runs) page made none ∙ none

-- ---- pages of the block

-- the state after calls depends on the state before them alone
state_after-at : (s t : States) (calls : List ModuleCall) (page : ℕ) → s page ≡ t page → state_after s calls page ≡ state_after t calls page
state_after-at s t [] page same = same
state_after-at s t (call ∷ calls) page same = state_after-at (after_call s call) (after_call t call) calls page (ap (λ p. cond (is_done call && covers call page) (Some (state_made call.kind)) p) same)

if_true : {A : Type 0} (b : Bool) (x y : A) → b ≡ true → cond b x y ≡ x
if_true true x y h = refl
if_true false x y h = cc

if_false : {A : Type 0} (b : Bool) (x y : A) → b ≡ false → cond b x y ≡ y
if_false true x y h = cc
if_false false x y h = refl

-- the range of the span is the block's
in-span : (boot : Boot) (before : List ModuleCall) (block : Block) (span : Taken) (page : ℕ) → HasBlock boot before block span → in_range span.ticket.pages.first span.ticket.pages.count page ≡ in_block page block
in-span boot before block span page has = ap (λ (p : Pages). in_range p.first p.count page) has.pages

-- the states of the block's pages after calls, by the span
states-inside : (boot : Boot) (before : List ModuleCall) (block : Block) (span : Taken) (calls : List ModuleCall) (page : ℕ) → HasBlock boot before block span → in_block page block ≡ true → state_after (state_in span.runs) calls page ≡ page_state boot (before ++ calls) page
states-inside boot before block span calls page has inside =
    state_after-at (state_in span.runs) (page_state boot before) calls page (has.states page ∙ if_true _ _ _ inside)
    ∙ sym (ap (λ (s : States). s page) (state_after-append (state_in boot.ram) before calls))

none-outside : (boot : Boot) (before : List ModuleCall) (block : Block) (span : Taken) (page : ℕ) → HasBlock boot before block span → in_block page block ≡ false → state_in span.runs page ≡ None
none-outside boot before block span page has out = has.states page ∙ if_false _ _ _ out

-- what is pending in the block is pending in the span
pending-one : (boot : Boot) (now : List ModuleCall) (block : Block) (s : Option PageState) (page : ℕ) → (in_block page block ≡ true → s ≡ page_state boot now page) → (in_block page block ≡ false → s ≡ None) → is_pending s ≡ pending_in_block boot now block page
unfolding pending_in_block
pending-one boot now block s page inside outside =
    elim (cases_Bool (in_block page block)) [
      | inl t ↦ ap is_pending (inside t) ∙ sym (ap (λ (b : Bool). b && is_pending (page_state boot now page)) t)
      | inr f ↦ ap is_pending (outside f) ∙ sym (ap (λ (b : Bool). b && is_pending (page_state boot now page)) f)
    ]

pending-same : (boot : Boot) (before : List ModuleCall) (block : Block) (span : Taken) (calls : List ModuleCall) → HasBlock boot before block span → ((page : ℕ) → in_block page block ≡ false → state_after (state_in span.runs) calls page ≡ None) → pending_after span calls ≡ pending_in_block boot (before ++ calls) block
pending-same boot before block span calls has outside = fun_ext (λ page. pending-one boot (before ++ calls) block (state_after (state_in span.runs) calls page) page (states-inside boot before block span calls page has) (outside page))

-- ---- the calls

block-call : (boot : Boot) (before : List ModuleCall) (block : Block) (span : Taken) (kind : CallKind) (call : ModuleCall) → HasBlock boot before block span → IsCallFor kind span call → IsBlockCall kind block call
block-call boot before block span kind call has is = record {
  kind_is = ap (λ (c : ModuleCall). c.kind) is.whole;
  first = ap (λ (c : ModuleCall). c.first) is.whole ∙ ap (λ (p : Pages). p.first) has.pages;
  count = ap (λ (c : ModuleCall). c.count) is.whole ∙ ap (λ (p : Pages). p.count) has.pages;
  level = ap (λ (c : ModuleCall). c.level) is.whole;
}

-- a call for a span is answered as it may be
honest-call : (hosts : List HostRun) (span : Taken) (kind : CallKind) (call : ModuleCall) → IsCallFor kind span call → HonestAnswer hosts call kind → HonestHost hosts call
honest-call hosts span kind call is honest = let P : CallKind → Type 0 = HonestAnswer hosts call in subst P (sym (ap (λ (c : ModuleCall). c.kind) is.whole)) honest

block-once : (boot : Boot) (before : List ModuleCall) (block : Block) (span : Taken) (kind : CallKind) (calls : List ModuleCall) → HasBlock boot before block span → ((call : ModuleCall) → IsCallFor kind span call → HonestAnswer boot.hosts call kind) → CallsOnceFor kind span calls → CallsOnce boot kind block calls
block-once boot before block span kind [] has honest once = absurd once
block-once boot before block span kind (call ∷ []) has honest once = (block-call boot before block span kind call has once, honest-call boot.hosts span kind call once (honest call once))
block-once boot before block span kind (call ∷ next ∷ calls) has honest once = absurd once

block-accepts : (boot : Boot) (before : List ModuleCall) (block : Block) (span : Taken) (now calls : List ModuleCall) → HasBlock boot before block span → ((page : ℕ) → in_block page block ≡ false → state_after (state_in span.runs) now page ≡ None) → AcceptsAfter boot.hosts span now calls → AcceptsBlockPages boot (before ++ now) block calls
block-accepts boot before block span now calls has outside steps =
    let Sets : (ℕ → Bool) → Type 0 = λ set. AcceptanceSteps boot.hosts set (block.first + 2 ^ block.order) block.first None calls in
    let At : Pages → Type 0 = λ p. AcceptanceSteps boot.hosts (pending_after span now) (p.first + p.count) p.first None calls in
    subst Sets (pending-same boot before block span now has outside) (subst At has.pages steps)

block-rest : (boot : Boot) (before : List ModuleCall) (block : Block) (span : Taken) (call : ModuleCall) (calls : List ModuleCall) (done : Bool) → HasBlock boot before block span → ((page : ℕ) → in_block page block ≡ false → after_call (state_in span.runs) call page ≡ None)
    → elim done as (λ _. Type 0) [ true ↦ AcceptsAfter boot.hosts span (call ∷ []) calls | false ↦ calls ≡ [] ]
    → elim done as (λ _. Type 0) [ true ↦ AcceptsBlockPages boot (before ++ call ∷ []) block calls | false ↦ calls ≡ [] ]
block-rest boot before block span call calls true has outside steps = block-accepts boot before block span (call ∷ []) calls has outside steps
block-rest boot before block span call calls false has outside is = is

block-back : (boot : Boot) (before : List ModuleCall) (block : Block) (span : Taken) (calls : List ModuleCall) → HasBlock boot before block span → TakesSpanBack boot.hosts span calls → TakesBlockBack boot before block calls
block-back boot before block span [] has back = absurd back
block-back boot before block span (call ∷ calls) has back = (
  block-call boot before block span Unshare call has back.0,
  honest-call boot.hosts span Unshare call back.0 back.0.answered,
  block-rest boot before block span call calls (is_done call) has
      (λ page out. call-outside Unshare span call (state_in span.runs) page back.0 (in-span boot before block span page has ∙ out) ∙ none-outside boot before block span page has out)
      back.1,
)

block-made : (boot : Boot) (before : List ModuleCall) (block : Block) (span : Taken) (shared : Bool) (to : PageState) (calls : List ModuleCall) → HasBlock boot before block span → ConvertsSpanBy boot.hosts span shared to calls → ConvertsBy boot before block shared (Some to) calls
block-made boot before block span shared Shared calls has made = block-once boot before block span Share calls has (λ call is. is.answered) made
block-made boot before block span shared Pending calls has made = block-once boot before block span Give calls has (λ call is. is.answered) made
block-made boot before block span true Accepted calls has made = block-back boot before block span calls has made
block-made boot before block span false Accepted calls has made =
    let P : List ModuleCall → Type 0 = λ now. AcceptsBlockPages boot now block calls in
    subst P (append-nil before) (block-accepts boot before block span [] calls has (λ page out. none-outside boot before block span page has out) made)

-- ---- the block

-- one page speaks for the span and for the block
shared-same : (boot : Boot) (before : List ModuleCall) (block : Block) (span : Taken) → HasBlock boot before block span → is_shared_span span ≡ is_shared_after boot before block
shared-same boot before block span has =
    let some : 1 ≤ 2 ^ block.order = pow_pos block.order in
    let first : in_block block.first block ≡ true = in_range-intro block.first (2 ^ block.order) block.first (omega arith) (omega arith) in
    ap (λ (p : Pages). is_shared (state_in span.runs p.first)) has.pages ∙ ap is_shared (has.states block.first ∙ if_true _ _ _ first)

states-left : (boot : Boot) (before : List ModuleCall) (block : Block) (span : Taken) (calls : List ModuleCall) (page : ℕ) → HasBlock boot before block span → ((page : ℕ) → in_block page block ≡ false → state_after (state_in span.runs) calls page ≡ None) → state_after (state_in span.runs) calls page ≡ cond (in_block page block) (page_state boot (before ++ calls) page) None
states-left boot before block span calls page has outside =
    elim (cases_Bool (in_block page block)) [
      | inl t ↦ states-inside boot before block span calls page has t ∙ sym (if_true _ _ _ t)
      | inr f ↦ outside page f ∙ sym (if_false _ _ _ f)
    ]

pub block-converts : (boot : Boot) (before calls : List ModuleCall) (block : Block) (to : PageState) (old new : Taken) (end : ConvertEnd) → HasBlock boot before block old → ConvertsSpan boot.hosts to old new calls end → ConvertsBlock boot before block to new calls end
block-converts boot before calls block to old new end has c =
    let same = shared-same boot before block old has in
    let By : Bool → Type 0 = λ shared. ConvertsBy boot before block shared (Some to) calls in
    let outside = λ (page : ℕ) (out : in_block page block ≡ false). converts-outside boot.hosts old (is_shared_span old) to calls page c.made (in-span boot before block old page has ∙ out) (none-outside boot before block old page has out) in
    record {
      made = subst By same (block-made boot before block old (is_shared_span old) to calls has c.made);
      ends = c.ends ∙ ap (λ shared. end_by shared (Some to) calls) same;
      leaves = record {
        pages = ap (λ t. t.pages) c.ticket ∙ has.pages;
        states = λ page. c.states page ∙ states-left boot before block old calls page has outside;
      };
    }

-- so it makes the block's conversion that was begun, where the block's pages are still as the memory's entries left them
pub memory-converts : (boot : Boot) (memory : List Entry) (calls : List ModuleCall) (block : Block) (to : PageState) (old new : Taken) (end : ConvertEnd) → aim_of memory block ≡ Some to → HasBlock boot (calls_of boot memory) block old → ConvertsSpan boot.hosts to old new calls end → Converts boot memory block calls × (end ≡ convert_end boot memory block calls)
unfolding is_shared_block convert_end
memory-converts boot memory calls block to old new end aim has c =
    let by = block-converts boot (calls_of boot memory) calls block to old new end has c in
    let P : Option PageState → Type 0 = λ a. ConvertsBy boot (calls_of boot memory) block (is_shared_after boot (calls_of boot memory) block) a calls in (
      subst P (sym aim) by.made,
      by.ends ∙ ap (λ a. end_by (is_shared_after boot (calls_of boot memory) block) a calls) (sym aim),
    )
