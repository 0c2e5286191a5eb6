use Rattle.std.specs.Prelude.{ℕ, List, [], ◌∷◌, None, Some, Bool, true, false, ◌≡◌, ◌≢◌, ◌⊎◌}
use Rattle.guest_base.specs.Ranges.{in_range}
use Rattle.guest_base.specs.declared.memory.HostRun.{HostRun}
use Rattle.guest_base.specs.declared.memory.PageState.{PageState}
use Rattle.guest_base.specs.declared.memory.PageState.TheVariants.{Pending, Accepted, Shared}
use Rattle.event_core.specs.declared.event.ConvertEnd.{ConvertEnd}
use Rattle.event_core.specs.declared.event.ConvertEnd.TheVariants.{Converted, Refused, Half}
use Rattle.event_core.specs.declared.module_call.CallKind.{CallKind}
use Rattle.event_core.specs.declared.module_call.CallKind.TheVariants.{Share, Unshare, Give}
use Rattle.event_core.specs.declared.module_call.ModuleCall.{ModuleCall}
use Rattle.event_core.specs.declared.module_call.PortAnswer.{PortAnswer}
use Rattle.event_core.specs.declared.module_call.PortAnswer.TheVariants.{Ok as AnsweredOk, SizeMismatch, Failed}
use Rattle.event_core.specs.Acceptance.{AcceptanceSteps}
use Rattle.event_core.specs.Calls.{is_done, state_after}
use Rattle.event_core.specs.ConvertRows.{end_by, is_shared}
use Rattle.event_core.specs.MemoryRows.{is_pending}
use Rattle.page_module.specs.Modules.{span_call}
use Rattle.page_module.specs.Spans.{SpanIs, Taken}
use Rattle.page_module.specs.States.{state_in}
use Rattle.accept_sizes.specs.Accepts.{span_end}

-- Conversions of the pages of a span, as `event_core` `ConvertRows` tells those of a block (after the
-- TDX guest; pages left half way and giving back are own rules).

-- no page of the span is Shared
abbrev pub NoneShared : Taken → Type 0
NoneShared span =
    (page : ℕ) → in_range span.ticket.pages.first span.ticket.pages.count page ≡ true
    → state_in span.runs page ≢ Some Shared

-- all pages of the span are Shared, or none is
abbrev pub AllOrNoneShared : Taken → Type 0
AllOrNoneShared span = SpanIs Shared span ⊎ NoneShared span

-- whether they are: the first one speaks for all
abbrev pub is_shared_span : Taken → Bool
is_shared_span span = is_shared (state_in span.runs span.ticket.pages.first)

-- ---- the calls that a conversion makes

-- one call for all pages of the span, which was answered Ok or Failed
pub record IsCallFor (kind : CallKind) (span : Taken) (call : ModuleCall) : Type 0 where
  pub whole : call ≡ span_call kind span call.answer
  pub answered : (call.answer ≡ Failed) ⊎ (call.answer ≡ AnsweredOk)

abbrev pub CallsOnceFor : CallKind → Taken → List ModuleCall → Type 0
CallsOnceFor kind span [] = ⊥
CallsOnceFor kind span (call ∷ []) = IsCallFor kind span call
CallsOnceFor kind span (call ∷ next ∷ calls) = ⊥

-- the pages of the span that are pending after calls
abbrev pub pending_after : Taken → List ModuleCall → ℕ → Bool
pending_after span before page = is_pending (state_after (state_in span.runs) before page)

-- the pages that are pending after calls are accepted by sizes
abbrev pub AcceptsAfter : List HostRun → Taken → List ModuleCall → List ModuleCall → Type 0
AcceptsAfter hosts span before calls =
    AcceptanceSteps
    hosts (pending_after span before) (span_end span) span.ticket.pages.first None calls

-- one call takes a shared span back; where it is done the pages, which are pending then, are accepted
abbrev pub TakesSpanBack : List HostRun → Taken → List ModuleCall → Type 0
TakesSpanBack hosts span [] = ⊥
TakesSpanBack hosts span (call ∷ calls) =
    IsCallFor Unshare span call
    × elim (is_done call) as (λ _. Type 0) [
      | true ↦ AcceptsAfter hosts span (call ∷ []) calls
      | false ↦ calls ≡ []
    ]

-- the calls that bring a span to a state
abbrev pub ConvertsSpanBy : List HostRun → Taken → Bool → PageState → List ModuleCall → Type 0
ConvertsSpanBy hosts span shared Shared calls = CallsOnceFor Share span calls
ConvertsSpanBy hosts span true Accepted calls = TakesSpanBack hosts span calls
ConvertsSpanBy hosts span false Accepted calls = AcceptsAfter hosts span [] calls
ConvertsSpanBy hosts span shared Pending calls = CallsOnceFor Give span calls

-- These calls convert a span to a state, with this end, and leave its pages in the states that they
-- make.
pub record ConvertsSpan (hosts : List HostRun) (to : PageState) (old new : Taken)
    (calls : List ModuleCall) (end : ConvertEnd) : Type 0 where
  pub made : ConvertsSpanBy hosts old (is_shared_span old) to calls
  pub ends : end ≡ end_by (is_shared_span old) (Some to) calls
  pub ticket : new.ticket ≡ old.ticket
  pub states : (page : ℕ) → state_in new.runs page ≡ state_after (state_in old.runs) calls page

-- the end that the answer to one call brings
abbrev pub end_after : PortAnswer → ConvertEnd
end_after AnsweredOk = Converted
end_after SizeMismatch = Refused
end_after Failed = Refused

-- ---- what is left of the span

-- after a conversion by one call: all pages have the state, or the span is as before
abbrev pub LeavesOnce : PageState → Taken → Taken → ConvertEnd → Type 0
LeavesOnce to old new Converted = SpanIs to new
LeavesOnce to old new Refused = new ≡ old
LeavesOnce to old new (Half page) = ⊥

-- no page of the span has a state other than Accepted
abbrev pub NoneUnaccepted : Taken → Type 0
NoneUnaccepted span =
    (page : ℕ) → in_range span.ticket.pages.first span.ticket.pages.count page ≡ true
    → state_in span.runs page ≢ None → state_in span.runs page ≡ Some Accepted

-- after it was made private: all pages are Accepted; or the span is as before; or it stopped at a
-- page, which is pending, and no page is Shared, so that it can go on
abbrev pub LeavesPrivate : Taken → Taken → ConvertEnd → Type 0
LeavesPrivate old new Converted = NoneUnaccepted new
LeavesPrivate old new Refused = new ≡ old
LeavesPrivate old new (Half page) = NoneShared new × (state_in new.runs page.0 ≡ Some Pending)
