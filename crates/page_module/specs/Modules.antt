-- Calls of the secure module over the pages of a span.
use Rattle.std.specs.Prelude.{◌≡◌, ◌⊎◌, ℕ, ◌+◌, ◌%◌, ◌≤◌, List, [], ◌∷◌, ◌++◌, if◌then◌else◌}
use Rattle.guest_base.specs.Counts.{Rose}
use Rattle.guest_base.specs.Levels.{level_pages}
use Rattle.guest_base.specs.declared.memory.Level.{Level}
use Rattle.guest_base.specs.declared.memory.Level.TheVariants.{Small}
use Rattle.guest_base.specs.declared.memory.PageState.{PageState}
use Rattle.event_core.specs.Calls.{is_smaller}
use Rattle.event_core.specs.declared.module_call.ModuleCall.{ModuleCall}
use Rattle.event_core.specs.declared.module_call.CallKind.{CallKind}
use Rattle.event_core.specs.declared.module_call.CallKind.TheVariants.{Accept}
use Rattle.event_core.specs.declared.module_call.PortAnswer.{PortAnswer}
use Rattle.event_core.specs.declared.module_call.PortAnswer.TheVariants.{Ok, SizeMismatch, Failed}
use Rattle.page_module.specs.Spans.{Taken, BeginsPending, Becomes}

-- an accept call may be made: its first page is aligned to its level and begins a maximal run of
-- pending pages, in which all its pages lie (after the TDX guest's acceptance)
pub record MayAccept (span : Taken) (first : ℕ) (level : Level) : Type 0 where
  pub aligned : first % level_pages level ≡ 0
  pub begins : BeginsPending span first (level_pages level)

-- what a module that doesn't fail answers to an accept call, where the host has mapped its first
-- page at a level (own rule)
abbrev pub answer_by : Level → Level → PortAnswer
answer_by level host = if is_smaller host level then SizeMismatch else Ok

-- the record of an accept call
abbrev pub accept_call : ℕ → Level → PortAnswer → ModuleCall
accept_call first level answer =
    let count = level_pages level in
    record { kind = Accept; first = first; count = count; level = level; answer = answer }

-- the record of a call for a whole span
abbrev pub span_call : CallKind → Taken → PortAnswer → ModuleCall
span_call kind span answer =
    let pages = span.ticket.pages in
    record { kind = kind; first = pages.first; count = pages.count; level = Small; answer = answer }

-- the span after a call that makes these pages have a state: by Ok they have it and all else is as
-- before, after any other answer the span is unchanged
abbrev pub AfterCall : PageState → Taken → Taken → ℕ → ℕ → PortAnswer → Type 0
AfterCall state old new first count Ok = Becomes state old new first count
AfterCall state old new first count SizeMismatch = new ≡ old
AfterCall state old new first count Failed = new ≡ old

-- What a call leaves where the calls are kept, and of the span whose pages it makes have a state: it is
-- recorded, the span is as after its answer, and it takes one place of the room at most.
pub record MakesCall {K : Type 0} (calls_in : K → List ModuleCall) (room_in : K → ℕ) (old new : K)
    (state : PageState) (before after : Taken) (call : ModuleCall) : Type 0 where
  pub recorded : calls_in new ≡ calls_in old ++ call ∷ []
  pub marked : AfterCall state before after call.first call.count call.answer
  pub room_used : room_in old ≤ room_in new + 1

-- What a port answers to a call, where the answer without a fault is `honest`: that, or Failed, which
-- comes only where the count of faults rises. Faults stay, and so does that no call ever fails.
pub record Answers {P : Type 0} (faults_of : P → ℕ) (NeverFails : P → Type 0) (old new : P)
    (honest result : PortAnswer) : Type 0 where
  pub answer : (result ≡ Failed) ⊎ (result ≡ honest)
  pub failed : result ≡ Failed → Rose (faults_of old) (faults_of new)
  pub faults_kept : faults_of old ≤ faults_of new
  pub never_fails_kept : NeverFails old → NeverFails new
