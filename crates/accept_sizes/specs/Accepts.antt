use Rattle.std.specs.Prelude.{ℕ, List, Bool, None, ◌≡◌, ◌+◌}
use Rattle.guest_base.specs.declared.memory.HostRun.{HostRun}
use Rattle.event_core.specs.declared.module_call.ModuleCall.{ModuleCall}
use Rattle.event_core.specs.Acceptance.{AcceptanceSteps}
use Rattle.event_core.specs.Calls.{state_after}
use Rattle.event_core.specs.MemoryRows.{is_pending}
use Rattle.event_core.specs.Runs.{state_in}
use Rattle.page_module.specs.Spans.{Taken}

-- the pending pages of a span
abbrev pub pending_of : Taken → ℕ → Bool
pending_of span page = is_pending (state_in span.runs page)

-- the end of a span
abbrev pub span_end : Taken → ℕ
span_end span = span.ticket.pages.first + span.ticket.pages.count

-- these calls accept the pending pages of a span by sizes, and leave its pages in the states that
-- they make
pub record Accepts (hosts : List HostRun) (old new : Taken) (calls : List ModuleCall) : Type 0 where
  pub steps :
      AcceptanceSteps hosts (pending_of old) (span_end old) old.ticket.pages.first None calls
  pub ticket : new.ticket ≡ old.ticket
  pub states : (page : ℕ) → state_in new.runs page ≡ state_after (state_in old.runs) calls page
