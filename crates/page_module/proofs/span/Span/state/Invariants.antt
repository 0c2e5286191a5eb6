use Rattle.std.proofs.Common.{◌≡◌, drop}
use Rattle.event_core.specs.Runs.{state_in}
use Rattle.page_module.specs.Spans.{runs_now}
use Rattle.page_module.proofs.span.Span.state.Given as goal

abbrev pub invariant-loop-taken : goal.invariant-loop-taken
invariant-loop-taken l = state_in (runs_now (drop l.taken-index l.taken-items)) l.page.0 ≡ state_in l.self.runs l.page.0
