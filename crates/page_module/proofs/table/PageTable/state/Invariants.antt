use Rattle.std.proofs.Common.{◌≡◌, drop}
use Rattle.event_core.specs.Runs.{state_in}
use Rattle.page_module.proofs.table.PageTable.state.Given as goal

abbrev pub invariant-loop-run : goal.invariant-loop-run
invariant-loop-run l = state_in (drop l.run-index l.run-items) l.page.0 ≡ state_in l.self.runs l.page.0
