use Rattle.std.proofs.Common.{arith}
use Rattle.event_core.specs.Runs.{state_in}
use Rattle.page_module.proofs.CopyLemmas.{run_count-few}
use Rattle.page_convert.proofs.tests.accepted_span.Goals as goal

pub take-requires-clause-room : goal.take-requires-clause-room
take-requires-clause-room c = omega (arith, run_count-few (state_in c.reserve.new.self.runs) c.args.pages, c.in_ok-reserve.ensures.ok)
