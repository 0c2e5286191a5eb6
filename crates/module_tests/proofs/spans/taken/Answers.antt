use Rattle.std.proofs.Common.{arith}
use Rattle.event_core.specs.Runs.{state_in}
use Rattle.page_module.proofs.CopyLemmas.{run_count-few}
use Rattle.module_tests.proofs.spans.taken.Goals as goal

pub take-span-requires-clause-room : goal.take-span-requires-clause-room
take-span-requires-clause-room c = omega (arith, run_count-few (state_in c.reserve.new.self.runs) c.args.run.pages, c.in_ok-reserve.ensures.ok)
