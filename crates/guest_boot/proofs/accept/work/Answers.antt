use Rattle.std.proofs.Common.{arith}
use Rattle.guest_base.proofs.SearchLemmas.{count_such-le}
use Rattle.page_module.specs.States.{state_in}
use Rattle.page_module.specs.Tables.{begins_run}
use Rattle.guest_boot.proofs.accept.work.Goals as goal

pub take-span-requires-clause-room : goal.take-span-requires-clause-room
take-span-requires-clause-room g c =
    let few = count_such-le (begins_run (state_in c.reserve.new.self.runs) c.args.pages.first) c.args.pages.first c.args.pages.count in
    omega (arith, few, c.in_ok-reserve.ensures.ok)
