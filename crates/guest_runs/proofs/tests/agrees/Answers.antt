use Rattle.std.proofs.Common.{◌≡◌, List, ap, arith, length}
use Rattle.event_core.specs.declared.command.Command.{Command}
use Rattle.guest_runs.proofs.tests.agrees.Goals as goal

pub turns-requires-clause-order : goal.turns-requires-clause-order
turns-requires-clause-order g c κs k d lt =
    let e = c.in_ok-run.ensures in
    let low = c.in_ok-order.ensures.low e.run.history.whole.legal k d lt in
    let scripts : length c.in_ok-run.run'.scripts ≡ length c.in_ok-many_meeting.field-0 = ap (λ (ss : List (List Command)). length ss) e.scripts in
    let first = c.in_ok-many_meeting.ensures.count in
    let second = c.in_ok-many_meeting-2.ensures.count in
    omega (arith, low, scripts, first, second)
