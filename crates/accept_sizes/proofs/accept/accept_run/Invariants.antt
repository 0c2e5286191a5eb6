use Rattle.std.proofs.Common.{◌≡◌, List, ◌++◌, ◌+◌, ◌≤◌, length}
use Rattle.event_core.specs.declared.module_call.ModuleCall.{ModuleCall}
use Rattle.accept_sizes.specs.Room.{most_calls_of, KeepsRoom}
use Rattle.accept_sizes.specs.Accepts.{span_end}
use Rattle.accept_sizes.proofs.Going.{Going, calls_left}
use Rattle.accept_sizes.proofs.accept.accept_run.Given as goal

abbrev pub invariant-loop-run : goal.invariant-loop-run
invariant-loop-run g l = record {
  done : (calls : List ModuleCall) × (l.log.calls ≡ l.fn.log.calls ++ calls) × (g.P.Port.made l.port ≡ g.P.Port.made l.fn.port ++ calls) × Going l.hosts l.fn.span l.span l.from l.tried calls;
  high : l.from ≤ span_end l.fn.span;
  few : length (g.P.Port.made l.port) + calls_left l.from (span_end l.fn.span) l.tried ≤ length (g.P.Port.made l.fn.port) + most_calls_of l.fn.span.ticket.pages.count;
  room : KeepsRoom (g.P.Port.made l.fn.port) (g.P.Port.made l.port) (g.P.Port.room l.fn.port) (g.P.Port.room l.port);
  log_room : KeepsRoom l.fn.log.calls l.log.calls l.fn.log.room l.log.room;
  faults : g.P.Port.faults l.fn.port ≤ g.P.Port.faults l.port;
  never_fails : g.P.Port.never_fails l.fn.port → g.P.Port.never_fails l.port;
}

abbrev pub decreases-loop-run : goal.decreases-loop-run
decreases-loop-run g l = calls_left l.from (span_end l.fn.span) l.tried
