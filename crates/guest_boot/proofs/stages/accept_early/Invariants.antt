use Rattle.std.proofs.Common.{◌≤◌, drop}
use Rattle.guest_boot.specs.Booting.{StandsAfter, AcceptsRunPiece}
use Rattle.guest_boot.proofs.InTurnLemmas.{LeadsTo}
use Rattle.guest_boot.proofs.stages.accept_early.Given as goal

abbrev pub invariant-loop-piece : goal.invariant-loop-piece
invariant-loop-piece g l = record {
  leads : LeadsTo (AcceptsRunPiece l.boot) (g.P.Port.made l.fn.port) l.pieces (g.P.Port.made l.port) (drop l.piece-index l.pieces);
  stands : StandsAfter l.boot (g.P.Port.made l.port) l.kept;
  faults : g.P.Port.faults l.fn.port ≤ g.P.Port.faults l.port;
  never_fails : g.P.Port.never_fails l.fn.port → g.P.Port.never_fails l.port;
}
