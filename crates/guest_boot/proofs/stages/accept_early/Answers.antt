use Rattle.std.proofs.Common.{◌∙◌, Err, ap, arith}
use Rattle.std.proofs.lemmas.Result.{err_from_is_err_and}
use Rattle.guest_base.specs.declared.memory.PageRun.{PageRun}
use Rattle.event_core.specs.Boot.{InTurn}
use Rattle.event_core.proofs.FrontLemmas.{piece-exists}
use Rattle.guest_boot.specs.Booting.{AcceptsRunPiece}
use Rattle.guest_boot.proofs.InTurnLemmas.{Goes, worked-left, leads-stop, leads-next, leads-end}
use Rattle.guest_boot.proofs.stages.accept_early.Goals as goal

pub returns-in_err-accept_piece-clause-done : goal.returns-in_err-accept_piece-clause-done
returns-in_err-accept_piece-clause-done g c =
    let e = err_from_is_err_and c.from_residual.result c.from_residual.ensures.1 in
    let Part = AcceptsRunPiece c.args.boot.now in
    let goes : Goes Part = λ before (piece : PageRun). piece-exists c.args.boot.now before piece.pages in
    let start = g.P.Port.made c.args.port.now in
    worked-left c.from_residual.result _ c.args.boot.now (InTurn Part start c.args.pieces.now) start (g.P.Port.made c.accept_piece.new.port) _ (e.1 ∙ ap (λ x. Err x) e.2)
    (leads-stop Part start (g.P.Port.made c.loop-piece.port) (g.P.Port.made c.accept_piece.new.port) c.args.pieces.now c.loop-piece.piece-index _ _ goes c.loop-piece-test.true c.loop-piece.invariant.leads c.in_err-accept_piece.ensures.done.made)

pub loop-piece-preserved : goal.loop-piece-preserved
loop-piece-preserved g c = record {
  leads = leads-next (AcceptsRunPiece c.args.boot.now) (g.P.Port.made c.args.port.now) (g.P.Port.made c.loop-piece.port) (g.P.Port.made c.accept_piece.new.port) c.args.pieces.now c.loop-piece.piece-index _ c.loop-piece-test.true c.loop-piece.invariant.leads c.in_ok-accept_piece.ensures.done.made;
  stands = c.in_ok-accept_piece.ensures.done.stands;
  faults = omega (arith, c.loop-piece.invariant.faults, c.in_ok-accept_piece.ensures.faults.kept);
  never_fails = λ never. c.in_ok-accept_piece.ensures.never_fails (c.loop-piece.invariant.never_fails never);
}

pub returns-clause-done : goal.returns-clause-done
returns-clause-done g c = record {
  made = leads-end (AcceptsRunPiece c.args.boot.now) (g.P.Port.made c.args.port.now) (g.P.Port.made c.loop-piece.port) c.args.pieces.now c.loop-piece.piece-index c.loop-piece-test.false c.loop-piece.invariant.leads;
  stands = c.loop-piece.invariant.stands;
}
