use Rattle.std.proofs.Common.{◌∙◌, ◌++◌, List, None, Err, ap, map, subst, sym}
use Rattle.std.proofs.lemmas.Result.{err_from_is_err_and}
use Rattle.event_core.specs.Boot.{InTurn, StagePart, BlockAccepted, pool_stages}
use Rattle.event_core.specs.Cut.{cut}
use Rattle.event_core.specs.declared.module_call.ModuleCall.{ModuleCall}
use Rattle.guest_boot.specs.Booting.{AcceptsRunPiece, GetsAccepted, early_stages, stages_by}
use Rattle.guest_boot.proofs.InTurnLemmas.{worked-left}
use Rattle.guest_boot.proofs.PutLemmas.{stages-put}
use Rattle.guest_boot.proofs.StageLemmas.{blocks-ended, both-stages, early-grew, early-left, stages-behind, stages-left}
use Rattle.guest_boot.proofs.world.accept_stages.Goals as goal

pub returns-in_err-accept_early-clause-done : goal.returns-in_err-accept_early-clause-done
returns-in_err-accept_early-clause-done g c =
    let e = err_from_is_err_and c.from_residual.result c.from_residual.ensures.1 in
    let boot = c.args.boot.now in
    let made = g.P.Port.made c.args.port.now in
    let after = g.P.Port.made c.accept_early.new.port in
    let early = early_stages c.args.pieces.now in
    worked-left c.from_residual.result _ boot (InTurn (StagePart boot) made (stages_by boot c.args.pieces.now)) made after _ (e.1 ∙ ap (λ x. Err x) e.2)
    (stages-left boot made after (early ++ pool_stages boot.pool) (map BlockAccepted (cut boot)) _
    (stages-left boot made after early (pool_stages boot.pool) _ (early-left boot made after c.args.pieces.now _ c.in_err-accept_early.ensures.done.made)))

pub open_pool-requires-clause-accepted : goal.open_pool-requires-clause-accepted
open_pool-requires-clause-accepted g c pool is =
    let early = c.in_ok-accept_early.ensures.done.made in
    let boot = c.args.boot.now in
    let P : List ModuleCall → Type 0 = λ before. InTurn (AcceptsRunPiece boot) before c.args.pieces.now early.0 None in
    let Q : List ModuleCall → Type 0 = λ calls. GetsAccepted boot calls pool in
    subst Q (sym (early.1 ∙ ap (λ m. m ++ early.0) c.requires.unmade)) (c.requires.accepted pool is early.0 (subst P c.requires.unmade early.2))

pub returns-in_err-open_pool-clause-done : goal.returns-in_err-open_pool-clause-done
returns-in_err-open_pool-clause-done g c =
    let e = err_from_is_err_and c.from_residual-in_err-open_pool.result c.from_residual-in_err-open_pool.ensures.1 in
    let boot = c.args.boot.now in
    let made = g.P.Port.made c.args.port.now in
    let middle = g.P.Port.made c.accept_early.new.port in
    let after = g.P.Port.made c.open_pool.new.port in
    let early = early_stages c.args.pieces.now in
    worked-left c.from_residual-in_err-open_pool.result _ boot (InTurn (StagePart boot) made (stages_by boot c.args.pieces.now)) made after _ (e.1 ∙ ap (λ x. Err x) e.2)
    (stages-left boot made after (early ++ pool_stages boot.pool) (map BlockAccepted (cut boot)) _
    (stages-behind {T = Unit {0}} (Err c.in_err-open_pool.field-0.0) boot made middle after early (pool_stages boot.pool) (early-grew boot made middle c.args.pieces.now c.in_ok-accept_early.ensures.done.made) c.in_err-open_pool.ensures.done.made))

pub returns-clause-done : goal.returns-clause-done
returns-clause-done g c =
    let boot = c.args.boot.now in
    let made = g.P.Port.made c.args.port.now in
    let middle = g.P.Port.made c.accept_early.new.port in
    let opened = g.P.Port.made c.open_pool.new.port in
    let after = g.P.Port.made c.accept_blocks.new.port in
    let early = early_stages c.args.pieces.now in
    let first = both-stages boot made middle opened early (pool_stages boot.pool) (early-grew boot made middle c.args.pieces.now c.in_ok-accept_early.ensures.done.made) c.in_ok-open_pool.ensures.done.made in
    record {
      made = stages-behind c.accept_blocks.result boot made opened after (early ++ pool_stages boot.pool) (map BlockAccepted (cut boot)) first
          (blocks-ended c.accept_blocks.result boot opened after c.args.blocks.now c.requires.blocks c.accept_blocks.ensures.done.made);
      stands = c.accept_blocks.ensures.done.stands;
    }

pub returns-clause-put : goal.returns-clause-put
returns-clause-put g c =
    stages-put c.accept_blocks.result c.args.boot.now (g.P.Port.made c.args.port.now) (g.P.Port.made c.accept_early.new.port) (g.P.Port.made c.open_pool.new.port) (g.P.Port.made c.accept_blocks.new.port) c.args.pieces.now c.args.blocks.now c.accept_blocks.new.store
    c.requires.blocks c.in_ok-accept_early.ensures.done.made c.in_ok-open_pool.ensures.done.made c.accept_blocks.ensures.put
