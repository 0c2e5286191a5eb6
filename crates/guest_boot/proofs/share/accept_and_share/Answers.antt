use Rattle.std.proofs.Common.{◌≡◌, ◌∙◌, ◌++◌, List, [], ◌∷◌, None, Err, refl, ap, sym, subst, append-nil, inr}
use Rattle.std.proofs.lemmas.Result.{err_from_is_err_and}
use Rattle.event_core.specs.Boot.{InTurn, StagePart, PoolAccepted, PoolShared, SharesPool}
use Rattle.event_core.specs.declared.module_call.ModuleCall.{ModuleCall}
use Rattle.event_core.proofs.FrontLemmas.{stage-exists}
use Rattle.guest_boot.specs.Booting.{AreAccepted, WorkedOn}
use Rattle.guest_boot.proofs.InTurnLemmas.{at-item, worked-left}
use Rattle.guest_boot.proofs.StageLemmas.{pool-behind}
use Rattle.guest_boot.proofs.ShareLemmas.{accepted-here}
use Rattle.guest_boot.proofs.share.accept_and_share.Goals as goal

pub returns-in_err-accept_range-clause-done : goal.returns-in_err-accept_range-clause-done
returns-in_err-accept_range-clause-done g c =
    let e = err_from_is_err_and c.from_residual.result c.from_residual.ensures.1 in
    let boot = c.args.boot.now in
    let made = g.P.Port.made c.args.port.now in
    let grew = c.in_err-accept_range.ensures.done.made in
    worked-left c.from_residual.result _ boot (InTurn (StagePart boot) made (PoolAccepted c.args.pool ∷ PoolShared c.args.pool ∷ [])) made (g.P.Port.made c.accept_range.new.port) _ (e.1 ∙ ap (λ x. Err x) e.2)
    (grew.0, grew.1, at-item (StagePart boot) made grew.0 (PoolAccepted c.args.pool) (PoolShared c.args.pool ∷ []) _ (stage-exists boot) grew.2)

pub share_pages-requires-clause-accepted : goal.share_pages-requires-clause-accepted
share_pages-requires-clause-accepted g c =
    let boot = c.args.boot.now in
    let grew = c.in_ok-accept_range.ensures.done.made in
    accepted-here boot (g.P.Port.made c.accept_range.new.port) c.args.pool c.accept_range.new.kept c.in_ok-accept_range.ensures.done.stands
    (subst (λ calls. AreAccepted boot calls c.args.pool) (sym grew.1) (c.requires.accepted grew.0 grew.2))

pub returns-clause-done : goal.returns-clause-done
returns-clause-done g c =
    let boot = c.args.boot.now in
    let made = g.P.Port.made c.args.port.now in
    let middle = g.P.Port.made c.accept_range.new.port in
    let grew = c.in_ok-accept_range.ensures.done.made in
    let accepted = subst (λ calls. AreAccepted boot calls c.args.pool) (sym grew.1) (c.requires.accepted grew.0 grew.2) in
    let shared = c.share_pages.ensures.done boot accepted c.in_ok-accept_range.ensures.done.stands in
    record {
      made = pool-behind c.share_pages.result boot made middle (g.P.Port.made c.share_pages.new.port) c.args.pool grew shared.made;
      stands = shared.stands;
    }
