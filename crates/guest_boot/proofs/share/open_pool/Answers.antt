use Rattle.std.proofs.Common.{[], None, Some, refl, sym, subst, append-nil}
use Rattle.event_core.specs.Boot.{InTurn, StagePart, pool_stages}
use Rattle.guest_boot.specs.Booting.{WorkedOn}
use Rattle.guest_boot.proofs.share.open_pool.Goals as goal

pub returns-in-Some-clause-done : goal.returns-in-Some-clause-done
returns-in-Some-clause-done g c =
    let boot = c.args.boot.now in
    let made = g.P.Port.made c.args.port.now in
    subst (λ pool. WorkedOn boot (InTurn (StagePart boot) made (pool_stages pool)) made (g.P.Port.made c.accept_and_share.new.port) c.accept_and_share.new.kept c.accept_and_share.result) (sym c.in-Some.is) c.accept_and_share.ensures.done

pub returns-in-None-clause-done : goal.returns-in-None-clause-done
returns-in-None-clause-done g c =
    let boot = c.args.boot.now in
    let made = g.P.Port.made c.args.port.now in
    record {
      made = ([], sym (append-nil made), subst (λ pool. InTurn (StagePart boot) made (pool_stages pool) [] None) (sym c.in-None.is) (refl, refl));
      stands = c.requires.stands;
    }
