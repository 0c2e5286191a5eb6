use Rattle.std.proofs.Common.{◌≡◌, sym, ap, subst, map, length, arith}
use Rattle.guest_steps.specs.Ground.{ground_of}
use Rattle.guest_steps.specs.Running.{AllFinished, AllStand}
use Rattle.guest_threads.specs.Dealt.{HasRoom}
use Rattle.guest_threads.proofs.LockLemmas.{if-ok-then, on-ok-both, seated-count}
use Rattle.guest_threads.proofs.RunLemmas.{fresh-later, later-boot}
use Rattle.guest_threads.proofs.places.run_threads.Goals as goal

pub returns-in_err-locks-clause-later : goal.returns-in_err-locks-clause-later
returns-in_err-locks-clause-later g c = fresh-later g.T.Processor.seen g.T.Processor.never_fails c.args.processors.now.items c.requires.first.fresh

pub returns-in_err-places-clause-later : goal.returns-in_err-places-clause-later
returns-in_err-places-clause-later g c = fresh-later g.T.Processor.seen g.T.Processor.never_fails c.args.processors.now.items c.requires.first.fresh

pub run_locked-left-requires-clause-homes : goal.run_locked-left-requires-clause-homes
run_locked-left-requires-clause-homes g c κs within =
    let locks = c.in_ok-locks.locks in
    let passes = c.in_ok-locks.passes in
    subst (λ n. HasRoom c.in_ok-locks.homes n (length locks.areas.items))
    (sym (seated-count g.T.Processor.seen g.T.Processor.stands locks 0 passes.items c.args.processors.now.items c.in_ok-locks.ensures.seated.each)) c.in_ok-locks.ensures.room

pub returns-clause-stand : goal.returns-clause-stand
returns-clause-stand g c =
    let left = c.run_locked-left.result.0 in
    let base = ground_of left.0 left.1.items in
    let news = c.run_locked-left.new.processors.items in
    let stand = c.run_locked-left.ensures.stand in
    let boot = later-boot g.T.Processor.seen g.T.Processor.never_fails c.args.processors.now.items news c.args.memory.boot left.0.boot (ground_of c.args.memory c.args.areas.items) base
    (omega (arith, c.in_ok-locks.ensures.seated.some, c.in_ok-locks.ensures.seated.count)) c.run_locked-left.ensures.later c.requires.stand.together stand.together
    in (
      base,
      if-ok-then c.answered.result (λ after. after ≡ left) (λ after. ground_of after.0 after.1.items ≡ base) (λ after same. ap (λ l. ground_of l.0 l.1.items) same) c.answered.ensures.left,
      subst (λ b. AllStand g.T.Processor.seen g.T.Processor.stands b news base) boot stand,
    )

pub returns-clause-finished : goal.returns-clause-finished
returns-clause-finished g c =
    on-ok-both c.answered.result c.run_locked-left.result.1 (AllFinished (map g.T.Processor.seen c.run_locked-left.new.processors.items)) c.answered.ensures.ok c.run_locked-left.ensures.finished
