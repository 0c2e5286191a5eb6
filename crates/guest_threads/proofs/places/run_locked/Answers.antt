use Rattle.std.proofs.Common.{sym, ap, subst, map, length, arith, All}
use Rattle.guest_steps.specs.Running.{AllFinished, EachLater}
use Rattle.guest_steps.specs.Ground.{ground_of}
use Rattle.guest_threads.specs.Dealt.{HasRoom}
use Rattle.guest_threads.specs.Places.{IsFinished, processors_at}
use Rattle.guest_threads.proofs.LockLemmas.{on-ok-then, seated-count}
use Rattle.guest_threads.proofs.RunLemmas.{all-ran, left-seated, places-count, places-seated, ran-finished, ran-later, ran-never-worn, same-count, seated-by}
use Rattle.guest_threads.proofs.places.run_locked.Goals as goal

pub seat_all-requires-clause-count : goal.seat_all-requires-clause-count
seat_all-requires-clause-count g c κs within =
    let count = seated-count g.T.Processor.seen g.T.Processor.stands c.args.locks 0 c.args.passes.items c.args.processors.now.items c.requires.seated.each in omega (arith, count, c.args.passes.ok.0, c.args.processors.now.ok.0)

pub seat_all-requires-clause-room : goal.seat_all-requires-clause-room
seat_all-requires-clause-room g c κs within =
    let count = seated-count g.T.Processor.seen g.T.Processor.stands c.args.locks 0 c.args.passes.items c.args.processors.now.items c.requires.seated.each in
    (c.requires.room.0, omega (arith, count, c.args.passes.ok.0, c.args.processors.now.ok.0, c.requires.room.1))

pub run_all-requires-clause-some : goal.run_all-requires-clause-some
run_all-requires-clause-some g c κs within =
    let count = places-count c.seat_all.new.places.items in
    omega (arith, count, ap length c.seat_all.ensures.processors, c.seat_all.new.places.ok.0, c.requires.seated.some, c.requires.seated.count)

pub run_all-requires-clause-seated : goal.run_all-requires-clause-seated
run_all-requires-clause-seated g c κs within =
    places-seated g.T.Processor.seen g.T.Processor.stands g.T.Processor.never_fails c.args.locks c.seat_all.new.places.items
    (seated-by g.T.Processor.seen g.T.Processor.stands g.T.Processor.never_fails c.args.locks c.seat_all.new.places.items c.args.passes.items c.args.processors.now.items c.requires.seated.each c.seat_all.ensures.processors c.seat_all.ensures.passes)

pub leave_all-answer-requires-clause-processor_room :
    goal.leave_all-answer-requires-clause-processor_room
leave_all-answer-requires-clause-processor_room g c κs within =
    let count = places-count c.seat_all.new.places.items in
    omega (arith, count, ap length c.seat_all.ensures.processors, c.seat_all.new.places.ok.0, c.run_all.ensures.count, c.args.processors.now.ok.0, c.args.processors.now.ok.1, c.seat_all.ensures.processor_room)

pub leave_all-answer-requires-clause-pass_room : goal.leave_all-answer-requires-clause-pass_room
leave_all-answer-requires-clause-pass_room g c κs within =
    let count = places-count c.seat_all.new.places.items in
    let passes = seated-count g.T.Processor.seen g.T.Processor.stands c.args.locks 0 c.args.passes.items c.args.processors.now.items c.requires.seated.each in
    omega (arith, count, passes, ap length c.seat_all.ensures.processors, c.seat_all.new.places.ok.0, c.run_all.ensures.count, c.args.passes.ok.0, c.args.passes.ok.1, c.seat_all.ensures.pass_room)

pub unlock_all-left-requires-clause-seated : goal.unlock_all-left-requires-clause-seated
unlock_all-left-requires-clause-seated g c κs within =
    let ran = all-ran g.T.Processor.seen g.T.Processor.stands g.T.Processor.never_fails c.args.locks c.seat_all.new.places.items c.run_all.new.places.items (omega (arith, c.run_all.ensures.count, c.run_all.new.places.ok.0, c.seat_all.new.places.ok.0))
    (λ k d below. c.run_all.ensures.ran k d (omega (arith, below, c.seat_all.new.places.ok.0))) in
    left-seated g.T.Processor.seen g.T.Processor.stands g.T.Processor.never_fails c.args.locks c.seat_all.new.places.items c.run_all.new.places.items c.args.passes.items c.leave_all-answer.new.passes.items c.args.processors.now.items c.leave_all-answer.new.processors.items
    c.requires.seated c.seat_all.ensures.processors c.seat_all.ensures.passes ran c.leave_all-answer.ensures.processors c.leave_all-answer.ensures.passes

pub unlock_all-left-requires-clause-room : goal.unlock_all-left-requires-clause-room
unlock_all-left-requires-clause-room g c κs within =
    subst (λ n. HasRoom c.args.homes n (length c.args.locks.areas.items))
    (same-count c.seat_all.new.places.items c.run_all.new.places.items c.args.passes.items c.leave_all-answer.new.passes.items c.seat_all.ensures.passes c.leave_all-answer.ensures.passes
    (omega (arith, c.run_all.ensures.count, c.run_all.new.places.ok.0, c.seat_all.new.places.ok.0))) c.requires.homes

pub returns-clause-later : goal.returns-clause-later
returns-clause-later g c =
    let ran = all-ran g.T.Processor.seen g.T.Processor.stands g.T.Processor.never_fails c.args.locks c.seat_all.new.places.items c.run_all.new.places.items (omega (arith, c.run_all.ensures.count, c.run_all.new.places.ok.0, c.seat_all.new.places.ok.0))
    (λ k d below. c.run_all.ensures.ran k d (omega (arith, below, c.seat_all.new.places.ok.0))) in
    subst (λ l. EachLater g.T.Processor.seen g.T.Processor.never_fails l c.leave_all-answer.new.processors.items) c.seat_all.ensures.processors
    (subst (λ l. EachLater g.T.Processor.seen g.T.Processor.never_fails (processors_at c.seat_all.new.places.items) l) (sym c.leave_all-answer.ensures.processors)
    (ran-later g.T.Processor.seen g.T.Processor.stands g.T.Processor.never_fails c.args.locks c.seat_all.new.places.items c.run_all.new.places.items ran))

pub returns-clause-finished : goal.returns-clause-finished
returns-clause-finished g c =
    let ran = all-ran g.T.Processor.seen g.T.Processor.stands g.T.Processor.never_fails c.args.locks c.seat_all.new.places.items c.run_all.new.places.items (omega (arith, c.run_all.ensures.count, c.run_all.new.places.ok.0, c.seat_all.new.places.ok.0))
    (λ k d below. c.run_all.ensures.ran k d (omega (arith, below, c.seat_all.new.places.ok.0))) in
    on-ok-then c.leave_all-answer.result (All IsFinished c.run_all.new.places.items) (AllFinished (map g.T.Processor.seen c.leave_all-answer.new.processors.items))
    (λ all. subst (λ l. AllFinished (map g.T.Processor.seen l)) (sym c.leave_all-answer.ensures.processors) (ran-finished g.T.Processor.seen g.T.Processor.stands g.T.Processor.never_fails c.args.locks c.seat_all.new.places.items c.run_all.new.places.items ran all))
    c.leave_all-answer.ensures.ok

pub returns-clause-never_worn : goal.returns-clause-never_worn
returns-clause-never_worn g c = λ stamp is.
    let base = ground_of c.unlock_all-left.result.0 c.unlock_all-left.result.1.items in
    let stand = c.unlock_all-left.ensures.stand in
    let ran = all-ran g.T.Processor.seen g.T.Processor.stands g.T.Processor.never_fails c.args.locks c.seat_all.new.places.items c.run_all.new.places.items (omega (arith, c.run_all.ensures.count, c.run_all.new.places.ok.0, c.seat_all.new.places.ok.0))
    (λ k d below. c.run_all.ensures.ran k d (omega (arith, below, c.seat_all.new.places.ok.0))) in
    ran-never-worn g.T.Processor.seen g.T.Processor.stands g.T.Processor.never_fails c.args.locks c.seat_all.new.places.items c.run_all.new.places.items c.leave_all-answer.new.passes.items c.leave_all-answer.new.processors.items base stamp ran
    c.leave_all-answer.ensures.processors c.leave_all-answer.ensures.passes stand c.unlock_all-left.ensures.seen
    (λ cpu x got. c.stamps_stay_small.ensures base.memory.boot (map g.T.Processor.seen c.leave_all-answer.new.processors.items) base cpu x stand.together got) (c.leave_all-answer.ensures.refused _ is)
