use Rattle.std.proofs.Common.{refl}
use Rattle.guest_threads.proofs.SeatLemmas.{ended-ran, same-then, seated-follows, still-same}
use Rattle.guest_threads.proofs.one.run_one.Goals as goal

pub loop-init : goal.loop-init
loop-init g c =
    record {
      same = still-same g.T.Processor.seen g.T.Processor.never_fails c.args.processor.now c.args.processor.now refl (λ never. never);
      seated = c.requires.seated;
    }

pub loop-preserved : goal.loop-preserved
loop-preserved g c =
    record {
      same = same-then g.T.Processor.seen g.T.Processor.never_fails c.args.processor.now c.loop.processor c.next_step.new.processor c.loop.invariant.same c.in-GoesOn.ensures.0;
      seated = c.in-GoesOn.ensures.1;
    }

pub returns-in-Ended-clause-ran : goal.returns-in-Ended-clause-ran
returns-in-Ended-clause-ran g c =
    ended-ran g.T.Processor.seen g.T.Processor.stands g.T.Processor.never_fails (g.met.T.Processor g.world.𝓛 g.world.𝓜 g.world.𝓡 ((λ s x. x), (λ x. x), (λ x. x), λ x. x)).told
    c.args.locks.now c.in-Ended.driven.passes c.args.processor.now c.next_step.new.processor c.in-Ended.driven.answer
    (same-then g.T.Processor.seen g.T.Processor.never_fails c.args.processor.now c.loop.processor c.next_step.new.processor c.loop.invariant.same c.in-Ended.ensures.0)
    c.in-Ended.ensures.1 c.in-Ended.ensures.2

pub returns-in-Ended-clause-follows : goal.returns-in-Ended-clause-follows
returns-in-Ended-clause-follows g c =
    seated-follows g.T.Processor.seen g.T.Processor.stands g.T.Processor.never_fails (g.met.T.Processor g.world.𝓛 g.world.𝓜 g.world.𝓡 ((λ s x. x), (λ x. x), (λ x. x), λ x. x)).told
    c.args.locks.now c.in-Ended.driven.passes c.next_step.new.processor c.in-Ended.ensures.1
