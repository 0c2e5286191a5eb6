use Rattle.guest_threads.specs.Progress.{IsSame}
use Rattle.guest_threads.specs.Seated.{Seated}
use Rattle.guest_threads.proofs.one.run_one.Given as goal

abbrev pub invariant-loop : goal.invariant-loop
invariant-loop g l =
    record {
      same : IsSame g.T.Processor.seen g.T.Processor.never_fails l.initial.processor l.processor;
      seated : Seated g.T.Processor.seen g.T.Processor.stands l.fn.locks l.passes l.processor;
    }
