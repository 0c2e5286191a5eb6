use Rattle.std.proofs.Common.{map}
use Rattle.event_core.specs.Turns.{numbers_from}
use Rattle.guest_steps.specs.Ground.{ground_of}
use Rattle.guest_turns.specs.Walks.{GoOn, WalksOn}
use Rattle.guest_turns.proofs.RoundLemmas.{SoFar}
use Rattle.guest_turns.proofs.run.round.Given as goal

abbrev pub invariant-loop-cpu : goal.invariant-loop-cpu
invariant-loop-cpu g l = record {
  go_on : GoOn g.T.Processor.seen g.T.Processor.stands g.T.Processor.never_fails l.fn.processors.items l.processors.items (ground_of l.fn.memory l.fn.areas.items) (ground_of l.memory l.areas.items);
  walk : WalksOn (numbers_from 0 l.cpu) (map g.T.Processor.seen l.fn.processors.items) (map g.T.Processor.seen l.processors.items) (ground_of l.fn.memory l.fn.areas.items) (ground_of l.memory l.areas.items);
  so_far : SoFar l.cpu (map g.T.Processor.seen l.fn.processors.items) (map g.T.Processor.seen l.processors.items) (ground_of l.fn.memory l.fn.areas.items) (ground_of l.memory l.areas.items);
}
