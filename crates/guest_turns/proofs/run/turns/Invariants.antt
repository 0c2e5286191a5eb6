use Rattle.std.proofs.Common.{ℕ, ◌++◌, map}
use Rattle.guest_base.specs.declared.memory.CpuNo.{CpuNo}
use Rattle.event_core.specs.Turns.{rounds_of}
use Rattle.guest_steps.specs.Ground.{ground_of}
use Rattle.guest_turns.specs.Walks.{GoOn, WalksOn, all_left}
use Rattle.guest_turns.proofs.run.turns.Given as goal

abbrev pub invariant-loop-alloc : goal.invariant-loop-alloc
invariant-loop-alloc g l = record {
  go_on : GoOn g.T.Processor.seen g.T.Processor.stands g.T.Processor.never_fails l.fn.processors.items l.processors.items (ground_of l.fn.memory l.fn.areas.items) (ground_of l.memory l.areas.items);
  walk : (rounds : ℕ) × WalksOn (map (λ (cpu : CpuNo). cpu.0) l.fn.order ++ rounds_of l.fn.memory.boot.cpus rounds) (map g.T.Processor.seen l.fn.processors.items) (map g.T.Processor.seen l.processors.items) (ground_of l.fn.memory l.fn.areas.items) (ground_of l.memory l.areas.items);
}

abbrev pub decreases-loop-alloc : goal.decreases-loop-alloc
decreases-loop-alloc g l = all_left (map g.T.Processor.seen l.processors.items) (ground_of l.memory l.areas.items)
