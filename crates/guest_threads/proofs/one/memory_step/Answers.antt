use Rattle.guest_threads.proofs.SeatLemmas.{refused-ended, stepped-may-give, stepped-seated, worked-found}
use Rattle.guest_threads.proofs.one.memory_step.Goals as goal

pub step_memory-stepped-requires-clause-stands : goal.step_memory-stepped-requires-clause-stands
step_memory-stepped-requires-clause-stands g c = (
  c.requires.seated.left.areas,
  worked-found g.T.Processor.seen g.T.Processor.stands g.T.Processor.never_fails
      (g.met.T.Processor g.world.𝓛 g.world.𝓜 g.world.𝓡 ((λ s x. x), (λ x. x), (λ x. x), λ x. x)).left_standing
      c.args.locks.now c.args.passes c.args.processor.now c.work.new.self c.take-held.result.state c.state-memory.result.now c.requires.seated c.work.ensures.works c.work.ensures.stands c.take-held.ensures.state c.state-memory.ensures.value c.show_rising.ensures.waiting,
)

pub give-memory-requires-clause-state : goal.give-memory-requires-clause-state
give-memory-requires-clause-state g c =
    stepped-may-give g.T.Processor.seen g.T.Processor.stands g.T.Processor.never_fails
    (g.met.T.Processor g.world.𝓛 g.world.𝓜 g.world.𝓡 ((λ s x. x), (λ x. x), (λ x. x), λ x. x)).left_standing
    c.args.locks.now c.args.passes c.args.processor.now c.work.new.self c.step_memory-stepped.new.self c.take-held.result.grip c.take-held.result.state c.state-memory.result.now c.step_memory-stepped.new.memory
    c.step_memory-stepped.result c.requires.seated c.work.ensures.works c.take-held.ensures.grip c.state-memory.ensures.value
    (c.step_memory-stepped.ensures.event, c.step_memory-stepped.ensures.blocked, c.step_memory-stepped.ensures.refused)

pub returns-in-Ok-Event : goal.returns-in-Ok-Event
returns-in-Ok-Event g c =
    stepped-seated g.T.Processor.seen g.T.Processor.stands g.T.Processor.never_fails
    (g.met.T.Processor g.world.𝓛 g.world.𝓜 g.world.𝓡 ((λ s x. x), (λ x. x), (λ x. x), λ x. x)).left_standing
    c.args.locks.now c.args.passes c.give-memory.result c.args.processor.now c.work.new.self c.step_memory-stepped.new.self c.take-held.result.grip c.take-held.result.state c.state-memory.result.now c.step_memory-stepped.new.memory
    c.step_memory-stepped.result c.requires.seated c.work.ensures.works c.work.ensures.stands c.work.ensures.never_fails_kept c.take-held.ensures.grip c.take-held.ensures.state c.state-memory.ensures.value c.show_rising.ensures.waiting
    (c.step_memory-stepped.ensures.event, c.step_memory-stepped.ensures.blocked, c.step_memory-stepped.ensures.refused) c.step_memory-stepped.ensures.never_fails_kept c.step_memory-stepped.ensures.stands
    c.give-memory.ensures.lock c.give-memory.ensures.known

pub returns-in-Ok-Blocked : goal.returns-in-Ok-Blocked
returns-in-Ok-Blocked g c =
    stepped-seated g.T.Processor.seen g.T.Processor.stands g.T.Processor.never_fails
    (g.met.T.Processor g.world.𝓛 g.world.𝓜 g.world.𝓡 ((λ s x. x), (λ x. x), (λ x. x), λ x. x)).left_standing
    c.args.locks.now c.args.passes c.give-memory.result c.args.processor.now c.work.new.self c.step_memory-stepped.new.self c.take-held.result.grip c.take-held.result.state c.state-memory.result.now c.step_memory-stepped.new.memory
    c.step_memory-stepped.result c.requires.seated c.work.ensures.works c.work.ensures.stands c.work.ensures.never_fails_kept c.take-held.ensures.grip c.take-held.ensures.state c.state-memory.ensures.value c.show_rising.ensures.waiting
    (c.step_memory-stepped.ensures.event, c.step_memory-stepped.ensures.blocked, c.step_memory-stepped.ensures.refused) c.step_memory-stepped.ensures.never_fails_kept c.step_memory-stepped.ensures.stands
    c.give-memory.ensures.lock c.give-memory.ensures.known

pub returns-in-Err : goal.returns-in-Err
returns-in-Err g c =
    let seated = stepped-seated g.T.Processor.seen g.T.Processor.stands g.T.Processor.never_fails
    (g.met.T.Processor g.world.𝓛 g.world.𝓜 g.world.𝓡 ((λ s x. x), (λ x. x), (λ x. x), λ x. x)).left_standing
    c.args.locks.now c.args.passes c.give-memory.result c.args.processor.now c.work.new.self c.step_memory-stepped.new.self c.take-held.result.grip c.take-held.result.state c.state-memory.result.now c.step_memory-stepped.new.memory
    c.step_memory-stepped.result c.requires.seated c.work.ensures.works c.work.ensures.stands c.work.ensures.never_fails_kept c.take-held.ensures.grip c.take-held.ensures.state c.state-memory.ensures.value c.show_rising.ensures.waiting
    (c.step_memory-stepped.ensures.event, c.step_memory-stepped.ensures.blocked, c.step_memory-stepped.ensures.refused) c.step_memory-stepped.ensures.never_fails_kept c.step_memory-stepped.ensures.stands
    c.give-memory.ensures.lock c.give-memory.ensures.known
    in (
      seated.0,
      seated.1,
      refused-ended (g.T.Processor.seen c.work.new.self) (g.T.Processor.seen c.step_memory-stepped.new.self) (record { memory = c.give-memory.result; areas = c.args.passes.areas }) c.take-held.result.grip.known c.take-held.result.grip.taken c.state-memory.result.now c.step_memory-stepped.new.memory c.in-Err.refusal
          c.give-memory.ensures.known c.in-Err.ensures.refused c.in-Err.ensures.worn,
    )
