use Rattle.std.proofs.Common.{◌≡◌, Ok, true, ◌∙◌, ap}
use Rattle.guest_steps.specs.Ground.{ground_of}
use Rattle.guest_turns.proofs.TurnLemmas.{memory-one_turn}
use Rattle.guest_turns.proofs.turn.with_memory.Goals as goal

pub returns-in-Ok-Event : goal.returns-in-Ok-Event
returns-in-Ok-Event g c areas stands =
    let laws = g.met.T.Processor g.world.𝓛 g.world.𝓜 g.world.𝓡 (λ s allowed. allowed, λ patient. patient, λ alone. alone, λ cuts. cuts) in
    let base = ground_of c.args.memory.now areas in
    let stood = c.work.ensures.stands base stands in
    memory-one_turn g.T.Processor.seen g.T.Processor.stands g.T.Processor.never_fails c.args.processor.now c.work.new.self c.step_memory.new.self c.args.memory.now c.step_memory.new.memory areas
    (laws.told c.work.new.self base stood) c.requires.need (c.step_memory.ensures.stands areas stood) c.work.ensures.works
    (c.step_memory.ensures.event (c.in-Ok-Event.is ∙ ap Ok c.in-Ok-Event.field-0-is))
    (λ never. c.step_memory.ensures.never_fails_kept (c.work.ensures.never_fails_kept never))
