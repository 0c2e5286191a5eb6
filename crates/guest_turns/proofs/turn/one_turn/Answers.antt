use Rattle.std.proofs.Common.{◌≡◌, ◌<◌, Ok, Err, true, set, refl, sym, ◌∙◌, ap, subst, arith}
use Rattle.std.proofs.lemmas.Option.{slice_get_read}
use Rattle.io_areas.specs.Value.{AreaValue}
use Rattle.guest_steps.specs.Ground.{ground_of}
use Rattle.guest_steps.specs.Standing.{Stands}
use Rattle.guest_turns.specs.Walks.{OneTurn}
use Rattle.guest_turns.proofs.TurnLemmas.{AreaAt, area-at, area-one_turn, area-refused, err-any, needed-within, own-one_turn}
use Rattle.guest_turns.proofs.turn.one_turn.Given.{Over}
use Rattle.guest_turns.proofs.turn.one_turn.Goals.{After-index_mut}
use Rattle.guest_turns.proofs.turn.one_turn.Goals as goal

-- ---- what holds on the way

-- the processor stands before its turn
standing : (g : Over) (c : After-index_mut g) → Stands (g.T.Processor.seen c.args.processor.now) (ground_of c.args.memory.now c.args.areas.now.items)
standing g c =
    let laws = g.met.T.Processor g.world.𝓛 g.world.𝓜 g.world.𝓡 (λ s allowed. allowed, λ patient. patient, λ alone. alone, λ cuts. cuts) in
    laws.told c.args.processor.now (ground_of c.args.memory.now c.args.areas.now.items) c.requires.stands

-- the area is the one that its next step needs
needed : (g : Over) (c : After-index_mut g) → AreaAt (g.T.Processor.seen c.args.processor.now) (ground_of c.args.memory.now c.args.areas.now.items) c.in-Area.number c.index_mut.result.now
needed g c =
    let seen = g.T.Processor.seen in
    let base = ground_of c.args.memory.now c.args.areas.now.items in
    let old = c.args.processor.now in
    let needs = sym c.next_need.ensures ∙ c.in-Area.is in
    let within = needed-within (seen old) base c.in-Area.number (standing g c) needs in
    area-at (seen old) base c.in-Area.number c.index_mut.result.now (standing g c) needs
    (slice_get_read c.args.areas.now.items _ c.in-Area.number c.index_mut.result.now refl within c.index_mut.ensures.value)

-- ---- the goals

pub index_mut-requires : goal.index_mut-requires
index_mut-requires g c =
    let laws = g.met.T.Processor g.world.𝓛 g.world.𝓜 g.world.𝓡 (λ s allowed. allowed, λ patient. patient, λ alone. alone, λ cuts. cuts) in
    let base = ground_of c.args.memory.now c.args.areas.now.items in
    let within = needed-within (g.T.Processor.seen c.args.processor.now) base c.in-Area.number (laws.told c.args.processor.now base c.requires.stands) (sym c.next_need.ensures ∙ c.in-Area.is) in
    omega (arith, within, c.args.areas.now.ok.0)

pub in_area-requires-clause-need : goal.in_area-requires-clause-need
in_area-requires-clause-need g c κs w = (needed g (goal.at.in_area-requires-clause-need g c).After-index_mut).needs

pub in_area-requires-clause-stands : goal.in_area-requires-clause-stands
in_area-requires-clause-stands g c κs w =
    let a = needed g (goal.at.in_area-requires-clause-stands g c).After-index_mut in
    (ground_of c.args.memory.now c.args.areas.now.items, a.has, c.requires.stands)

pub in_area-requires-clause-stamps : goal.in_area-requires-clause-stamps
in_area-requires-clause-stamps g c κs w =
    let a = needed g (goal.at.in_area-requires-clause-stamps g c).After-index_mut in
    c.requires.stamps.areas c.index_mut.result.now a.has

pub returns-in_err-in_area-in-Area : goal.returns-in_err-in_area-in-Area
returns-in_err-in_area-in-Area g c =
    let seen = g.T.Processor.seen in
    let base = ground_of c.args.memory.now c.args.areas.now.items in
    let old = c.args.processor.now in
    let before = (goal.at.returns-in_err-in_area-in-Area g c).After-index_mut in
    let a = needed g before in
    let e = c.in_err-in_area-in-Area.ensures in
    let after = c.in_area.new.area in
    let refused = e.refused in
    err-any c.from_residual.result c.from_residual.ensures.0
    (λ r. OneTurn seen g.T.Processor.stands g.T.Processor.never_fails r old c.in_area.new.processor base (ground_of c.args.memory.now (set c.args.areas.now.items c.in-Area.number after)))
    (λ error.
    subst (λ k. OneTurn seen g.T.Processor.stands g.T.Processor.never_fails (Err error) old c.in_area.new.processor base (ground_of c.args.memory.now (set c.args.areas.now.items k after))) (refused.1.number ∙ a.number)
    (area-refused seen g.T.Processor.stands g.T.Processor.never_fails old c.in_area.new.processor base c.index_mut.result.now after error (standing g before) a.has a.needs
    (c.in_area.ensures.stands base a.has c.requires.stands) refused.0 refused.1 c.in_area.ensures.never_fails))

pub returns-in_ok-in_area-in-Area : goal.returns-in_ok-in_area-in-Area
returns-in_ok-in_area-in-Area g c =
    let seen = g.T.Processor.seen in
    let base = ground_of c.args.memory.now c.args.areas.now.items in
    let old = c.args.processor.now in
    let before = (goal.at.returns-in_ok-in_area-in-Area g c).After-index_mut in
    let a = needed g before in
    let event = c.in_ok-in_area-in-Area.ensures.event in
    let after = c.in_area.new.area in
    subst (λ k. OneTurn seen g.T.Processor.stands g.T.Processor.never_fails (Ok true) old c.in_area.new.processor base (ground_of c.args.memory.now (set c.args.areas.now.items k after))) (event.number ∙ a.number)
    (area-one_turn seen g.T.Processor.stands g.T.Processor.never_fails old c.in_area.new.processor base c.index_mut.result.now after (standing g before) a.has a.needs
    (c.in_area.ensures.stands base a.has c.requires.stands) event c.in_area.ensures.never_fails)

pub returns-in_ok-alone-in-Own : goal.returns-in_ok-alone-in-Own
returns-in_ok-alone-in-Own g c =
    let laws = g.met.T.Processor g.world.𝓛 g.world.𝓜 g.world.𝓡 (λ s allowed. allowed, λ patient. patient, λ alone. alone, λ cuts. cuts) in
    let base = ground_of c.args.memory.now c.args.areas.now.items in
    own-one_turn g.T.Processor.seen g.T.Processor.stands g.T.Processor.never_fails c.args.processor.now c.alone.new.processor base
    (laws.told c.args.processor.now base c.requires.stands) (sym c.next_need.ensures ∙ c.in-Own.is) (c.alone.ensures.stands base c.requires.stands) c.in_ok-alone-in-Own.ensures.event c.alone.ensures.never_fails
