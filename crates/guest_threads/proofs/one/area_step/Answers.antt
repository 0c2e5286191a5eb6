use Rattle.std.proofs.Common.{◌≡◌, refl, sym, ◌∙◌, ap, subst, arith, OnErr}
use Rattle.std.specs.List.{insert}
use Rattle.claim_lock.specs.Seen.{GripSeen}
use Rattle.io_areas.specs.Value.{AreaValue}
use Rattle.guest_steps.specs.Steps.{AreaRoomAlone}
use Rattle.guest_threads.specs.declared.locks.Passes.{Passes}
use Rattle.guest_threads.specs.Progress.{Progresses}
use Rattle.guest_threads.proofs.HoldLemmas.{put-back}
use Rattle.guest_threads.proofs.SeatLemmas.{AreaSeat, area-ready, area-refused, area-seat, area-seated, area-stepped-may-give, area-within, gone-on}
use Rattle.guest_threads.proofs.one.area_step.Given.{Over}
use Rattle.guest_threads.proofs.one.area_step.Goals.{After-index-lock}
use Rattle.guest_threads.proofs.one.area_step.Goals as goal

-- the pass and the lock are those of the area that the next step needs
seat_of : (g : Over) (c : After-index-lock g) → AreaSeat g.T.Processor.seen g.T.Processor.stands g.T.Processor.never_fails (g.met.T.Processor g.world.𝓛 g.world.𝓜 g.world.𝓡 (λ s allowed. allowed, λ patient. patient, λ alone. alone, λ cuts. cuts)).left_standing c.args.locks.now c.args.passes c.args.processor.now c.requires.seated.left c.args.number c.index-lock.result.now c.remove-pass.result
seat_of g c =
    let laws = g.met.T.Processor g.world.𝓛 g.world.𝓜 g.world.𝓡 (λ s allowed. allowed, λ patient. patient, λ alone. alone, λ cuts. cuts) in
    area-seat g.T.Processor.seen g.T.Processor.stands g.T.Processor.never_fails laws.left_standing c.needed_area_is_there.ensures laws.told c.args.locks.now c.args.passes c.args.processor.now c.requires.seated c.args.number c.requires.need c.index-lock.result.now c.remove-pass.result c.index-lock.ensures c.remove-pass.ensures.value

pub remove-pass-requires : goal.remove-pass-requires
remove-pass-requires g c =
    let laws = g.met.T.Processor g.world.𝓛 g.world.𝓜 g.world.𝓡 (λ s allowed. allowed, λ patient. patient, λ alone. alone, λ cuts. cuts) in
    let within = area-within g.T.Processor.seen g.T.Processor.stands g.T.Processor.never_fails laws.left_standing c.needed_area_is_there.ensures laws.told c.args.locks.now c.args.passes c.args.processor.now c.requires.seated c.args.number c.requires.need in
    omega (arith, within.1, c.args.passes.areas.ok.0)

pub index-lock-requires : goal.index-lock-requires
index-lock-requires g c =
    let laws = g.met.T.Processor g.world.𝓛 g.world.𝓜 g.world.𝓡 (λ s allowed. allowed, λ patient. patient, λ alone. alone, λ cuts. cuts) in
    let within = area-within g.T.Processor.seen g.T.Processor.stands g.T.Processor.never_fails laws.left_standing c.needed_area_is_there.ensures laws.told c.args.locks.now c.args.passes c.args.processor.now c.requires.seated c.args.number c.requires.need in
    omega (arith, within.0, c.args.locks.now.areas.ok.0)

pub take-held-requires : goal.take-held-requires
take-held-requires g c =
    let seat = seat_of g (goal.at.take-held-requires g c).After-index-lock in
    seat.holds.table

pub step_area-answer-requires-clause-need : goal.step_area-answer-requires-clause-need
step_area-answer-requires-clause-need g c =
    let laws = g.met.T.Processor g.world.𝓛 g.world.𝓜 g.world.𝓡 (λ s allowed. allowed, λ patient. patient, λ alone. alone, λ cuts. cuts) in
    let s = c.requires.seated in
    let n = c.args.number in
    let lock = c.index-lock.result.now in
    let pass = c.remove-pass.result in
    let seat = seat_of g (goal.at.step_area-answer-requires-clause-need g c).After-index-lock in
    (area-ready g.T.Processor.seen g.T.Processor.stands g.T.Processor.never_fails laws.left_standing c.args.locks.now c.args.passes c.args.processor.now s n lock pass c.take-held.result.state c.state-area.result.now seat c.take-held.ensures.state c.state-area.ensures.value c.requires.need).0

pub step_area-answer-requires-clause-stands : goal.step_area-answer-requires-clause-stands
step_area-answer-requires-clause-stands g c =
    let laws = g.met.T.Processor g.world.𝓛 g.world.𝓜 g.world.𝓡 (λ s allowed. allowed, λ patient. patient, λ alone. alone, λ cuts. cuts) in
    let s = c.requires.seated in
    let n = c.args.number in
    let lock = c.index-lock.result.now in
    let pass = c.remove-pass.result in
    let seat = seat_of g (goal.at.step_area-answer-requires-clause-stands g c).After-index-lock in
    (area-ready g.T.Processor.seen g.T.Processor.stands g.T.Processor.never_fails laws.left_standing c.args.locks.now c.args.passes c.args.processor.now s n lock pass c.take-held.result.state c.state-area.result.now seat c.take-held.ensures.state c.state-area.ensures.value c.requires.need).1

pub give-pass-requires-clause-lock : goal.give-pass-requires-clause-lock
give-pass-requires-clause-lock g c =
    let seat = seat_of g (goal.at.give-pass-requires-clause-lock g c).After-index-lock in
    ap (λ (x : GripSeen AreaValue). x.table) c.take-held.ensures.grip ∙ seat.holds.table

pub give-pass-requires-clause-state : goal.give-pass-requires-clause-state
give-pass-requires-clause-state g c =
    let laws = g.met.T.Processor g.world.𝓛 g.world.𝓜 g.world.𝓡 (λ s allowed. allowed, λ patient. patient, λ alone. alone, λ cuts. cuts) in
    let s = c.requires.seated in
    let n = c.args.number in
    let lock = c.index-lock.result.now in
    let pass = c.remove-pass.result in
    let seat = seat_of g (goal.at.give-pass-requires-clause-state g c).After-index-lock in
    let step = c.step_area-answer in
    area-stepped-may-give g.T.Processor.seen g.T.Processor.stands g.T.Processor.never_fails laws.left_standing c.args.locks.now c.args.passes c.args.processor.now step.new.self s n lock pass c.take-held.result.grip c.take-held.result.state c.state-area.result.now step.new.area step.result seat
    c.take-held.ensures.grip c.state-area.ensures.value (step.ensures.event, step.ensures.refused)

pub returns : goal.returns
returns g c =
    let laws = g.met.T.Processor g.world.𝓛 g.world.𝓜 g.world.𝓡 (λ s allowed. allowed, λ patient. patient, λ alone. alone, λ cuts. cuts) in
    let s = c.requires.seated in
    let n = c.args.number in
    let lock = c.index-lock.result.now in
    let pass = c.remove-pass.result in
    let seat = seat_of g (goal.at.returns g c).After-index-lock in
    let old = c.args.processor.now in
    let step = c.step_area-answer in
    let new = step.new.self in
    let given = c.give-pass.result in
    let left : Passes = record { memory = c.args.passes.memory; areas = c.put_back.new.areas } in
    let within = area-within g.T.Processor.seen g.T.Processor.stands g.T.Processor.never_fails laws.left_standing c.needed_area_is_there.ensures laws.told c.args.locks.now c.args.passes old s n c.requires.need in
    let areas = c.put_back.ensures ∙ ap (λ l. insert l n given) c.remove-pass.ensures.items ∙ put-back c.args.passes.areas.items n given within.1 in
    let seated =
    area-seated g.T.Processor.seen g.T.Processor.stands g.T.Processor.never_fails laws.left_standing c.args.locks.now c.args.passes left old new s n lock pass given c.take-held.result.grip c.take-held.result.state c.state-area.result.now step.new.area step.result seat c.take-held.ensures.grip c.take-held.ensures.state c.state-area.ensures.value
    (step.ensures.event, step.ensures.refused) step.ensures.never_fails_kept step.ensures.stands c.give-pass.ensures.lock c.give-pass.ensures.known refl areas in
    subst (Progresses g.T.Processor.seen g.T.Processor.stands g.T.Processor.never_fails c.args.locks.now old new) (sym c.gone_on.ensures)
    (gone-on g.T.Processor.seen g.T.Processor.stands g.T.Processor.never_fails c.args.locks.now left old new step.result seated.0 seated.1
    (λ refusal is.
    area-refused (g.T.Processor.seen old) (g.T.Processor.seen new) c.args.passes left n pass given c.take-held.result.grip.known c.take-held.result.grip.taken c.state-area.result.now step.new.area refusal c.requires.need seat.got_pass areas c.give-pass.ensures.known
    (subst (λ r. OnErr r ((g.T.Processor.seen new ≡ g.T.Processor.seen old) × AreaRoomAlone c.state-area.result.now step.new.area)) is step.ensures.refused) (λ stamp e. step.ensures.worn stamp (is ∙ e))))
