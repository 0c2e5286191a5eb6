use Rattle.std.proofs.Common.{refl, ap, ◌∙◌, arith}
use Rattle.guest_base.proofs.RangeLemmas.{in_range-intro}
use Rattle.event_core.specs.declared.event.Event.TheVariants.{Released}
use Rattle.event_core.specs.Legal.{greatest_stamp}
use Rattle.pool_laws.specs.Live.{is_live, live_of}
use Rattle.pool_laws.proofs.LiveLemmas.{mine-in-area, mine-used}
use Rattle.io_areas.specs.Transfers.{bare_by}
use Rattle.io_areas.specs.Value.{AreaValue}
use Rattle.io_areas.proofs.StepLemmas.{area-freed}
use Rattle.io_areas.proofs.area.Area.end.Goals as goal

pub release-requires-clause-some : goal.release-requires-clause-some
release-requires-clause-some c =
    let i = c.self.inside in
    let cpu = c.args.turn.now.cpu.0 in
    let mine = ap (λ (a : AreaValue). is_live c.args.run (live_of cpu a.moved)) c.self.view_is ∙ c.requires.mine in
    (mine-in-area i.number i.count cpu i.transfers.moved c.args.run c.self.invariant.mappings mine).some

pub release-requires-clause-segment : goal.release-requires-clause-segment
release-requires-clause-segment c =
    let i = c.self.inside in
    let cpu = c.args.turn.now.cpu.0 in
    let mine = ap (λ (a : AreaValue). is_live c.args.run (live_of cpu a.moved)) c.self.view_is ∙ c.requires.mine in
    (mine-in-area i.number i.count cpu i.transfers.moved c.args.run c.self.invariant.mappings mine).segment

pub release-requires-clause-inside : goal.release-requires-clause-inside
release-requires-clause-inside c =
    let i = c.self.inside in
    let cpu = c.args.turn.now.cpu.0 in
    let mine = ap (λ (a : AreaValue). is_live c.args.run (live_of cpu a.moved)) c.self.view_is ∙ c.requires.mine in
    let inside = (mine-in-area i.number i.count cpu i.transfers.moved c.args.run c.self.invariant.mappings mine).inside in
    let count = c.self.invariant.slots_stand.count in
    omega (arith, inside, count)

pub release-requires-clause-used : goal.release-requires-clause-used
release-requires-clause-used c = λ slot within.
    let i = c.self.inside in
    let cpu = c.args.turn.now.cpu.0 in
    let run = c.args.run in
    let stand = c.self.invariant in
    let mine = ap (λ (a : AreaValue). is_live run (live_of cpu a.moved)) c.self.view_is ∙ c.requires.mine in
    let inside = (mine-in-area i.number i.count cpu i.transfers.moved run stand.mappings mine).inside in
    let high = within.1 in
    stand.slots_stand.used slot (omega (arith, inside, high))
    ∙ mine-used i.number i.count cpu i.transfers.moved run slot stand.mappings mine (in_range-intro run.first run.count slot within.0 high)

pub invariant_of-self : goal.invariant_of-self
invariant_of-self c =
    let i = c.self.inside in
    let turn = c.args.turn.now in
    let run = c.args.run in
    let m = bare_by i.number (greatest_stamp i.transfers.moved) turn (Released run c.args.copied) c.args.bytes.now in
    let mine = ap (λ (a : AreaValue). is_live run (live_of turn.cpu.0 a.moved)) c.self.view_is ∙ c.requires.mine in
    area-freed i.number i.count i.slots c.release.new.self i.bytes.items i.transfers.moved c.append.new.self.moved m run c.args.copied c.append.ensures.moved refl mine
    c.release.ensures.count c.release.ensures.used c.release.ensures.hint c.self.invariant
