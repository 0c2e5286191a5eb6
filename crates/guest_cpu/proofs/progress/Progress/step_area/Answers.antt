use Rattle.std.proofs.Common.{refl, subst}
use Rattle.guest_cpu.specs.Accessing.{StepsArea}
use Rattle.guest_cpu.specs.Progressing.{Progressed}
use Rattle.guest_cpu.specs.contracts.progress.Progress.{the_view}
use Rattle.guest_cpu.proofs.VisitLemmas.{keeps-there, reaches, same-number, steps-there}
use Rattle.guest_cpu.proofs.progress.Progress.step_area.Goals as goal

pub access-requires-clause-may : goal.access-requires-clause-may
access-requires-clause-may c =
    let p = c.self.inside in
    let k = c.self.invariant in
    let r = reaches c.args.self.now (the_view p) p.held c.args.area.now c.reserve.new.self.moved c.turn-turn.result c.get-command.result.now c.replies.result c.self.view_is c.requires.need c.requires.may k.holds k.readable
    c.reserve.ensures.moved c.turn-turn.ensures c.replies.ensures c.get-command.ensures in
    (p.boot.value, k.pool, k.laid_out, k.looks, r.may)

pub invariant_of-self-2 : goal.invariant_of-self-2
invariant_of-self-2 c =
    let p = c.self.inside in
    let area = c.args.area.now in
    let k = c.self.invariant in
    let r = reaches c.args.self.now (the_view p) p.held area c.reserve.new.self.moved c.turn-turn.result c.get-command.result.now c.replies.result c.self.view_is c.requires.need c.requires.may k.holds k.readable
    c.reserve.ensures.moved c.turn-turn.ensures c.replies.ensures c.get-command.ensures in
    let is = same-number c.args.self.now c.needed_area-number.result area.number c.needed_area-number.ensures c.requires.need in
    let step = c.in_ok-step.step in
    keeps-there p.boot.value p.held c.access.new.held area c.access.new.area c.turn-turn.result c.access.new.turn c.get-command.result.now step.event step.reply step.bytes (c.in_ok-step.ensures.made p.boot.value k.pool r.may)
    p.hosts p.script p.made c.reserve.new.self c.add_at.new.self c.end_looks.new.held p.open_run p.later.items p.number.0 c.needed_area-number.result k r.rests r.may.fine r.now c.reserve.ensures.moved c.turn-turn.ensures is
    c.access.ensures.layout c.end_looks.ensures.layout c.end_looks.ensures.own c.add_at.ensures.moved

pub returns-clause-steps : goal.returns-clause-steps
returns-clause-steps c =
    let p = c.self.inside in
    let old : Progressed = the_view p in
    let area = c.args.area.now in
    let new : Progressed = the_view (record p { made = c.add_at.new.self; held = c.end_looks.new.held }) in
    let R : Progressed → Type 0 = λ v. StepsArea v new area c.access.new.area in
    let k = c.self.invariant in
    let r = reaches c.args.self.now old p.held area c.reserve.new.self.moved c.turn-turn.result c.get-command.result.now c.replies.result c.self.view_is c.requires.need c.requires.may k.holds k.readable
    c.reserve.ensures.moved c.turn-turn.ensures c.replies.ensures c.get-command.ensures in
    let is = same-number c.args.self.now c.needed_area-number.result area.number c.needed_area-number.ensures c.requires.need in
    let step = c.in_ok-step.step in
    subst R c.self.view_is
    (steps-there p.boot.value p.held c.access.new.held area c.access.new.area c.turn-turn.result c.access.new.turn c.get-command.result.now step.event step.reply step.bytes (c.in_ok-step.ensures.made p.boot.value k.pool r.may)
    old c.reserve.new.self.moved c.add_at.new.self.moved c.needed_area-number.result c.add_at.new.self.room refl k.holds r.now c.reserve.ensures.moved c.turn-turn.ensures is c.add_at.ensures.moved)
