use Rattle.std.proofs.Common.{◌≡◌, List, ap, refl, subst, sym, ◌∙◌}
use Rattle.event_core.specs.Holdings.{Own}
use Rattle.event_core.specs.Own.{replied}
use Rattle.std.specs.Prelude.{Some, slice_get}
use Rattle.event_core.specs.declared.entry.Turn.{Turn}
use Rattle.event_core.specs.Moved.{Moved}
use Rattle.guest_cpu.specs.Alone.{EndsAlone, alone_reply}
use Rattle.guest_cpu.specs.Made.{turn_of}
use Rattle.guest_cpu.specs.Progressing.{Progressed, command_of}
use Rattle.guest_cpu.specs.contracts.progress.Progress.{the_view}
use Rattle.guest_cpu.proofs.KeptLemmas.{few-ended, keeps-alone, keeps-room, written-looks}
use Rattle.guest_cpu.proofs.NeedLemmas.{alone-made, is-alone, read-present}
use Rattle.guest_cpu.proofs.progress.Progress.step_alone.Goals as goal
use Rattle.held_blocks.specs.Holdings.{own_in as own_held}

pub invariant_of-self-in-Err : goal.invariant_of-self-in-Err
invariant_of-self-in-Err c =
    let p = c.self.inside in
    keeps-room p.boot.value p.hosts p.script p.made c.reserve.new.self p.held c.answer.new.held p.open_run p.later.items c.self.invariant c.reserve.ensures.moved c.reserve.ensures.room c.in-Err.ensures.err c.in-Err.ensures.layout

pub invariant_of-self-2 : goal.invariant_of-self-2
invariant_of-self-2 c =
    let p = c.self.inside in
    let a = is-alone c.args.self.now c.requires.need in
    let rests = ap (λ (x : Progressed). x.out) c.self.view_is ∙ a.rests in
    let same = c.reserve.ensures.moved in
    let number = c.replies.ensures ∙ ap (λ (ms : List Moved). replied ms) same in
    let now = read-present (the_view p) a.present c.get-command.result.now c.replies.result (ap (λ (x : Progressed). command_of x) c.self.view_is ∙ a.is) number c.get-command.ensures in
    let cmd = c.turn-turn.ensures ∙ ap (turn_of p.number.0) same in
    let k = c.self.invariant in
    let layout = c.in-Ok.ensures.layout in
    let few = few-ended p.held c.answer.new.held (Some c.in-Ok.reply) _ k.laid_out k.looks layout (written-looks c.get-command.result.now (Some c.in-Ok.reply) (own_held p.held)) (c.in-Ok.ensures.held c.in-Ok.reply refl) in
    keeps-alone p.boot.value p.hosts p.script p.made c.reserve.new.self c.add_bare.new.self p.held c.answer.new.held p.open_run p.later.items _ c.get-command.result.now k rests layout few same c.add_bare.ensures.moved
    (ap (λ (t : Turn). slice_get p.script t.cmd) cmd ∙ now) refl (c.in-Ok.ensures.held c.in-Ok.reply refl)

pub returns-clause-ends : goal.returns-clause-ends
returns-clause-ends c =
    let p = c.self.inside in
    let old : Progressed = the_view p in
    let new : Progressed = the_view (record p { made = c.add_bare.new.self; held = c.answer.new.held }) in
    let R : Progressed → Type 0 = λ v. EndsAlone v new in
    let a = is-alone c.args.self.now c.requires.need in
    let same = c.reserve.ensures.moved in
    let number = c.replies.ensures ∙ ap (λ (ms : List Moved). replied ms) same in
    let now = read-present old a.present c.get-command.result.now c.replies.result (ap (λ (x : Progressed). command_of x) c.self.view_is ∙ a.is) number c.get-command.ensures in
    let A : Own → Type 0 = λ own. alone_reply p.boot.value own c.get-command.result.now ≡ Some c.in-Ok.reply in
    subst R c.self.view_is
    (alone-made old c.turn-turn.result c.get-command.result.now c.in-Ok.reply c.reserve.new.self.moved c.add_bare.new.self.moved c.add_bare.new.self.room now
    (subst A (sym c.self.invariant.holds) (c.in-Ok.ensures.reply p.boot.value c.in-Ok.reply c.self.invariant.pool refl)) same c.turn-turn.ensures c.add_bare.ensures.moved)
