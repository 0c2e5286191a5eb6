use Rattle.std.proofs.Common.{Some, ap, refl, sym, ◌∙◌}
use Rattle.event_core.specs.declared.command.Command.TheVariants.{Query}
use Rattle.event_core.specs.declared.reply.Reply.TheVariants as reply
use Rattle.held_blocks.specs.Holdings.{own_in as own_held}
use Rattle.guest_cpu.specs.Progressing.{Progressed, command_of}
use Rattle.guest_cpu.proofs.KeptLemmas.{few-ended, keeps-told, turned-present}
use Rattle.guest_cpu.proofs.progress.Progress.query.Goals as goal

pub invariant_of-self : goal.invariant_of-self
invariant_of-self c =
    let p = c.self.inside in
    let added = c.add_there.ensures in
    let now = ap (λ (x : Progressed). command_of x) c.self.view_is ∙ c.requires.command in
    let rests = ap (λ (x : Progressed). x.out) c.self.view_is ∙ c.requires.may.rests in
    let k = c.self.invariant in
    let layout = added.held.layout in
    keeps-told p.boot.value p.hosts p.script p.made c.add_there.new.made p.held c.add_there.new.held p.open_run p.later.items _ (Query c.args.start c.args.len) k rests layout (few-ended p.held c.add_there.new.held (Some (reply.Query c.query-found.result)) (own_held p.held) k.laid_out k.looks layout refl added.held.own) added.moved
    (turned-present p.script p.number.0 _ p.made.moved c.turn-turn.result c.query-found.new.turn (Query c.args.start c.args.len) c.turn-turn.ensures c.query-found.ensures.appends.clock now) (sym added.held.own)
