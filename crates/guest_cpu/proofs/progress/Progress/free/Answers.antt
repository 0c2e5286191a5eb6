use Rattle.std.proofs.Common.{Some, ap, subst, sym, ◌∙◌}
use Rattle.std.specs.Prelude.{◌≡◌, false}
use Rattle.std.specs.Option.{ForSome}
use Rattle.event_core.specs.declared.command.Command.TheVariants.{Free}
use Rattle.event_core.specs.declared.reply.Reply.TheVariants.{Done}
use Rattle.event_core.specs.Holdings.{Holding, Own, block_named, is_mapped}
use Rattle.event_core.specs.Own.{ended}
use Rattle.guest_cpu.specs.Progressing.{Progressed, command_of, own_in}
use Rattle.guest_cpu.proofs.KeptLemmas.{few-ended, keeps-told, turned-present}
use Rattle.held_blocks.specs.Holdings.{own_in as own_held}
use Rattle.held_blocks.proofs.UnrefusedLemmas.{unrefused-unmapped}
use Rattle.guest_cpu.proofs.progress.Progress.free.Goals as goal

pub invariant_of-self : goal.invariant_of-self
invariant_of-self c =
    let p = c.self.inside in
    let added = c.add_there.ensures in
    let now = ap (λ (x : Progressed). command_of x) c.self.view_is ∙ c.requires.command in
    let rests = ap (λ (x : Progressed). x.out) c.self.view_is ∙ c.requires.may.rests in
    let k = c.self.invariant in
    let layout = added.held.layout ∙ c.freed.ensures.layout in
    let behind = added.held.own ∙ ap (λ (o : Own). ended (Some Done) o) c.freed.ensures.own in
    keeps-told p.boot.value p.hosts p.script p.made c.add_there.new.made p.held c.add_there.new.held p.open_run p.later.items _ (Free c.args.name.now) k rests layout (few-ended p.held c.add_there.new.held (Some Done) (own_held c.freed.new.self) k.laid_out k.looks layout (ap (λ (o : Own). o.looks) c.freed.ensures.own) added.held.own) added.moved
    (turned-present p.script p.number.0 _ p.made.moved c.turn-turn.result c.free.new.turn (Free c.args.name.now) c.turn-turn.ensures c.free.ensures.appends.clock now) (sym behind)

pub freed-requires : goal.freed-requires
freed-requires c =
    let name = c.args.name.now in
    let U : Own → Type 0 = λ o. ForSome (block_named o name) (λ (h : Holding). is_mapped o h.block ≡ false) in
    let F : Progressed → Type 0 = λ p. U (own_in p) in
    subst U c.self.invariant.holds (subst F (sym c.self.view_is) (unrefused-unmapped c.args.self.now.boot (own_in c.args.self.now) name c.requires.fine))
