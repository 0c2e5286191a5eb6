use Rattle.std.proofs.Common.{Option, arith, ap, refl, sym, subst}
use Rattle.std.specs.Option.{ForSome}
use Rattle.dma_map.specs.Pools.{HasPool, IsLayout}
use Rattle.dma_map.specs.declared.pool.Layout.{Layout}
use Rattle.std.specs.Prelude.{All}
use Rattle.held_blocks.specs.Holdings.{own_in as own_held}
use Rattle.guest_cpu.specs.Kept.{HasRoom}
use Rattle.guest_cpu.specs.Progressing.{Progressed}
use Rattle.guest_cpu.proofs.KeptLemmas.{few-ended, opens-keep}
use Rattle.guest_cpu.proofs.OwnLemmas.{claim-holds}
use Rattle.guest_cpu.proofs.progress.Progress.claim.Goals as goal

pub invariant_of-self : goal.invariant_of-self
invariant_of-self c =
    let A : Progressed → Type 0 = λ p. All (HasRoom p.boot) c.args.rooms.items in
    let room = ap (λ (p : Progressed). p.room) c.self.view_is in
    let added = c.add_there.ensures in
    let more = added.room in
    let fits = c.requires.room in
    let layout = added.held.layout in
    let i = c.self.inside in
    let L : Option Layout → Type 0 = λ l. HasPool i.boot.value l in
    let I : Option Layout → Type 0 = λ l. ForSome l IsLayout in
    let k = c.self.invariant in
    let holds = claim-holds i.script i.made.moved c.add_there.new.made.moved c.args.turn c.args.block c.args.units c.go_on-run.result c.reply_of_claim-reply.result i.held c.add_there.new.held k.holds c.reply_of_claim-reply.ensures added.held.own added.moved in
    opens-keep i.boot.value i.hosts i.script c.add_there.new.made c.add_there.new.held c.args.span c.args.rooms.items c.go_on-run.new.open_run c.go_on-run.new.later.items c.go_on-run.result
    k.same_hosts (subst L (sym layout) k.pool) (subst I (sym layout) k.laid_out) (few-ended i.held c.add_there.new.held c.reply_of_claim-reply.result (own_held i.held) k.laid_out k.looks layout refl added.held.own) k.unconverting k.readable holds (omega (arith, room, more, fits)) (subst A (sym c.self.view_is) c.requires.rooms) c.go_on-run.ensures
