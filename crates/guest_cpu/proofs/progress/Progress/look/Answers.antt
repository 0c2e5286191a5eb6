use Rattle.std.proofs.Common.{◌≡◌, ◌*◌, None, Some, List, true, arith, ap, refl, sym, subst, ◌∙◌, map, slice_get}
use Rattle.std.specs.Prelude.{All}
use Rattle.guest_base.specs.declared.memory.Block.{Block}
use Rattle.event_core.specs.declared.command.Command.TheVariants as command
use Rattle.event_core.specs.declared.event.Event.TheVariants as event
use Rattle.event_core.specs.declared.reply.Reply.TheVariants as reply
use Rattle.event_core.specs.Holdings.{Holding, Own, block_named}
use Rattle.held_blocks.proofs.UnrefusedLemmas.{unrefused-alloc}
use Rattle.memory_core.specs.Owners.{is_owner}
use Rattle.guest_cpu.specs.Kept.{runs_in}
use Rattle.guest_cpu.specs.Looking.{LooksFor}
use Rattle.guest_cpu.specs.Progressing.{Progressed, command_of, own_in}
use Rattle.guest_cpu.specs.contracts.progress.Progress.{the_view}
use Rattle.guest_cpu.proofs.KeptLemmas.{few-ended, keeps-at-rest, keeps-room}
use Rattle.guest_cpu.proofs.LookLemmas.{claimed-looks, cleared-looks, flight-looks, got-appends, got-holds, got-looks, got-place, got-unheld, none-appends, none-holds, none-looks, stopped-looks, turned-now}
use Rattle.guest_cpu.proofs.progress.Progress.look.Goals as goal
use Rattle.held_blocks.specs.Holdings.{own_in as own_held}

pub got-requires-clause-memory : goal.got-requires-clause-memory
got-requires-clause-memory c = got-place c.args.memory.now c.alloc_look.new.self c.args.order c.in-Got.block c.in-Got.ensures.looked

pub got-requires-clause-other : goal.got-requires-clause-other
got-requires-clause-other c =
    let i = c.self.inside in
    let es = c.args.memory.now.entries in
    let owns = λ (hs : List Holding). All (λ (b : Block). is_owner es i.number.0 b ≡ true) (map (λ (h : Holding). h.block) hs) in
    let A : Progressed → Type 0 = λ p. All (λ (b : Block). is_owner es p.number b ≡ true) (map (λ (h : Holding). h.block) (own_in p).blocks) in
    let B : Own → Type 0 = λ o. owns o.blocks in
    let all = subst B (sym c.in_ok-reserve_block.ensures.same.own) (subst B c.self.invariant.holds (subst A (sym c.self.view_is) c.requires.owned)) in
    got-unheld es i.number.0 c.in-Got.block _ (c.in-Got.ensures.looked.fresh i.number.0) all

pub got-requires-clause-fresh : goal.got-requires-clause-fresh
got-requires-clause-fresh c =
    let F : Progressed → Type 0 = λ p. block_named (own_in p) c.args.name ≡ None in
    let N : Own → Type 0 = λ o. block_named o c.args.name ≡ None in
    subst N (sym c.in_ok-reserve_block.ensures.same.own) (subst N c.self.invariant.holds (subst F (sym c.self.view_is) (unrefused-alloc c.args.self.now.boot (own_in c.args.self.now) c.args.name c.args.order c.requires.fine)))

pub overflow_mul-reply : goal.overflow_mul-reply
overflow_mul-reply c =
    let place = got-place c.args.memory.now c.alloc_look.new.self c.args.order c.in-Got.block c.in-Got.ensures.looked in
    let end = place.end in
    omega (arith, end)

pub invariant_of-self-in-Got-1 : goal.invariant_of-self-in-Got-1
invariant_of-self-in-Got-1 c =
    let i = c.self.inside in
    let k = c.self.invariant in
    let added = c.add_there.ensures in
    let reserved = c.in_ok-reserve_block.ensures.same in
    let turned = c.alloc_look.new.turn in
    let R : Progressed → Type 0 = λ p. p.out ≡ None in
    let C : Progressed → Type 0 = λ p. command_of p ≡ Some (command.Alloc c.args.name c.args.order) in
    let appends = got-appends c.args.memory.now c.alloc_look.new.self c.turn-turn.result turned c.args.order c.in-Got.ensures.looks c.in-Got.block c.in-Got.ensures.looked in
    let number = turned-now c.args.memory.now c.alloc_look.new.self c.turn-turn.result turned (event.Got c.in-Got.block) i.number.0 i.made.moved c.turn-turn.ensures appends in
    let now = ap (slice_get i.script) number ∙ subst C (sym c.self.view_is) c.requires.command in
    let layout = added.held.layout ∙ c.got.ensures.layout ∙ reserved.layout in
    let holds = got-holds i.script i.made.moved c.add_there.new.made.moved turned c.args.name c.args.order c.in-Got.block (reply.Addr (4096 * c.in-Got.block.first)) i.held c.reserve_block.new.self c.got.new.self c.add_there.new.held k.holds reserved.own c.got.ensures.own added.held.own now added.moved in
    keeps-at-rest i.boot.value i.hosts i.script i.made c.add_there.new.made i.held c.add_there.new.held i.open_run i.later.items k (subst R (sym c.self.view_is) c.requires.may.rests) layout
    (few-ended i.held c.add_there.new.held (Some (reply.Addr (4096 * c.in-Got.block.first))) (own_held c.got.new.self) k.laid_out k.looks layout (ap (λ (o : Own). o.looks) c.got.ensures.own ∙ ap (λ (o : Own). o.looks) reserved.own) added.held.own) holds

pub invariant_of-self-in-NoBlock-1 : goal.invariant_of-self-in-NoBlock-1
invariant_of-self-in-NoBlock-1 c =
    let i = c.self.inside in
    let k = c.self.invariant in
    let added = c.add_there-in-NoBlock.ensures in
    let reserved = c.in_ok-reserve_block.ensures.same in
    let turned = c.alloc_look.new.turn in
    let R : Progressed → Type 0 = λ p. p.out ≡ None in
    let C : Progressed → Type 0 = λ p. command_of p ≡ Some (command.Alloc c.args.name c.args.order) in
    let by = c.in-NoBlock.ensures.looked in
    let appends = none-appends c.args.memory.now c.alloc_look.new.self c.turn-turn.result turned c.args.order c.in-NoBlock.ensures.looks by.0 by.1 in
    let number = turned-now c.args.memory.now c.alloc_look.new.self c.turn-turn.result turned event.NoBlock i.number.0 i.made.moved c.turn-turn.ensures appends in
    let now = ap (slice_get i.script) number ∙ subst C (sym c.self.view_is) c.requires.command in
    let layout = added.held.layout ∙ reserved.layout in
    let holds = none-holds i.script i.made.moved c.add_there-in-NoBlock.new.made.moved turned c.args.name c.args.order reply.NoBlock i.held c.reserve_block.new.self c.add_there-in-NoBlock.new.held k.holds reserved.own added.held.own now added.moved in
    keeps-at-rest i.boot.value i.hosts i.script i.made c.add_there-in-NoBlock.new.made i.held c.add_there-in-NoBlock.new.held i.open_run i.later.items k (subst R (sym c.self.view_is) c.requires.may.rests) layout
    (few-ended i.held c.add_there-in-NoBlock.new.held (Some reply.NoBlock) (own_held c.reserve_block.new.self) k.laid_out k.looks layout (ap (λ (o : Own). o.looks) reserved.own) added.held.own) holds

pub returns-in-Got-clause-looks : goal.returns-in-Got-clause-looks
returns-in-Got-clause-looks c =
    let old : Progressed = the_view c.self.inside in
    let new : Progressed = the_view (record c.self.inside { made = c.add_there.new.made; held = c.add_there.new.held }) in
    let R : Progressed → Type 0 = λ p. LooksFor p new c.args.memory.now c.alloc_look.new.self c.args.order (runs_in c.args.rooms.items) _ in
    subst R c.self.view_is
    (got-looks old c.args.memory.now c.alloc_look.new.self c.turn-turn.result c.alloc_look.new.turn c.args.order (runs_in c.args.rooms.items) c.turn-turn.ensures c.in-Got.ensures.looks c.in-Got.ensures.others
    c.in-Got.block c.add_there.new.made.moved c.add_there.new.made.room c.in-Got.ensures.looked c.add_there.ensures.moved)

pub returns-in-NoBlock-clause-looks : goal.returns-in-NoBlock-clause-looks
returns-in-NoBlock-clause-looks c =
    let old : Progressed = the_view c.self.inside in
    let new : Progressed = the_view (record c.self.inside { made = c.add_there-in-NoBlock.new.made; held = c.add_there-in-NoBlock.new.held }) in
    let R : Progressed → Type 0 = λ p. LooksFor p new c.args.memory.now c.alloc_look.new.self c.args.order (runs_in c.args.rooms.items) _ in
    subst R c.self.view_is
    (none-looks old c.args.memory.now c.alloc_look.new.self c.turn-turn.result c.alloc_look.new.turn c.args.order (runs_in c.args.rooms.items) c.turn-turn.ensures c.in-NoBlock.ensures.looks c.in-NoBlock.ensures.others
    c.add_there-in-NoBlock.new.made.moved c.add_there-in-NoBlock.new.made.room c.in-NoBlock.ensures.looked c.add_there-in-NoBlock.ensures.moved)

pub returns-in-Blocked-clause-looks : goal.returns-in-Blocked-clause-looks
returns-in-Blocked-clause-looks c =
    let old : Progressed = the_view c.self.inside in
    let R : Progressed → Type 0 = λ p. LooksFor p old c.args.memory.now c.alloc_look.new.self c.args.order (runs_in c.args.rooms.items) _ in
    subst R c.self.view_is
    (stopped-looks old c.args.memory.now c.alloc_look.new.self c.turn-turn.result c.alloc_look.new.turn c.args.order (runs_in c.args.rooms.items) c.turn-turn.ensures c.in-Blocked.ensures.looks c.in-Blocked.ensures.others
    c.in-Blocked.field-0 c.in-Blocked.ensures.looked)

pub returns-in-InFlight-clause-looks : goal.returns-in-InFlight-clause-looks
returns-in-InFlight-clause-looks c =
    let old : Progressed = the_view c.self.inside in
    let R : Progressed → Type 0 = λ p. LooksFor p old c.args.memory.now c.alloc_look.new.self c.args.order (runs_in c.args.rooms.items) _ in
    subst R c.self.view_is
    (flight-looks old c.args.memory.now c.alloc_look.new.self c.turn-turn.result c.alloc_look.new.turn c.args.order (runs_in c.args.rooms.items) c.turn-turn.ensures c.in-InFlight.ensures.looks c.in-InFlight.ensures.others
    c.in-InFlight.field-0 c.in-InFlight.ensures.looked)

pub returns-in-Cleared-clause-looks : goal.returns-in-Cleared-clause-looks
returns-in-Cleared-clause-looks c =
    let old : Progressed = the_view c.self.inside in
    let R : Progressed → Type 0 = λ p. LooksFor p c.claim.new.self c.args.memory.now c.alloc_look.new.self c.args.order (runs_in c.args.rooms.items) c.claim.result in
    subst R c.self.view_is
    (cleared-looks old c.args.memory.now c.alloc_look.new.self c.turn-turn.result c.alloc_look.new.turn c.args.order (runs_in c.args.rooms.items) c.turn-turn.ensures c.in-Cleared.ensures.looks c.in-Cleared.ensures.others
    c.claim.new.self c.waiting_block-block.result c.waiting_units-units.result c.claim.result c.waiting_block-block.ensures c.waiting_units-units.ensures.units c.claim.ensures.event c.in-Cleared.ensures.looked c.claim.ensures.course)

pub returns-in-Claimed-clause-looks : goal.returns-in-Claimed-clause-looks
returns-in-Claimed-clause-looks c =
    let old : Progressed = the_view c.self.inside in
    let m = c.claim-in-Claimed in
    let R : Progressed → Type 0 = λ p. LooksFor p m.new.self c.args.memory.now c.alloc_look.new.self c.args.order (runs_in c.args.rooms.items) m.result in
    subst R c.self.view_is
    (claimed-looks old c.args.memory.now c.alloc_look.new.self c.turn-turn.result c.alloc_look.new.turn c.args.order (runs_in c.args.rooms.items) c.turn-turn.ensures c.in-Claimed.ensures.looks c.in-Claimed.ensures.others
    m.new.self c.waiting_block-block.result c.waiting_units-units.result m.result c.waiting_block-block.ensures c.waiting_units-units.ensures.units m.ensures.event c.in-Claimed.span c.in-Claimed.ensures.looked m.ensures.course)

pub invariant_of-self : goal.invariant_of-self
invariant_of-self c =
    let i = c.self.inside in
    let same = c.reserve_block.ensures.same in
    keeps-room i.boot.value i.hosts i.script i.made i.made i.held c.reserve_block.new.self i.open_run i.later.items c.self.invariant refl (omega arith) same.own same.layout

pub invariant_of-self-in-Blocked-1 : goal.invariant_of-self-in-Blocked-1
invariant_of-self-in-Blocked-1 c =
    let i = c.self.inside in
    let same = c.reserve_block.ensures.same in
    keeps-room i.boot.value i.hosts i.script i.made i.made i.held c.reserve_block.new.self i.open_run i.later.items c.self.invariant refl (omega arith) same.own same.layout

pub invariant_of-self-in-InFlight-1 : goal.invariant_of-self-in-InFlight-1
invariant_of-self-in-InFlight-1 c =
    let i = c.self.inside in
    let same = c.reserve_block.ensures.same in
    keeps-room i.boot.value i.hosts i.script i.made i.made i.held c.reserve_block.new.self i.open_run i.later.items c.self.invariant refl (omega arith) same.own same.layout

pub invariant_of-self-in-Cleared : goal.invariant_of-self-in-Cleared
invariant_of-self-in-Cleared c =
    let i = c.self.inside in
    let same = c.reserve_block.ensures.same in
    keeps-room i.boot.value i.hosts i.script i.made i.made i.held c.reserve_block.new.self i.open_run i.later.items c.self.invariant refl (omega arith) same.own same.layout

pub invariant_of-self-in-Claimed : goal.invariant_of-self-in-Claimed
invariant_of-self-in-Claimed c =
    let i = c.self.inside in
    let same = c.reserve_block.ensures.same in
    keeps-room i.boot.value i.hosts i.script i.made i.made i.held c.reserve_block.new.self i.open_run i.later.items c.self.invariant refl (omega arith) same.own same.layout
