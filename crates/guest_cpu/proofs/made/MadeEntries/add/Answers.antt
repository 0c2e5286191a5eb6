use Rattle.std.proofs.Common.{◌-◌, [], ◌∷◌, ◌++◌, arith, ap, ◌∙◌}
use Rattle.event_core.specs.Moved.{Moved}
use Rattle.guest_cpu.specs.Made.{Made}
use Rattle.io_areas.proofs.EntryLemmas.{moved-more}
use Rattle.guest_cpu.proofs.MadeLemmas.{made-more, one-at-most, replies-few}
use Rattle.guest_cpu.proofs.made.MadeEntries.add.Goals as goal

pub overflow_add-self : goal.overflow_add-self
overflow_add-self c =
    let i = c.self.inside in
    let few = replies-few i.entries i.moves i.room i.replies i.clock c.self.invariant in
    let room = ap (λ (m : Made). m.room) c.self.view_is in
    let has = c.self.invariant.entry_room in
    let one = one-at-most c.is_some.result c.from.result c.from.ensures in
    omega (arith, few, room, has, one)

pub invariant_of-self : goal.invariant_of-self
invariant_of-self c =
    let i = c.self.inside in
    let m : Moved = record { entry = c.args.entry; bytes = c.args.bytes } in
    let room = ap (λ (m : Made). m.room) c.self.view_is in
    let entry_room = c.self.invariant.entry_room in
    let move_room = c.self.invariant.move_room in
    let one = c.push_reserved.ensures.len in
    let same = c.push_reserved.ensures.capacity in
    let one_more = c.push_reserved-2.ensures.len in
    let same_too = c.push_reserved-2.ensures.capacity in
    let some = c.requires in
    made-more i.entries c.push_reserved.new.self i.moves c.push_reserved-2.new.self i.room (i.room - 1) i.replies c.from.result i.clock c.max-self-inside.result c.is_some.result m
    c.push_reserved.ensures.items c.push_reserved-2.ensures.items (omega (arith, room, entry_room, one, same, some)) (omega (arith, room, move_room, one_more, same_too, some)) (omega (arith, room, some))
    c.is_some.ensures c.from.ensures c.max-self-inside.ensures c.self.invariant

pub returns-clause-moved : goal.returns-clause-moved
returns-clause-moved c =
    let i = c.self.inside in
    let m : Moved = record { entry = c.args.entry; bytes = c.args.bytes } in
    moved-more i.entries.items c.push_reserved.new.self.items i.moves.items c.push_reserved-2.new.self.items m c.push_reserved.ensures.items c.push_reserved-2.ensures.items c.self.invariant.beside
    ∙ ap (λ (x : Made). x.moved ++ m ∷ []) c.self.view_is
