use Rattle.std.proofs.Common.{arith, rules}
use Rattle.memory_core.proofs.BlockStepLemmas.{blocks-stay, room-taken}
use Rattle.memory_core.proofs.memory.Memory.take_room.Goals as goal

pub overflow_mul-self-inside : goal.overflow_mul-self-inside
overflow_mul-self-inside c = let small = c.self.invariant.0.booted.small in let is = c.self.invariant.0.pages_are in omega arith

pub overflow_add-self-inside : goal.overflow_add-self-inside
overflow_add-self-inside c = let small = c.self.invariant.0.booted.small in let is = c.self.invariant.0.pages_are in omega arith

pub invariant_of-self-then-self-units : goal.invariant_of-self-then-self-units
invariant_of-self-then-self-units c =
    let i = c.self.inside in
    let s = c.self.invariant.0 in
    let r = c.reserve-then-self-units-3 in
    let blocks = blocks-stay i.boot.value i.entries.items i.blocks r.new.self r.ensures.free r.ensures.waiting s.blocks_are in
    let room = room-taken r.new.self i.accepting c.in_ok-room.room s.places c.in_ok-reserve-4.ensures.ok in
    search rules
