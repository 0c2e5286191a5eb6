use Rattle.std.proofs.Common.{◌-◌, ◌<◌, ◌^◌, ◌∙◌, ap, subst, arith, refl}
use Rattle.event_core.specs.declared.event.Event.TheVariants.{Asked}
use Rattle.event_core.specs.MemoryRows.{some_unaccepted}
use Rattle.event_core.specs.Units.{guarded_units}
use Rattle.memory_core.specs.Answers.{OthersKeep}
use Rattle.memory_core.specs.Bitmaps.{bits_in, any_in}
use Rattle.memory_core.specs.Steps.{bare_entry, last_stamp}
use Rattle.memory_core.specs.Value.{MemoryValue}
use Rattle.memory_core.proofs.BegunLemmas.{seen}
use Rattle.memory_core.proofs.BitsLemmas.{guarded-same, any-same}
use Rattle.memory_core.proofs.BlocksLemmas.{blocks-same}
use Rattle.memory_core.proofs.BlockStepLemmas.{room-less}
use Rattle.memory_core.proofs.LookLemmas.{others-still, stands-still}
use Rattle.memory_core.proofs.memory.Memory.query.Goals as goal

pub invariant_of-self : goal.invariant_of-self
invariant_of-self c =
    let i = c.self.inside in
    let s = c.self.invariant.0 in
    let found = c.has_unaccepted-found.result in
    let turn = c.args.turn.now in
    let step = c.requires.step in
    let last : i.last < 2 ^ 64 = (let is = s.last_is in let same = ap (λ (m : MemoryValue). last_stamp m.entries) c.self.view_is in let low = step.last in omega arith) in
    let room = ap (λ (m : MemoryValue). m.room) c.self.view_is in
    let some = step.room in
    let kept = s.entry_room in
    let small = i.entries.small in
    let spare = c.self.invariant.1.enough in (
      stands-still i.boot.value i.entries c.append.new.entries i.last c.append.new.last i.table i.bits i.accepting i.blocks i.blocks i.unit_pages i.kept i.room _ turn (Asked found) s
          (record { calls = refl; claims = λ calls claim. refl }) tt tt (λ block no. cc)
          (blocks-same i.boot.value i.entries.items (bare_entry turn i.last (Asked found)) i.blocks s.blocks_are tt) (room-less i.blocks i.accepting i.room (i.room - 1) (omega arith) s.block_room)
          c.append.ensures.entries c.append.ensures.capacity c.append.ensures.last step.clock last (omega (arith, kept, small)) (omega (arith, room, some)),
      record { empty = c.self.invariant.1.empty; enough = omega (arith, spare) },
    )

pub returns-clause-found : goal.returns-clause-found
returns-clause-found c =
    let i = c.self.inside in
    c.has_unaccepted-found.ensures
    ∙ ap (any_in (bits_in i.bits)) (guarded-same i.boot.value i.bits c.args.start c.args.len c.self.invariant.0.same_bits)
    ∙ any-same i.boot.value i.entries.items (bits_in i.bits) (guarded_units i.boot.value c.args.start c.args.len) c.self.invariant.0.holds.bits
    ∙ ap (λ (m : MemoryValue). some_unaccepted m.boot m.entries (guarded_units m.boot c.args.start c.args.len)) c.self.view_is

pub returns-clause-others : goal.returns-clause-others
returns-clause-others c =
    let i = c.self.inside in
    let turn = c.args.turn.now in
    let P : MemoryValue → Type 0 = λ m. OthersKeep m (seen i.boot.value c.append.new.entries.items i.accepting (i.room - 1)) turn.cpu.0 in
    subst P c.self.view_is
    (others-still i.boot.value i.entries.items c.append.new.entries.items i.accepting i.room (i.room - 1) turn i.last (Asked c.has_unaccepted-found.result) (record { calls = refl; claims = λ calls claim. refl }) tt c.append.ensures.entries)
