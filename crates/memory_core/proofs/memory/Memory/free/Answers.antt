use Rattle.std.proofs.Common.{◌≡◌, ◌^◌, ◌<◌, true, refl, sym, ◌∙◌, ap, subst, arith}
use Rattle.guest_base.specs.declared.memory.Block.{Block}
use Rattle.event_core.specs.declared.event.Event.TheVariants.{Freed}
use Rattle.memory_core.specs.Answers.{OthersKeep}
use Rattle.memory_core.specs.Owners.{is_owner}
use Rattle.memory_core.specs.Steps.{bare_entry, last_stamp}
use Rattle.memory_core.specs.Value.{MemoryValue}
use Rattle.memory_core.proofs.BegunLemmas.{seen}
use Rattle.memory_core.proofs.BlocksLemmas.{blocks-freed, may-free}
use Rattle.memory_core.proofs.LookLemmas.{stands-still, others-still, room-spent}
use Rattle.memory_core.proofs.memory.Memory.free.Goals as goal

pub free-requires-clause-may : goal.free-requires-clause-may
free-requires-clause-may c =
    let i = c.self.inside in
    let s = c.self.invariant.0 in
    let owner = ap (λ (m : MemoryValue). is_owner m.entries c.args.turn.now.cpu.0 c.args.block) c.self.view_is ∙ c.requires.owner in
    may-free i.boot.value i.entries.items i.blocks c.args.block s.settled s.blocks_are (s.settled.owners c.args.turn.now.cpu.0 c.args.block owner)

pub invariant_of-self : goal.invariant_of-self
invariant_of-self c =
    let i = c.self.inside in
    let s = c.self.invariant.0 in
    let turn = c.args.turn.now in
    let event = Freed c.args.block in
    let step = c.requires.step in
    let last : i.last < 2 ^ 64 = (let is = s.last_is in let same = ap (λ (m : MemoryValue). last_stamp m.entries) c.self.view_is in let low = step.last in omega arith) in
    let room = ap (λ (m : MemoryValue). m.room) c.self.view_is in
    let need = step.room in
    let some : 0 < i.room = omega (arith, room, need) in
    let kept = s.entry_room in
    let small = i.entries.small in
    let left = c.free.ensures.room in
    let owner = ap (λ (m : MemoryValue). is_owner m.entries turn.cpu.0 c.args.block) c.self.view_is ∙ c.requires.owner in
    let owns : (block : Block) → event ≡ Freed block → is_owner i.entries.items turn.cpu.0 block ≡ true = λ block is. (let same : c.args.block ≡ block = cc in ap (is_owner i.entries.items turn.cpu.0) (sym same) ∙ owner) in (
      stands-still i.boot.value i.entries c.append.new.entries i.last c.append.new.last i.table i.bits i.accepting i.blocks c.free.new.self i.unit_pages i.kept i.room 0 turn event s
          (record { calls = refl; claims = λ calls claim. refl }) tt tt owns
          (blocks-freed i.boot.value i.entries.items (bare_entry turn i.last event) i.blocks c.free.new.self c.args.block s.settled (s.settled.owners turn.cpu.0 c.args.block owner) s.blocks_are refl c.free.ensures.pages c.free.ensures.waiting)
          (room-spent i.blocks c.free.new.self i.accepting i.room s.block_room some (omega (arith, left)))
          c.append.ensures.entries c.append.ensures.capacity c.append.ensures.last step.clock last (omega (arith, kept, small)) some,
      record { empty = c.self.invariant.1.empty; enough = omega arith },
    )

pub returns-clause-others : goal.returns-clause-others
returns-clause-others c =
    let i = c.self.inside in
    let turn = c.args.turn.now in
    let P : MemoryValue → Type 0 = λ m. OthersKeep m (seen i.boot.value c.append.new.entries.items i.accepting 0) turn.cpu.0 in
    subst P c.self.view_is (others-still i.boot.value i.entries.items c.append.new.entries.items i.accepting i.room 0 turn i.last (Freed c.args.block) (record { calls = refl; claims = λ calls claim. refl }) tt c.append.ensures.entries)
