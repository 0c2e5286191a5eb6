use Rattle.std.proofs.Common.{◌≡◌, ◌^◌, ◌<◌, refl, sym, ◌∙◌, ap, subst, arith}
use Rattle.guest_base.specs.Blocks.{pick}
use Rattle.event_core.specs.declared.event.Event.TheVariants.{Freed, Got}
use Rattle.event_core.specs.Blocks.{free_page}
use Rattle.memory_core.specs.Answers.{OthersKeep}
use Rattle.memory_core.specs.Owners.{is_owner}
use Rattle.memory_core.specs.Steps.{bare_entry, last_stamp}
use Rattle.memory_core.specs.Value.{MemoryValue}
use Rattle.memory_core.proofs.BegunLemmas.{seen}
use Rattle.memory_core.proofs.BlocksLemmas.{blocks-got, picked-same}
use Rattle.memory_core.proofs.LookLemmas.{stands-still, others-still, room-spent}
use Rattle.memory_core.proofs.SettledLemmas.{picked-nobodys}
use Rattle.memory_core.proofs.memory.Memory.get_free.Goals as goal

pub invariant_of-self-2 : goal.invariant_of-self-2
invariant_of-self-2 c =
    let i = c.self.inside in
    let s = c.self.invariant.0 in
    let turn = c.args.turn.now in
    let block = c.in_ok-block.block in
    let step = c.requires.step in
    let last : i.last < 2 ^ 64 = (let is = s.last_is in let same = ap (λ (m : MemoryValue). last_stamp m.entries) c.self.view_is in let low = step.last in omega arith) in
    let room = ap (λ (m : MemoryValue). m.room) c.self.view_is in
    let need = step.room in
    let some : 0 < i.room = omega (arith, room, need) in
    let kept = s.entry_room in
    let small = i.entries.small in
    let picked = sym (picked-same i.boot.value i.entries.items i.blocks c.self.invariant.0.blocks_are c.args.order) ∙ sym c.in_ok-block.ensures.picked in (
      stands-still i.boot.value i.entries c.append.new.entries i.last c.append.new.last i.table i.bits i.accepting i.blocks c.take.new.self i.unit_pages i.kept i.room 0 turn (Got block) s
          (record { calls = refl; claims = λ calls claim. refl }) (c.args.order, picked) tt (λ freed no. let never : Got block ≡ Freed freed = no in cc)
          (blocks-got i.boot.value i.entries.items (bare_entry turn i.last (Got block)) i.blocks c.take.new.self c.args.order block s.blocks_are c.in_ok-block.ensures.block refl c.in_ok-block.ensures.pages c.in_ok-block.ensures.waiting)
          (room-spent i.blocks c.take.new.self i.accepting i.room s.block_room some c.in_ok-block.ensures.room)
          c.append.ensures.entries c.append.ensures.capacity c.append.ensures.last step.clock last (omega (arith, kept, small)) some,
      record { empty = c.self.invariant.1.empty; enough = omega arith },
    )

pub returns-clause-picked : goal.returns-clause-picked
returns-clause-picked c =
    let i = c.self.inside in
    let picked = sym (picked-same i.boot.value i.entries.items i.blocks c.self.invariant.0.blocks_are c.args.order) ∙ sym c.in_ok-block.ensures.picked in
    sym picked ∙ ap (λ (m : MemoryValue). pick (free_page m.boot m.entries) c.args.order) c.self.view_is

pub returns-clause-fresh : goal.returns-clause-fresh
returns-clause-fresh c cpu =
    let i = c.self.inside in
    let picked = sym (picked-same i.boot.value i.entries.items i.blocks c.self.invariant.0.blocks_are c.args.order) ∙ sym c.in_ok-block.ensures.picked in
    ap (λ (m : MemoryValue). is_owner m.entries cpu c.in_ok-block.block) (sym c.self.view_is)
    ∙ picked-nobodys i.boot.value i.entries.items c.args.order c.in_ok-block.block c.self.invariant.0.settled picked cpu

pub returns-clause-others : goal.returns-clause-others
returns-clause-others c =
    let i = c.self.inside in
    let turn = c.args.turn.now in
    let picked = sym (picked-same i.boot.value i.entries.items i.blocks c.self.invariant.0.blocks_are c.args.order) ∙ sym c.in_ok-block.ensures.picked in
    let P : MemoryValue → Type 0 = λ m. OthersKeep m (seen i.boot.value c.append.new.entries.items i.accepting 0) turn.cpu.0 in
    subst P c.self.view_is
    (others-still i.boot.value i.entries.items c.append.new.entries.items i.accepting i.room 0 turn i.last (Got c.in_ok-block.block)
    (record { calls = refl; claims = λ calls claim. refl }) (c.args.order, picked) c.append.ensures.entries)
