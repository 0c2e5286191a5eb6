use Rattle.std.proofs.Common.{◌≡◌, ◌-◌, ◌^◌, ◌<◌, refl, sym, ◌∙◌, ap, subst, arith}
use Rattle.event_core.specs.declared.event.Event.TheVariants.{Freed, Touched}
use Rattle.event_core.specs.Calls.{calls_of}
use Rattle.event_core.specs.MemoryRows.{is_pending, page_state}
use Rattle.event_core.specs.OwnRows.{found_at, page_behind}
use Rattle.memory_core.specs.Answers.{OthersKeep}
use Rattle.memory_core.specs.Owners.{is_owner}
use Rattle.memory_core.specs.Steps.{bare_entry, last_stamp}
use Rattle.memory_core.specs.Value.{MemoryValue}
use Rattle.memory_core.proofs.BegunLemmas.{seen}
use Rattle.memory_core.proofs.BlockStepLemmas.{room-less}
use Rattle.memory_core.proofs.BlocksLemmas.{blocks-same}
use Rattle.memory_core.proofs.LookLemmas.{stands-still, others-still}
use Rattle.memory_core.proofs.SettledLemmas.{owner-clear}
use Rattle.memory_core.proofs.memory.Memory.load_touch.Goals as goal

pub find-found-requires : goal.find-found-requires
find-found-requires c =
    let i = c.self.inside in
    let s = c.self.invariant.0 in
    let behind = c.requires.behind in
    let block = behind.0 in
    let owner = ap (λ (m : MemoryValue). is_owner m.entries c.args.turn.now.cpu.0 block) c.self.view_is ∙ behind.1 in
    ap (λ (m : MemoryValue). is_pending (page_state m.boot (calls_of m.boot m.entries) c.args.page.0)) (sym c.self.view_is)
    ∙ ap (λ page. is_pending (page_state i.boot.value (calls_of i.boot.value i.entries.items) page)) behind.2
    ∙ owner-clear i.boot.value i.entries.items c.args.turn.now.cpu.0 block s.settled owner (page_behind block) (record { low = omega arith; high = omega arith })

pub invariant_of-self : goal.invariant_of-self
invariant_of-self c =
    let i = c.self.inside in
    let s = c.self.invariant.0 in
    let turn = c.args.turn.now in
    let event = Touched c.args.page c.find-found.result in
    let step = c.requires.step in
    let last : i.last < 2 ^ 64 = (let is = s.last_is in let same = ap (λ (m : MemoryValue). last_stamp m.entries) c.self.view_is in let low = step.last in omega arith) in
    let room = ap (λ (m : MemoryValue). m.room) c.self.view_is in
    let some = step.room in
    let kept = s.entry_room in
    let small = i.entries.small in
    let spare = c.self.invariant.1.enough in
    let found = ap (λ (m : MemoryValue). found_at m.boot m.entries c.args.page.0) c.self.view_is ∙ c.find-found.ensures in (
      stands-still i.boot.value i.entries c.append.new.entries i.last c.append.new.last i.table i.bits i.accepting i.blocks i.blocks i.unit_pages i.kept i.room _ turn event s
          (record { calls = refl; claims = λ calls claim. refl }) found tt (λ block no. let never : Touched c.args.page c.find-found.result ≡ Freed block = no in cc)
          (blocks-same i.boot.value i.entries.items (bare_entry turn i.last event) i.blocks s.blocks_are tt) (room-less i.blocks i.accepting i.room _ (omega arith) s.block_room)
          c.append.ensures.entries c.append.ensures.capacity c.append.ensures.last step.clock last (omega (arith, kept, small)) (omega (arith, room, some)),
      record { empty = c.self.invariant.1.empty; enough = omega (arith, spare) },
    )

pub returns-clause-others : goal.returns-clause-others
returns-clause-others c =
    let i = c.self.inside in
    let turn = c.args.turn.now in
    let event = Touched c.args.page c.find-found.result in
    let found = ap (λ (m : MemoryValue). found_at m.boot m.entries c.args.page.0) c.self.view_is ∙ c.find-found.ensures in
    let P : MemoryValue → Type 0 = λ m. OthersKeep m (seen i.boot.value c.append.new.entries.items i.accepting (i.room - 1)) turn.cpu.0 in
    subst P c.self.view_is (others-still i.boot.value i.entries.items c.append.new.entries.items i.accepting i.room (i.room - 1) turn i.last event (record { calls = refl; claims = λ calls claim. refl }) found c.append.ensures.entries)
