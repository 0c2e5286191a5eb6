use Rattle.std.proofs.Common.{◌≡◌, ◌^◌, ◌<◌, ◌≤◌, length, None, [], ◌∷◌, ◌++◌, refl, sym, ◌∙◌, ap, subst, arith}
use Rattle.event_core.specs.declared.event.Event.TheVariants.{Freed, NoBlock}
use Rattle.event_core.specs.BlockRows.{without_waiting}
use Rattle.event_core.specs.Blocks.{in_flight_with}
use Rattle.memory_core.specs.Answers.{OthersKeep}
use Rattle.memory_core.specs.Bitmaps.{bits_in}
use Rattle.memory_core.specs.Steps.{bare_entry, last_stamp}
use Rattle.memory_core.specs.Value.{MemoryValue}
use Rattle.memory_core.proofs.BegunLemmas.{appends-of, seen}
use Rattle.memory_core.proofs.BlockStepLemmas.{room-less}
use Rattle.memory_core.proofs.BlocksLemmas.{blocks-same}
use Rattle.memory_core.proofs.FlightLemmas.{flight-same}
use Rattle.memory_core.proofs.LookLemmas.{stands-still, others-still, event-waiting, looks-some, looks-none}
use Rattle.memory_core.proofs.memory.Memory.find_none.Goals as goal

pub returns-in-Some-clause-looked : goal.returns-in-Some-clause-looked
returns-in-Some-clause-looked c order free =
    let i = c.self.inside in
    let s = c.self.invariant.0 in
    let few : i.boot.value.cpus ≤ length i.accepting = (let most = s.booted.cpus in let places = s.places in omega (arith, most, places)) in
    let flight = flight-same i.boot.value i.entries.items (bits_in i.bits) i.table.out i.accepting few s.cpus s.holds.open_claims ∙ sym c.in-Some.ensures in
    (record { none_free = free; lowest = c.requires.none }, ap (λ (m : MemoryValue). in_flight_with m.boot m.entries) (sym c.self.view_is) ∙ flight)

pub returns-in-Some-clause-looks : goal.returns-in-Some-clause-looks
returns-in-Some-clause-looks c order free =
    let i = c.self.inside in
    let s = c.self.invariant.0 in
    let few : i.boot.value.cpus ≤ length i.accepting = (let most = s.booted.cpus in let places = s.places in omega (arith, most, places)) in
    let flight = flight-same i.boot.value i.entries.items (bits_in i.bits) i.table.out i.accepting few s.cpus s.holds.open_claims ∙ sym c.in-Some.ensures in
    looks-none c.args.self.now c.args.turn.now order
    (event-waiting c.args.self.now.boot c.args.self.now.entries order None free c.requires.none
    ∙ ap without_waiting (ap (λ (m : MemoryValue). in_flight_with m.boot m.entries) (sym c.self.view_is) ∙ flight))

pub invariant_of-self : goal.invariant_of-self
invariant_of-self c =
    let i = c.self.inside in
    let s = c.self.invariant.0 in
    let turn = c.args.turn.now in
    let step = c.requires.step in
    let last : i.last < 2 ^ 64 = (let is = s.last_is in let same = ap (λ (m : MemoryValue). last_stamp m.entries) c.self.view_is in let low = step.last in omega arith) in
    let room = ap (λ (m : MemoryValue). m.room) c.self.view_is in
    let need = step.room in
    let some : 0 < i.room = omega (arith, room, need) in
    let kept = s.entry_room in
    let small = i.entries.small in (
      stands-still i.boot.value i.entries c.append.new.entries i.last c.append.new.last i.table i.bits i.accepting i.blocks i.blocks i.unit_pages i.kept i.room 0 turn NoBlock s
          (record { calls = refl; claims = λ calls claim. refl }) tt tt (λ freed no. let never : NoBlock ≡ Freed freed = no in cc)
          (blocks-same i.boot.value i.entries.items (bare_entry turn i.last NoBlock) i.blocks s.blocks_are tt)
          (room-less i.blocks i.accepting i.room 0 (omega arith) s.block_room)
          c.append.ensures.entries c.append.ensures.capacity c.append.ensures.last step.clock last (omega (arith, kept, small)) some,
      record { empty = c.self.invariant.1.empty; enough = omega arith },
    )

pub returns-clause-looked : goal.returns-clause-looked
returns-clause-looked c order free =
    let i = c.self.inside in
    let s = c.self.invariant.0 in
    let few : i.boot.value.cpus ≤ length i.accepting = (let most = s.booted.cpus in let places = s.places in omega (arith, most, places)) in
    let flight = flight-same i.boot.value i.entries.items (bits_in i.bits) i.table.out i.accepting few s.cpus s.holds.open_claims ∙ sym c.in_default.ensures in (
      record { none_free = free; lowest = c.requires.none },
      ap (λ (m : MemoryValue). in_flight_with m.boot m.entries) (sym c.self.view_is) ∙ flight,
      record { out = ap (λ (m : MemoryValue). m.out) c.self.view_is; room = refl },
    )

pub returns-clause-looks : goal.returns-clause-looks
returns-clause-looks c order free =
    let i = c.self.inside in
    let s = c.self.invariant.0 in
    let few : i.boot.value.cpus ≤ length i.accepting = (let most = s.booted.cpus in let places = s.places in omega (arith, most, places)) in
    let flight = flight-same i.boot.value i.entries.items (bits_in i.bits) i.table.out i.accepting few s.cpus s.holds.open_claims ∙ sym c.in_default.ensures in
    let old = c.args.self.now in
    let new = seen i.boot.value c.append.new.entries.items i.accepting 0 in
    looks-some old new c.args.turn.now c.append.new.turn order NoBlock
    (event-waiting old.boot old.entries order None free c.requires.none
    ∙ ap without_waiting (ap (λ (m : MemoryValue). in_flight_with m.boot m.entries) (sym c.self.view_is) ∙ flight))
    (appends-of old new c.args.turn.now c.append.new.turn i.last NoBlock NoBlock
    (ap (λ (m : MemoryValue). m.boot) c.self.view_is)
    (c.append.ensures.entries ∙ ap (λ (m : MemoryValue). m.entries ++ bare_entry c.args.turn.now i.last NoBlock ∷ []) c.self.view_is)
    (s.last_is ∙ ap (λ (m : MemoryValue). last_stamp m.entries) c.self.view_is) refl c.append.ensures.turn)

pub returns-clause-others : goal.returns-clause-others
returns-clause-others c =
    let i = c.self.inside in
    let turn = c.args.turn.now in
    let P : MemoryValue → Type 0 = λ m. OthersKeep m (seen i.boot.value c.append.new.entries.items i.accepting 0) turn.cpu.0 in
    subst P c.self.view_is (others-still i.boot.value i.entries.items c.append.new.entries.items i.accepting i.room 0 turn i.last NoBlock (record { calls = refl; claims = λ calls claim. refl }) tt c.append.ensures.entries)
