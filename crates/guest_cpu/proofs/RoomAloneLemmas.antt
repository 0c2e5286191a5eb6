use Rattle.std.proofs.Common.{◌≡◌, ◌≢◌, ℕ, ◌+◌, ◌<◌, ◌≤◌, true, Option, None, Some, List, [], ◌∷◌, ◌++◌, sym, ◌∙◌, ap, subst, arith, refl, map, slice_get}
use Rattle.std.specs.Prelude.{slice_index_or}
use Rattle.guest_base.specs.Ranges.{in_range}
use Rattle.event_core.specs.declared.boot.Boot.{Boot}
use Rattle.event_core.specs.declared.entry.Entry.{Entry}
use Rattle.event_core.specs.declared.module_call.ModuleCall.{ModuleCall}
use Rattle.event_core.specs.Calls.{calls_of}
use Rattle.event_core.specs.Claims.{Claimed, claim_of}
use Rattle.event_core.specs.MemoryRows.{page_state, pages_first, pages_count}
use Rattle.memory_core.specs.Answers.{OthersKeep}
use Rattle.io_areas.specs.Value.{AreaValue}
use Rattle.memory_core.specs.UnderLock.{unmoved}
use Rattle.memory_core.specs.Value.{MemoryValue, Handed}
use Rattle.memory_core.specs.Waiting.{waiting_left}
use Rattle.guest_steps.specs.Ground.{Ground, HasArea, ground_of, with_area}
use Rattle.guest_steps.specs.Seen.{Seen, commands_left, steps_waiting}
use Rattle.guest_steps.specs.Steps.{AllRoomAlone, AreaRoomAlone, IsBusy, Makes, MakesInMemory, RoomAlone, without_reply}
use Rattle.guest_steps.proofs.AmongLemmas.{still}
use Rattle.guest_steps.proofs.GroundLemmas.{each-set}
use Rattle.guest_steps.proofs.StepLemmas.{room-leaves}
use Rattle.guest_cpu.specs.Found.{found-course}
use Rattle.guest_cpu.specs.Progressing.{Progressed}
use Rattle.guest_cpu.specs.Standing.{CourseStands, seen_with}
use Rattle.guest_cpu.specs.Stepping.{OnlyRoom}

-- Room alone changes nothing of how a processor stands.

pub same-room : (memory : MemoryValue) → RoomAlone memory memory
same-room memory = record { boot = refl; entries = refl; out = refl; room = omega arith }

pub room-then : (a b c : MemoryValue) → RoomAlone a b → RoomAlone b c → RoomAlone a c
room-then a b c ab bc = record {
  boot = bc.boot ∙ ab.boot;
  entries = bc.entries ∙ ab.entries;
  out = bc.out ∙ ab.out;
  room = (let x = ab.room in let y = bc.room in omega (arith, x, y));
}

module _ (made_before made : List ModuleCall) (faults_before faults : ℕ) where
  pub seen-room : (p q : Progressed) → OnlyRoom p q → seen_with q made_before made faults_before faults ≡ seen_with p made_before made faults_before faults
  seen-room p q only = ap (λ (x : Progressed). seen_with x made_before made faults_before faults) only.0

  -- over the memory and the areas
  pub room-over : (p q : Progressed) (kept more : ℕ) (before after : Ground) → CourseStands p made_before made faults_before faults kept before → OnlyRoom p q → AllRoomAlone before after → kept ≤ more → CourseStands q made_before made faults_before faults more after
  room-over p q kept more before after s only alone le =
      let f = found-course p made_before made faults_before faults kept before after s (room-leaves before after p.number alone) in
      let S : Progressed → Type 0 = λ x. CourseStands x made_before made faults_before faults more after in
      let owed = f.port in
      subst S (sym only.0) (record { stands = f.stands; runs = f.runs; port = omega (arith, owed, le) })

  pub room-course : (p q : Progressed) (kept more : ℕ) (areas : List AreaValue) (before after : MemoryValue) → CourseStands p made_before made faults_before faults kept (ground_of before areas) → OnlyRoom p q → RoomAlone before after → kept ≤ more
      → CourseStands q made_before made faults_before faults more (ground_of after areas)
  room-course p q kept more areas before after s only alone le =
      room-over p q kept more (ground_of before areas) (ground_of after areas) s only (record { memory = alone; areas = (still (ground_of before areas)).areas }) le

  pub room-in-area : (p q : Progressed) (kept : ℕ) (base : Ground) (area after : AreaValue) → CourseStands p made_before made faults_before faults kept base → HasArea base area → OnlyRoom p q → AreaRoomAlone area after
      → CourseStands q made_before made faults_before faults kept (with_area base after)
  room-in-area p q kept base area after s has only alone =
      let itself : (a : AreaValue) → AreaRoomAlone a a = (λ a. record { number = refl; slots = refl; moved = refl; room = omega arith }) in
      room-over p q kept kept base (with_area base after) s only
      (record {
        memory = same-room base.memory;
        areas = each-set AreaRoomAlone itself base.areas after.number area after (ap (slice_get base.areas) alone.number ∙ has) alone;
      })
      (omega arith)

-- a step behind room that was taken
pub others-room : (before taken after : MemoryValue) (cpu : ℕ) → RoomAlone before taken → OthersKeep taken after cpu → OthersKeep before after cpu
others-room before taken after cpu alone o =
    let S : Boot → List Entry → Type 0 = λ b es.
    (other : ℕ) (claim : Claimed) (page : ℕ) → other ≢ cpu → claim_of b es other ≡ Some claim → in_range (pages_first b claim.run) (pages_count b claim.run) page ≡ true → page_state b (calls_of b after.entries) page ≡ page_state b (calls_of b es) page in
    let here : S taken.boot taken.entries = o.states in
    let B : Boot → Type 0 = λ b. S b taken.entries in
    let E : List Entry → Type 0 = λ es. S before.boot es in
    let D : Boot → Type 0 = λ b. waiting_left b after.entries ≤ waiting_left b taken.entries in
    let F : List Entry → Type 0 = λ es. waiting_left before.boot after.entries ≤ waiting_left before.boot es in
    record {
      handed = λ other differ. o.handed other differ ∙ ap (λ (out : List (Option Handed)). slice_index_or out other None) alone.out;
      states = subst E alone.entries (subst B alone.boot here);
      waiting = subst F alone.entries (subst D alone.boot o.waiting);
    }

pub makes-room : (old new : Seen) (before taken after : MemoryValue) → RoomAlone before taken → MakesInMemory old new taken after → MakesInMemory old new before after
makes-room old new before taken after alone m =
    let M : List Entry → Type 0 = λ es. Makes old new (map unmoved es) m.m in
    let B : List Entry → Type 0 = λ es. IsBusy old es in
    let L : List Entry → Type 0 = λ es. commands_left new + steps_waiting old.boot after.entries < commands_left old + steps_waiting old.boot es in
    record {
      m = m.m;
      makes = subst M alone.entries m.makes;
      place = m.place;
      busy = subst B alone.entries m.busy;
      boot = m.boot ∙ alone.boot;
      entries = m.entries ∙ ap (λ (es : List Entry). es ++ without_reply m.m.entry ∷ []) alone.entries;
      others = others-room before taken after old.number alone m.others;
      less = subst L alone.entries m.less;
    }
