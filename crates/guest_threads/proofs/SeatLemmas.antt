use Rattle.std.proofs.Common.{◌≡◌, ℕ, ◌≤◌, ◌<◌, ◌^◌, max, Option, None, Some, Result, Ok, Err, List, [], ◌∷◌, ◌++◌, refl, sym, ◌∙◌, ap, subst, append-nil, append_assoc, arith, inl, inr, OnErr, OnOk}
use Rattle.std.specs.Prelude.{get_or, length, slice_get, slice_set, ◌≢◌}
use Rattle.std.specs.Option.{option_map_or}
use Rattle.std.proofs.lemmas.Option.{slice_get_cases, slice_get_read, slice_get_within}
use Rattle.event_core.specs.declared.clock.NoRoom.{NoRoom}
use Rattle.event_core.specs.declared.clock.NoRoom.TheVariants.{Worn}
use Rattle.event_core.specs.declared.entry.Place.{Place}
use Rattle.event_core.specs.declared.entry.Place.TheVariants.{Memory, Area, Own}
use Rattle.event_core.specs.Legal.{greatest_stamp}
use Rattle.event_core.specs.Moved.{Moved}
use Rattle.claim_lock.specs.declared.known.Known.{Known}
use Rattle.claim_lock.specs.Knows.{Finds, MayGive, left_known}
use Rattle.claim_lock.specs.Seen.{GripSeen, LockSeen, PassSeen}
use Rattle.io_areas.specs.UnderLock.{fixed_of as fixed_area, part_of as part_area, moved_of as moved_area}
use Rattle.io_areas.specs.Value.{AreaValue}
use Rattle.memory_core.specs.Away.{WaitingFalls}
use Rattle.memory_core.specs.Steps.{last_stamp}
use Rattle.memory_core.specs.UnderLock.{fixed_of, part_of, moved_of}
use Rattle.memory_core.specs.Value.{MemoryValue}
use Rattle.guest_steps.specs.declared.processor.Stepped.{Stepped}
use Rattle.guest_steps.specs.declared.processor.Stepped.TheVariants.{Event, Blocked}
use Rattle.guest_steps.specs.declared.processor.Need.{Need}
use Rattle.guest_steps.specs.declared.processor.Need.TheVariants as need
use Rattle.guest_steps.specs.Ground.{FoundAgain, Ground, HasArea, ground_of, there_in, with_area, with_memory}
use Rattle.guest_steps.specs.Seen.{Seen, Accepted, need_by, need_for, need_of, own_now, present_command}
use Rattle.guest_steps.specs.Standing.{FollowsAll, IsOut, Stands, StoodIn}
use Rattle.guest_steps.specs.Steps.{AreaRoomAlone, IsBlocked, IsUnasked, MakesInArea, MakesInMemory, MakesOwn, RoomAlone, Works, stamp_before, stamp_in}
use Rattle.guest_threads.specs.declared.locks.Locks.{Locks}
use Rattle.guest_threads.specs.declared.locks.Passes.{Passes}
use Rattle.guest_threads.specs.Progress.{IsSame, Progresses, gone_on}
use Rattle.guest_threads.specs.Seated.{Ended, HoldsArea, HoldsAreas, HoldsMemory, Ran, Seated, seen_in}
use Rattle.memory_core.proofs.UnderLockLemmas.{greatest-last}
use Rattle.guest_steps.proofs.ListLemmas.{slice_get-set_same}
use Rattle.guest_threads.proofs.HoldLemmas.{area-again, area-gives, area-gives-room, areas-kept, areas-set, holds-given, holds-kept, memory-again, memory-gives, memory-gives-room, over-area, over-memory, set-twice}

-- A processor that takes a lock, makes a step and gives the lock back.

-- what a step of the memory may do: an entry, or nothing where the processor is blocked or refused
abbrev pub StepsMemory : Seen → Seen → MemoryValue → MemoryValue → Result Stepped NoRoom → Type 0
StepsMemory old new before after result =
    (result ≡ Ok Event → MakesInMemory old new before after) × (result ≡ Ok Blocked → (new ≡ old) × RoomAlone before after × IsBlocked old before.entries)
    × OnErr result ((new ≡ old) × RoomAlone before after × (old.out ≡ None))

-- after it the lock may be given back
pub memory-may-give : (old new : Seen) (before after : MemoryValue) (result : Result Stepped NoRoom) → StepsMemory old new before after result → MayGive fixed_of part_of moved_of old.number before after
memory-may-give old new before after (Ok Event) s = memory-gives old new before after (s.0 refl)
memory-may-give old new before after (Ok Blocked) s = memory-gives-room before after old.number (s.1 refl).1
memory-may-give old new before after (Err refusal) s = memory-gives-room before after old.number s.2.1

-- and of an area: an entry, or nothing where the processor is refused
abbrev pub StepsArea : Seen → Seen → AreaValue → AreaValue → Result Unit NoRoom → Type 0
StepsArea old new before after result = OnOk result (MakesInArea old new before after) × OnErr result ((new ≡ old) × AreaRoomAlone before after)

pub area-may-give : (old new : Seen) (before after : AreaValue) (result : Result Unit NoRoom) → StepsArea old new before after result → MayGive fixed_area part_area moved_area old.number before after
area-may-give old new before after (Ok done) s = area-gives old new before after s.0
area-may-give old new before after (Err refusal) s = area-gives-room before after old.number s.1.1

-- ---- the processor is the same

module _ {T : Type 0} (seen : T → Seen) (NeverFails : T → Type 0) where
  pub same-then : (a b c : T) → IsSame seen NeverFails a b → IsSame seen NeverFails b c → IsSame seen NeverFails a c
  same-then a b c ab bc = record {
    boot = bc.boot ∙ ab.boot;
    number = bc.number ∙ ab.number;
    script = bc.script ∙ ab.script;
    made_before = bc.made_before ∙ ab.made_before;
    faults_before = bc.faults_before ∙ ab.faults_before;
    never_fails = λ never. bc.never_fails (ab.never_fails never);
    grows = (
      ab.grows.0 ++ bc.grows.0,
      bc.grows.1 ∙ ap (λ ms. ms ++ bc.grows.0) ab.grows.1 ∙ append_assoc (seen a).moved ab.grows.0 bc.grows.0,
    );
  }

  pub works-same : (old new : T) → Works (seen old) (seen new) → (NeverFails old → NeverFails new) → IsSame seen NeverFails old new
  works-same old new w never = record {
    boot = w.boot;
    number = w.number;
    script = w.script;
    made_before = w.made_before;
    faults_before = w.faults_before;
    never_fails = never;
    grows = ([], w.moved ∙ sym (append-nil (seen old).moved));
  }

  pub makes-same : (old new : T) (m : Moved) → IsUnasked (seen old) (seen new) → (seen new).moved ≡ (seen old).moved ++ m ∷ [] → (NeverFails old → NeverFails new) → IsSame seen NeverFails old new
  makes-same old new m u moved never = record {
    boot = u.boot;
    number = u.number;
    script = u.script;
    made_before = u.made_before;
    faults_before = u.faults_before;
    never_fails = never;
    grows = (m ∷ [], moved);
  }

  pub still-same : (old new : T) → seen new ≡ seen old → (NeverFails old → NeverFails new) → IsSame seen NeverFails old new
  still-same old new is never = record {
    boot = ap (λ (c : Seen). c.boot) is;
    number = ap (λ (c : Seen). c.number) is;
    script = ap (λ (c : Seen). c.script) is;
    made_before = ap (λ (c : Seen). c.made_before) is;
    faults_before = ap (λ (c : Seen). c.faults_before) is;
    never_fails = never;
    grows = ([], ap (λ (c : Seen). c.moved) is ∙ sym (append-nil (seen old).moved));
  }

  memory-same : (old new : T) (before after : MemoryValue) (result : Result Stepped NoRoom) → StepsMemory (seen old) (seen new) before after result → (NeverFails old → NeverFails new) → IsSame seen NeverFails old new
  memory-same old new before after (Ok Event) s never = let m = s.0 refl in makes-same old new m.m m.makes.same m.makes.moved never
  memory-same old new before after (Ok Blocked) s never = still-same old new (s.1 refl).0 never
  memory-same old new before after (Err refusal) s never = still-same old new s.2.0 never

  pub area-same : (old new : T) (before after : AreaValue) (result : Result Unit NoRoom) → StepsArea (seen old) (seen new) before after result → (NeverFails old → NeverFails new) → IsSame seen NeverFails old new
  area-same old new before after (Ok done) s never = makes-same old new s.0.m s.0.makes.same s.0.makes.moved never
  area-same old new before after (Err refusal) s never = still-same old new s.1.0 never

  pub own-same : (old new : T) (result : Result Unit NoRoom) → OnOk result (MakesOwn (seen old) (seen new)) → OnErr result (seen new ≡ seen old) → (NeverFails old → NeverFails new) → IsSame seen NeverFails old new
  own-same old new (Ok done) makes refused never = makes-same old new makes.m makes.makes.same makes.makes.moved never
  own-same old new (Err refusal) makes refused never = still-same old new refused never

-- ---- at its seat

module _ {T : Type 0} (seen : T → Seen) (stands : T → Ground → Type 0) where
  -- a processor that is the same stays at its seat, where it stands over whatever it stood over
  pub seated-kept : (locks : Locks) (passes : Passes) (old new : T) → Seated seen stands locks passes old → (seen new).number ≡ (seen old).number → (seen new).boot ≡ (seen old).boot → ((base : Ground) → stands old base → stands new base)
      → Seated seen stands locks passes new
  seated-kept locks passes old new s number boot keeps = record {
    left = s.left;
    memory = holds-kept fixed_of part_of moved_of locks.memory passes.memory s.left.memory (seen old) (seen new) s.memory number boot;
    areas = areas-kept locks.areas.items passes.areas.items s.left.areas (seen old) (seen new) s.areas number boot;
    standing = keeps s.left s.standing;
  }

module _ {T : Type 0} (seen : T → Seen) (stands : T → Ground → Type 0) (NeverFails : T → Type 0)
    (left_standing : (c : T) (left found : Ground) → stands c left → FoundAgain (seen c).number left found → stands c found) where
  -- ---- a step of the memory

  -- work leaves a processor at its seat, and it stands over the memory that it then finds
  pub worked-found : (locks : Locks) (passes : Passes) (old worked : T) (taken before : MemoryValue) → (s : Seated seen stands locks passes old) → Works (seen old) (seen worked) → ((base : Ground) → stands old base → stands worked base)
      → Finds fixed_of part_of moved_of passes.memory.known taken → before ≡ taken → WaitingFalls before.boot before.entries → stands worked (ground_of before s.left.areas)
  worked-found locks passes old worked taken before s w keeps finds is falls =
      let holds = holds-kept fixed_of part_of moved_of locks.memory passes.memory s.left.memory (seen old) (seen worked) s.memory w.number w.boot in
      left_standing worked s.left (with_memory s.left before) (keeps s.left s.standing)
      (over-memory (seen worked).number s.left before (memory-again locks.memory passes.memory s.left.memory before (seen worked) holds (subst (Finds fixed_of part_of moved_of passes.memory.known) (sym is) finds) falls))

  -- after its step it may give the lock back
  pub stepped-may-give : (locks : Locks) (passes : Passes) (old worked new : T) (grip : GripSeen MemoryValue) (taken before after : MemoryValue) (result : Result Stepped NoRoom)
      → Seated seen stands locks passes old → Works (seen old) (seen worked) → grip ≡ record { table = passes.memory.table; known = passes.memory.known; taken = taken } → before ≡ taken
      → StepsMemory (seen worked) (seen new) before after result → MayGive fixed_of part_of moved_of grip.known.number grip.taken after
  stepped-may-give locks passes old worked new grip taken before after result s w is_grip is step =
      let number : grip.known.number ≡ (seen worked).number = ap (λ (g : GripSeen MemoryValue). g.known.number) is_grip ∙ s.memory.number ∙ sym w.number in
      let state : grip.taken ≡ before = ap (λ (g : GripSeen MemoryValue). g.taken) is_grip ∙ sym is in
      subst (λ n. MayGive fixed_of part_of moved_of n grip.taken after) (sym number) (subst (λ m. MayGive fixed_of part_of moved_of (seen worked).number m after) (sym state) (memory-may-give (seen worked) (seen new) before after result step))

  -- and is the same processor, at its seat with the pass that it got
  pub stepped-seated : (locks : Locks) (passes : Passes) (given : PassSeen) (old worked new : T) (grip : GripSeen MemoryValue) (taken before after : MemoryValue) (result : Result Stepped NoRoom)
      → Seated seen stands locks passes old → Works (seen old) (seen worked) → ((base : Ground) → stands old base → stands worked base) → (NeverFails old → NeverFails worked)
      → grip ≡ record { table = passes.memory.table; known = passes.memory.known; taken = taken } → Finds fixed_of part_of moved_of passes.memory.known taken → before ≡ taken → WaitingFalls before.boot before.entries
      → StepsMemory (seen worked) (seen new) before after result → (NeverFails worked → NeverFails new) → ((areas : List AreaValue) → stands worked (ground_of before areas) → stands new (ground_of after areas))
      → given.table ≡ grip.table → given.known ≡ left_known part_of moved_of grip.known grip.taken after
      → IsSame seen NeverFails old new × Seated seen stands locks (record { memory = given; areas = passes.areas }) new
  stepped-seated locks passes given old worked new grip taken before after result s w keeps never_work is_grip finds is falls step never_step stood table known =
      let same = memory-same seen NeverFails worked new before after result step never_step in
      let holds = holds-kept fixed_of part_of moved_of locks.memory passes.memory s.left.memory (seen old) (seen worked) s.memory w.number w.boot in
      let kept = areas-kept locks.areas.items passes.areas.items s.left.areas (seen old) (seen worked) s.areas w.number w.boot in
      let standing = worked-found locks passes old worked taken before s w keeps finds is falls in
      let gives = subst (λ m. MayGive fixed_of part_of moved_of (seen worked).number m after) is (memory-may-give (seen worked) (seen new) before after result step) in (
        same-then seen NeverFails old worked new (works-same seen NeverFails old worked w never_work) same,
        record {
          left = ground_of after s.left.areas;
          memory =
              holds-given fixed_of part_of moved_of locks.memory passes.memory given s.left.memory taken after (seen worked) (seen new) holds same.number same.boot finds gives
              (table ∙ ap (λ (g : GripSeen MemoryValue). g.table) is_grip) (known ∙ ap (λ (g : GripSeen MemoryValue). left_known part_of moved_of g.known g.taken after) is_grip);
          areas = areas-kept locks.areas.items passes.areas.items s.left.areas (seen worked) (seen new) kept same.number same.boot;
          standing = stood s.left.areas standing;
        },
      )

  -- ---- a step in an area

  -- the pass and the area of a number, as the processor left it
  pub record AreaSeat (locks : Locks) (passes : Passes) (c : T) (left : Ground) (n : ℕ) (lock : LockSeen) (pass : PassSeen) : Type 0 where
    pub got_lock : slice_get locks.areas.items n ≡ Some lock
    pub got_pass : slice_get passes.areas.items n ≡ Some pass
    pub was : AreaValue
    pub number : was.number ≡ n
    pub has : HasArea left was
    pub holds : HoldsArea lock pass was (seen c)

  -- they are there where the processor needs this area
  pub area-seat : ((c : Seen) (base : Ground) (n : ℕ) → Stands c base → need_of c ≡ need.Area n → (area : AreaValue) × (area.number ≡ n) × HasArea base area) → ((c : T) (base : Ground) → stands c base → Stands (seen c) base)
      → (locks : Locks) (passes : Passes) (c : T) (s : Seated seen stands locks passes c) (n : ℕ) → need_of (seen c) ≡ need.Area n → (lock : LockSeen) (pass : PassSeen) → lock ≡ get_or locks.areas.items n lock → pass ≡ get_or passes.areas.items n pass
      → AreaSeat locks passes c s.left n lock pass
  area-seat there told locks passes c s n needs lock pass is_lock is_pass =
      let area = there (seen c) s.left n (told c s.left s.standing) needs in
      let got : slice_get s.left.areas n ≡ Some area.0 = subst (λ k. slice_get s.left.areas k ≡ Some area.0) area.1 area.2 in
      let below = slice_get_within s.left.areas n area.0 got in
      let got_lock = slice_get_read locks.areas.items (length locks.areas.items) n lock refl (omega (arith, below, s.areas.locks_count)) is_lock in
      let got_pass = slice_get_read passes.areas.items (length passes.areas.items) n pass refl (omega (arith, below, s.areas.passes_count)) is_pass in
      record {
        got_lock = got_lock;
        got_pass = got_pass;
        was = area.0;
        number = area.1;
        has = area.2;
        holds = s.areas.each n lock pass area.0 got_lock got_pass got;
      }

  pub area-within : ((c : Seen) (base : Ground) (n : ℕ) → Stands c base → need_of c ≡ need.Area n → (area : AreaValue) × (area.number ≡ n) × HasArea base area) → ((c : T) (base : Ground) → stands c base → Stands (seen c) base)
      → (locks : Locks) (passes : Passes) (c : T) → Seated seen stands locks passes c → (n : ℕ) → need_of (seen c) ≡ need.Area n → (n < length locks.areas.items) × (n < length passes.areas.items)
  area-within there told locks passes c s n needs =
      let area = there (seen c) s.left n (told c s.left s.standing) needs in
      let below = slice_get_within s.left.areas n area.0 (subst (λ k. slice_get s.left.areas k ≡ Some area.0) area.1 area.2) in
      (omega (arith, below, s.areas.locks_count), omega (arith, below, s.areas.passes_count))

  -- it stands over the area that it finds when it takes the lock
  pub area-found : (locks : Locks) (passes : Passes) (c : T) (s : Seated seen stands locks passes c) (n : ℕ) (lock : LockSeen) (pass : PassSeen) (found : AreaValue) → AreaSeat locks passes c s.left n lock pass
      → Finds fixed_area part_area moved_area pass.known found → (found.number ≡ n) × HasArea (with_area s.left found) found × stands c (with_area s.left found)
  area-found locks passes c s n lock pass found seat finds =
      let again = area-again lock pass seat.was found (seen c) seat.holds finds in (
        again.number ∙ seat.number,
        slice_get-set_same s.left.areas found.number seat.was found (subst (λ k. slice_get s.left.areas k ≡ Some seat.was) (sym again.number) seat.has),
        left_standing c s.left (with_area s.left found) s.standing (over-area (seen c).number s.left seat.was found seat.has again),
      )

  -- so it may make its step there
  pub area-ready : (locks : Locks) (passes : Passes) (c : T) (s : Seated seen stands locks passes c) (n : ℕ) (lock : LockSeen) (pass : PassSeen) (taken found : AreaValue) → AreaSeat locks passes c s.left n lock pass
      → Finds fixed_area part_area moved_area pass.known taken → found ≡ taken → need_of (seen c) ≡ need.Area n → (need_of (seen c) ≡ need.Area found.number) × ((base : Ground) × HasArea base found × stands c base)
  area-ready locks passes c s n lock pass taken found seat finds is needs =
      let over = area-found locks passes c s n lock pass found seat (subst (Finds fixed_area part_area moved_area pass.known) (sym is) finds) in
      (needs ∙ ap need.Area (sym over.0), (with_area s.left found, over.1, over.2))

  -- after it the lock may be given back
  pub area-stepped-may-give : (locks : Locks) (passes : Passes) (old new : T) (s : Seated seen stands locks passes old) (n : ℕ) (lock : LockSeen) (pass : PassSeen) (grip : GripSeen AreaValue) (taken found after : AreaValue) (result : Result Unit NoRoom)
      → AreaSeat locks passes old s.left n lock pass → grip ≡ record { table = pass.table; known = pass.known; taken = taken } → found ≡ taken → StepsArea (seen old) (seen new) found after result → MayGive fixed_area part_area moved_area grip.known.number grip.taken after
  area-stepped-may-give locks passes old new s n lock pass grip taken found after result seat is_grip is step =
      let number : grip.known.number ≡ (seen old).number = ap (λ (g : GripSeen AreaValue). g.known.number) is_grip ∙ seat.holds.number in
      let state : grip.taken ≡ found = ap (λ (g : GripSeen AreaValue). g.taken) is_grip ∙ sym is in
      subst (λ k. MayGive fixed_area part_area moved_area k grip.taken after) (sym number) (subst (λ a. MayGive fixed_area part_area moved_area (seen old).number a after) (sym state) (area-may-give (seen old) (seen new) found after result step))

  number-kept : (old new : Seen) (found after : AreaValue) (result : Result Unit NoRoom) → StepsArea old new found after result → after.number ≡ found.number
  number-kept old new found after (Ok done) step = step.0.number
  number-kept old new found after (Err refusal) step = step.1.1.number

  -- and it is the same processor, at its seat with the pass that it got
  pub area-seated : (locks : Locks) (passes left : Passes) (old new : T) (s : Seated seen stands locks passes old) (n : ℕ) (lock : LockSeen) (pass given : PassSeen) (grip : GripSeen AreaValue) (taken found after : AreaValue) (result : Result Unit NoRoom)
      → AreaSeat locks passes old s.left n lock pass → grip ≡ record { table = pass.table; known = pass.known; taken = taken } → Finds fixed_area part_area moved_area pass.known taken → found ≡ taken
      → StepsArea (seen old) (seen new) found after result → (NeverFails old → NeverFails new) → ((base : Ground) → HasArea base found → stands old base → stands new (with_area base after))
      → given.table ≡ grip.table → given.known ≡ left_known part_area moved_area grip.known grip.taken after → left.memory ≡ passes.memory → left.areas.items ≡ slice_set passes.areas.items n given
      → IsSame seen NeverFails old new × Seated seen stands locks left new
  area-seated locks passes left old new s n lock pass given grip taken found after result seat is_grip finds is step never stood table known memory areas =
      let same = area-same seen NeverFails old new found after result step never in
      let finds' = subst (Finds fixed_area part_area moved_area pass.known) (sym is) finds in
      let over = area-found locks passes old s n lock pass found seat finds' in
      let holds =
      holds-given fixed_area part_area moved_area lock pass given seat.was found after (seen old) (seen new) seat.holds same.number same.boot finds' (area-may-give (seen old) (seen new) found after result step)
      (table ∙ ap (λ (g : GripSeen AreaValue). g.table) is_grip)
      (known ∙ ap (λ (g : GripSeen AreaValue). left_known part_area moved_area g.known g.taken after) is_grip ∙ ap (λ a. left_known part_area moved_area pass.known a after) (sym is)) in
      let kept = areas-kept locks.areas.items passes.areas.items s.left.areas (seen old) (seen new) s.areas same.number same.boot in
      let set = areas-set locks.areas.items passes.areas.items s.left.areas (seen new) n lock given after kept seat.got_lock holds in
      let number : after.number ≡ n = number-kept (seen old) (seen new) found after result step ∙ over.0 in
      let twice : slice_set (slice_set s.left.areas found.number found) after.number after ≡ slice_set s.left.areas n after =
      subst (λ k. slice_set (slice_set s.left.areas k found) after.number after ≡ slice_set s.left.areas n after) (sym over.0)
      (subst (λ k. slice_set (slice_set s.left.areas n found) k after ≡ slice_set s.left.areas n after) (sym number) (set-twice s.left.areas n found after)) in (
        same,
        record {
          left = with_area (with_area s.left found) after;
          memory =
              subst (λ p. HoldsMemory locks.memory p s.left.memory (seen new)) (sym memory)
              (holds-kept fixed_of part_of moved_of locks.memory passes.memory s.left.memory (seen old) (seen new) s.memory same.number same.boot);
          areas =
              subst (λ ps. HoldsAreas locks.areas.items ps (slice_set (slice_set s.left.areas found.number found) after.number after) (seen new)) (sym areas)
              (subst (λ bs. HoldsAreas locks.areas.items (slice_set passes.areas.items n given) bs (seen new)) (sym twice) set);
          standing = stood (with_area s.left found) over.1 over.2;
        },
      )

-- ---- an end

-- a step of the memory that was refused
pub refused-ended : (old new : Seen) (left : Passes) (known : Known) (taken before after : MemoryValue) (refusal : NoRoom) → left.memory.known ≡ left_known part_of moved_of known taken after → (new ≡ old) × RoomAlone before after × (old.out ≡ None)
    → ((stamp : ℕ) → (let answer : Result Stepped NoRoom = Err refusal in answer) ≡ Err (Worn stamp) → (2 ^ 64 ≤ stamp) × (stamp ≡ stamp_before old before)) → Ended new left (Err refusal)
refused-ended old new left known taken before after refusal is_known refused worn = record {
  finished = tt;
  refused = ap (λ (c : Seen). c.out) refused.0 ∙ refused.2;
  worn = λ stamp is.
      let w = worn stamp (ap (λ n. Err n) (let same : refusal ≡ Worn stamp = cc in same)) in
      record {
        great = w.0;
        place = Memory;
        stands = w.1 ∙ ap (λ (c : Seen). max (greatest_stamp c.moved) (last_stamp before.entries)) (sym refused.0)
            ∙ ap (λ es. max (greatest_stamp new.moved) (last_stamp es)) (sym refused.1.entries)
            ∙ ap (max (greatest_stamp new.moved)) (sym (greatest-last after.entries))
            ∙ ap (λ (k : Known). max (greatest_stamp new.moved) (greatest_stamp k.seen)) (sym is_known);
      };
}

-- one in an area, or of the processor's own: it goes on, or was refused
module _ {T : Type 0} (seen : T → Seen) (stands : T → Ground → Type 0) (NeverFails : T → Type 0) where
  pub gone-on : (locks : Locks) (left : Passes) (old new : T) (answer : Result Unit NoRoom) → IsSame seen NeverFails old new → Seated seen stands locks left new → ((refusal : NoRoom) → answer ≡ Err refusal → Ended (seen new) left (Err refusal))
      → Progresses seen stands NeverFails locks old new (gone_on left answer)
  gone-on locks left old new (Ok done) same seated ends = (same, seated)
  gone-on locks left old new (Err refusal) same seated ends = (same, seated, ends refusal refl)

-- a step that needs an area, or nothing beside the processor, is made with nothing out
need-rests : (out : _) (rest answer : Need) → need_by out rest ≡ answer → answer ≢ need.Memory → out ≡ None
need-rests None rest answer is other = refl
need-rests (Some span) rest answer is other = absurd (other (sym is))

pub rests-for-area : (c : Seen) (n : ℕ) → need_of c ≡ need.Area n → c.out ≡ None
rests-for-area c n is = need-rests c.out (need_for c.boot c.number (own_now c) (present_command c)) (need.Area n) is (λ bad. cc)

pub rests-by-itself : (c : Seen) → need_of c ≡ need.Own → c.out ≡ None
rests-by-itself c is = need-rests c.out (need_for c.boot c.number (own_now c) (present_command c)) need.Own is (λ bad. cc)

pub area-refused : (old new : Seen) (passes left : Passes) (n : ℕ) (pass given : PassSeen) (known : Known) (taken before after : AreaValue) (refusal : NoRoom) → need_of old ≡ need.Area n
    → slice_get passes.areas.items n ≡ Some pass → left.areas.items ≡ slice_set passes.areas.items n given → given.known ≡ left_known part_area moved_area known taken after
    → (new ≡ old) × AreaRoomAlone before after → ((stamp : ℕ) → (let answer : Result Unit NoRoom = Err refusal in answer) ≡ Err (Worn stamp) → (2 ^ 64 ≤ stamp) × (stamp ≡ stamp_in old before)) → Ended new left (Err refusal)
area-refused old new passes left n pass given known taken before after refusal needs got areas is_known refused worn = record {
  finished = tt;
  refused = ap (λ (c : Seen). c.out) refused.0 ∙ rests-for-area old n needs;
  worn = λ stamp is.
      let w = worn stamp (ap (λ x. Err x) (let same : refusal ≡ Worn stamp = cc in same)) in
      let found : seen_in left (Area n) ≡ before.moved =
      ap (λ o. option_map_or (λ (p : PassSeen). p.known.seen) o []) (ap (λ ps. slice_get ps n) areas ∙ slice_get-set_same passes.areas.items n pass given got) ∙ ap (λ (k : Known). k.seen) is_known ∙ refused.1.moved in
      record {
        great = w.0;
        place = Area n;
        stands = w.1 ∙ ap (λ (c : Seen). max (greatest_stamp c.moved) (greatest_stamp before.moved)) (sym refused.0) ∙ ap (λ ms. max (greatest_stamp new.moved) (greatest_stamp ms)) (sym found);
      };
}

pub own-refused : (old new : Seen) (passes : Passes) (refusal : NoRoom) → need_of old ≡ need.Own → new ≡ old → ((stamp : ℕ) → (let answer : Result Unit NoRoom = Err refusal in answer) ≡ Err (Worn stamp) → (2 ^ 64 ≤ stamp) × (stamp ≡ greatest_stamp old.moved))
    → Ended new passes (Err refusal)
own-refused old new passes refusal needs same worn = record {
  finished = tt;
  refused = ap (λ (c : Seen). c.out) same ∙ rests-by-itself old needs;
  worn = λ stamp is.
      let w = worn stamp (ap (λ x. Err x) (let same : refusal ≡ Worn stamp = cc in same)) in
      let own : greatest_stamp old.moved ≡ greatest_stamp new.moved = ap (λ (c : Seen). greatest_stamp c.moved) (sym same) in
      record { great = w.0; place = Own; stands = omega (arith, w.1, own) };
}

ended-out : (c : Seen) (passes : Passes) (answer : Result Unit NoRoom) → Ended c passes answer → c.out ≡ None
ended-out c passes (Ok done) e = need-rests c.out (need_for c.boot c.number (own_now c) (present_command c)) need.Finished e.finished (λ bad. cc)
ended-out c passes (Err refusal) e = e.refused

-- nothing is left to report where nothing is out
none-done : (c : Seen) (memory : MemoryValue) (out : _) (finished : Option Accepted) → IsOut c memory out finished → out ≡ None → finished ≡ None
none-done c memory None None is none = refl
none-done c memory None (Some calls) is none = absurd is
none-done c memory (Some span) calls is none = cc

-- entries that follow over some lists follow over the same ones
follows-over : (c : Seen) (kept seen : Place → List Moved) → ((place : Place) → seen place ≡ kept place) → FollowsAll c kept → FollowsAll c seen
follows-over c kept seen same follows before later m is =
    let at = follows before later m is in (at.0, over m.entry.place m at.0 at.1, at.2)
  where
    over : (place : Place) (m : Moved) (there : List Moved) → StoodIn place m kept there → StoodIn place m seen there
    over Own m there stood = stood
    over Memory m there stood = (stood.0, same Memory ∙ stood.1)
    over (Area area) m there stood = (stood.0, same (Area area) ∙ stood.1)

-- what passes have seen of each place is what stood there when its lock was given back
seen-left : (locks : Locks) (passes : Passes) (left : Ground) (c : Seen) → HoldsMemory locks.memory passes.memory left.memory c → HoldsAreas locks.areas.items passes.areas.items left.areas c → (place : Place) → seen_in passes place ≡ there_in left place
seen-left locks passes left c memory areas Memory = memory.knows.all_seen
seen-left locks passes left c memory areas Own = refl
seen-left locks passes left c memory areas (Area n) = by_place locks.areas.items passes.areas.items left.areas areas
  where
    by_place : (ls : List LockSeen) (ps : List PassSeen) (bs : List AreaValue) → HoldsAreas ls ps bs c → option_map_or (λ (p : PassSeen). p.known.seen) (slice_get ps n) [] ≡ option_map_or (λ (a : AreaValue). a.moved) (slice_get bs n) []
    by_place ls ps bs h = elim (slice_get_cases bs n).1 [
      | inl a ↦ elim (slice_get_cases ps n).1 [
        | inl p ↦ elim (slice_get_cases ls n).1 [
          | inl l ↦ ap (λ o. option_map_or (λ (x : PassSeen). x.known.seen) o []) p.2 ∙ (h.each n l.0 p.0 a.0 l.2 p.2 a.2).knows.all_seen ∙ sym (ap (λ o. option_map_or (λ (x : AreaValue). x.moved) o []) a.2)
          | inr l ↦ absurd (omega (arith, l.0, a.1, h.locks_count))
        ]
        | inr p ↦ absurd (omega (arith, p.0, a.1, h.passes_count))
      ]
      | inr a ↦ elim (slice_get_cases ps n).1 [
        | inl p ↦ absurd (omega (arith, p.1, a.0, h.passes_count))
        | inr p ↦ ap (λ o. option_map_or (λ (x : PassSeen). x.known.seen) o []) p.1 ∙ sym (ap (λ o. option_map_or (λ (x : AreaValue). x.moved) o []) a.1)
      ]
    ]

module _ {T : Type 0} (seen : T → Seen) (stands : T → Ground → Type 0) (NeverFails : T → Type 0)
    (told : (c : T) (base : Ground) → stands c base → Stands (seen c) base) where
  -- a processor that ended has run
  pub ended-ran : (locks : Locks) (passes : Passes) (old new : T) (answer : Result Unit NoRoom) → IsSame seen NeverFails old new → Seated seen stands locks passes new → Ended (seen new) passes answer
      → Ran seen stands NeverFails locks old new passes answer
  ended-ran locks passes old new answer same s e = record {
    seated = s;
    later = record {
      later = record {
        boot = same.boot;
        number = same.number;
        script = same.script;
        made_before = same.made_before;
        faults_before = same.faults_before;
        reported = none-done (seen new) s.left.memory (seen new).out (seen new).done (told new s.left s.standing).out (ended-out (seen new) passes answer e);
      };
      never_fails = same.never_fails;
    };
    grows = same.grows;
    ended = e;
  }

  -- and its entries follow those that its passes have seen
  pub seated-follows : (locks : Locks) (passes : Passes) (c : T) → Seated seen stands locks passes c → FollowsAll (seen c) (seen_in passes)
  seated-follows locks passes c s = follows-over (seen c) (there_in s.left) (seen_in passes) (seen-left locks passes s.left (seen c) s.memory s.areas) (told c s.left s.standing).follows
