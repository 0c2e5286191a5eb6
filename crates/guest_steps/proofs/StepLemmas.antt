use Rattle.std.proofs.Common.{◌≡◌, ◌≢◌, ℕ, Bool, true, false, Option, None, Some, List, [], ◌∷◌, ◌++◌, refl, sym, ◌∙◌, ap, arith, map, cond, append-nil}
use Rattle.std.specs.Prelude.{All, ◌==◌}
use Rattle.std.specs.Option.{option_map}
use Rattle.std.proofs.lemmas.Bool.{ne_eqb}
use Rattle.std.proofs.lemmas.List.{map-append}
use Rattle.std.proofs.lemmas.List.Elements.{All-nil, All-cons}
use Rattle.guest_base.specs.declared.transfer.SlotRun.{SlotRun}
use Rattle.event_core.specs.declared.boot.Boot.{Boot}
use Rattle.event_core.specs.declared.entry.Entry.{Entry}
use Rattle.event_core.specs.declared.entry.Place.TheVariants.{Memory, Area}
use Rattle.event_core.specs.Claims.{Claimed, claim_of}
use Rattle.event_core.specs.Legal.{bare, same_place}
use Rattle.event_core.specs.Moved.{Moved, entries_of}
use Rattle.event_core.specs.Parted.{Fixed, Part}
use Rattle.event_core.proofs.SoundLemmas.{entries_of-push}
use Rattle.pool_laws.specs.Live.{live_of}
use Rattle.pool_laws.proofs.LiveLemmas.{live-of-other}
use Rattle.claim_lock.specs.Knows.{MayGive, IsOf}
use Rattle.io_areas.specs.Away.{FoundAgain as AreaAgain}
use Rattle.io_areas.specs.UnderLock as area
use Rattle.io_areas.specs.Value.{AreaValue}
use Rattle.memory_core.specs.Away.{FoundAgain as MemoryAgain, NoneOf}
use Rattle.memory_core.specs.UnderLock.{fixed_of, part_of, moved_of, unmoved, claim_part, pages_out, room_kept}
use Rattle.memory_core.specs.Value.{MemoryValue, Handed, handed_to}
use Rattle.memory_core.specs.Waiting.{waiting_left}
use Rattle.guest_steps.specs.Ground.{FoundAgain, Ground, there_in}
use Rattle.guest_steps.specs.Seen.{Seen}
use Rattle.guest_steps.specs.Steps.{AllRoomAlone, AreaRoomAlone, MakesIn, MakesInArea, MakesInMemory, RoomAlone, there_after, without_reply}
use Rattle.guest_steps.proofs.FoundLemmas.{claim-stays}
use Rattle.guest_steps.proofs.GroundLemmas.{each-weaker, there-of}

-- What a step of a processor does to the places.

-- ---- entries with the bytes that they moved

pub entries-unmoved : (entries : List Entry) → entries_of (map unmoved entries) ≡ entries
entries-unmoved [] = refl
entries-unmoved (e ∷ es) = ap (λ xs. e ∷ xs) (entries-unmoved es)

-- an entry that is added or isn't
pub after-if : (b : Bool) (there : List Moved) (m : Moved) → cond b (there ++ bare m ∷ []) there ≡ there ++ cond b (bare m ∷ []) []
after-if true there m = refl
after-if false there m = sym (append-nil there)

-- the memory's entries behind a step
pub entries-after : (before after : List Entry) (m : Moved) (b : Bool) → map unmoved after ≡ cond b (map unmoved before ++ bare m ∷ []) (map unmoved before) → after ≡ before ++ cond b (without_reply m.entry ∷ []) []
entries-after before after m true is =
    sym (entries-unmoved after) ∙ ap entries_of is ∙ entries_of-push (map unmoved before) (bare m) ∙ ap (λ es. es ++ without_reply m.entry ∷ []) (entries-unmoved before)
entries-after before after m false is = sym (entries-unmoved after) ∙ ap entries_of is ∙ entries-unmoved before ∙ sym (append-nil before)

none-added : (b : Bool) (e : Entry) (other : ℕ) → e.cpu.0 ≢ other → NoneOf other (cond b (e ∷ []) [])
none-added true e other differ = All-cons (λ (x : Entry). x.cpu.0 ≢ other) e [] differ (All-nil (λ (x : Entry). x.cpu.0 ≢ other))
none-added false e other differ = All-nil (λ (x : Entry). x.cpu.0 ≢ other)

none-moved : (b : Bool) (m : Moved) (other : ℕ) → m.entry.cpu.0 ≢ other → All (λ (x : Moved). x.entry.cpu.0 ≢ other) (cond b (bare m ∷ []) [])
none-moved true m other differ = All-cons (λ (x : Moved). x.entry.cpu.0 ≢ other) (bare m) [] differ (All-nil (λ (x : Moved). x.entry.cpu.0 ≢ other))
none-moved false m other differ = All-nil (λ (x : Moved). x.entry.cpu.0 ≢ other)

-- ---- others find the places as they left them, but for the entry

pub makes-leave-others : (old new : Seen) (before after : Ground) (other : ℕ) → MakesIn old new before after → other ≢ old.number → FoundAgain other before after
makes-leave-others old new before after other m differ =
    let his : m.m.entry.cpu.0 ≢ other = λ same. differ (sym same ∙ m.makes.next.mine) in
    let here = same_place Memory m.m.entry.place in
    let rest = cond here (without_reply m.m.entry ∷ []) [] in
    let longer : after.memory.entries ≡ before.memory.entries ++ rest = entries-after before.memory.entries after.memory.entries m.m here (m.there Memory) in
    let none : NoneOf other rest = none-added here (without_reply m.m.entry) other his in
    record {
      memory = record {
        boot = m.boot;
        rest = rest;
        longer = longer;
        others = none;
        claim = ap (λ b. claim_of b after.memory.entries other) m.boot ∙ ap (λ es. claim_of before.memory.boot es other) longer ∙ claim-stays before.memory.boot other before.memory.entries rest none;
        handed = m.others.handed other differ;
        waiting = m.others.waiting;
      };
      areas = record {
        count = m.areas.count;
        each = λ n was at.
            let one = m.areas.each n was at in
            let step = one.2 in
            let there = same_place (Area n) m.m.entry.place in
            let again : AreaAgain other was one.0 = record {
              number = step.0;
              slots = step.1;
              rest = cond there (bare m.m ∷ []) [];
              longer = sym (there-of after n one.0 one.1) ∙ m.there (Area n) ∙ ap (there_after m.m (Area n)) (there-of before n was at) ∙ after-if there was.moved m.m;
              others = none-moved there m.m other his;
            }
            in
            (one.0, one.1, again);
      };
    }

-- of the memory alone
pub memory-leaves-others : (old new : Seen) (before after : MemoryValue) (other : ℕ) → MakesInMemory old new before after → other ≢ old.number → MemoryAgain other before after
memory-leaves-others old new before after other m differ =
    let rest = without_reply m.m.entry ∷ [] in
    let none : NoneOf other rest = none-added true (without_reply m.m.entry) other (λ same. differ (sym same ∙ m.makes.next.mine)) in
    record {
      boot = m.boot;
      rest = rest;
      longer = m.entries;
      others = none;
      claim = ap (λ b. claim_of b after.entries other) m.boot ∙ ap (λ es. claim_of before.boot es other) m.entries ∙ claim-stays before.boot other before.entries rest none;
      handed = m.others.handed other differ;
      waiting = m.others.waiting;
    }

-- room alone: everyone finds the memory as it was
pub memory-room-leaves : (before after : MemoryValue) (any : ℕ) → RoomAlone before after → MemoryAgain any before after
memory-room-leaves before after any r = record {
  boot = r.boot;
  rest = [];
  longer = r.entries ∙ sym (append-nil before.entries);
  others = All-nil (λ (e : Entry). e.cpu.0 ≢ any);
  claim = ap (λ b. claim_of b after.entries any) r.boot ∙ ap (λ es. claim_of before.boot es any) r.entries;
  handed = ap (λ out. handed_to (with_out out) any) r.out;
  waiting = (let same : waiting_left before.boot after.entries ≡ waiting_left before.boot before.entries = ap (waiting_left before.boot) r.entries in omega (arith, same));
}
  where
    with_out : List (Option Handed) → MemoryValue
    with_out out = record { boot = before.boot; entries = before.entries; out = out; room = 0 }

pub area-room-leaves : (before after : AreaValue) (any : ℕ) → AreaRoomAlone before after → AreaAgain any before after
area-room-leaves before after any r = record {
  number = r.number;
  slots = r.slots;
  rest = [];
  longer = r.moved ∙ sym (append-nil before.moved);
  others = All-nil (λ (m : Moved). m.entry.cpu.0 ≢ any);
}

pub room-leaves : (before after : Ground) (any : ℕ) → AllRoomAlone before after → FoundAgain any before after
room-leaves before after any r = record {
  memory = memory-room-leaves before.memory after.memory any r.memory;
  areas = each-weaker AreaRoomAlone (AreaAgain any) (λ a b room. area-room-leaves a b any room) before.areas after.areas r.areas;
}

-- ---- what a processor may have done when it gives the memory's lock back

abbrev part_by : Boot → Option Claimed → Option Handed → Part
part_by boot claim handed = record { claim = option_map (claim_part boot) claim; converting = None; out = pages_out handed; room = room_kept handed; live = [] }

part-found : (other : ℕ) (left found : MemoryValue) → MemoryAgain other left found → part_of found other ≡ part_of left other
part-found other left found f =
    ap (λ b. part_by b (claim_of found.boot found.entries other) (handed_to found other)) f.boot
    ∙ ap (λ c. part_by left.boot c (handed_to found other)) f.claim
    ∙ ap (λ h. part_by left.boot (claim_of left.boot left.entries other) h) f.handed

fixed-found : (left found : MemoryValue) → found.boot ≡ left.boot → fixed_of found ≡ fixed_of left
fixed-found left found boot = ap (λ b. let f : Fixed = record { boot = Some b; areas = [] } in f) boot

pub makes-may-give : (old new : Seen) (before after : MemoryValue) → MakesInMemory old new before after → MayGive fixed_of part_of moved_of old.number before after
makes-may-give old new before after m =
    let added = unmoved (without_reply m.m.entry) in
    record {
      same_fixed = fixed-found before after m.boot;
      same_others = λ other differ. part-found other before after (memory-leaves-others old new before after other m differ);
      only_added = (
        added ∷ [],
        ap (map unmoved) m.entries ∙ map-append unmoved before.entries (without_reply m.m.entry ∷ []),
        All-cons (IsOf old.number) added [] m.makes.next.mine (All-nil (IsOf old.number)),
      );
    }

pub room-may-give : (before after : MemoryValue) (cpu : ℕ) → RoomAlone before after → MayGive fixed_of part_of moved_of cpu before after
room-may-give before after cpu r = record {
  same_fixed = fixed-found before after r.boot;
  same_others = λ other differ. part-found other before after (memory-room-leaves before after other r);
  only_added = ([], ap (map unmoved) r.entries ∙ sym (append-nil (map unmoved before.entries)), All-nil (IsOf cpu));
}

-- ---- and an area's lock

area-fixed : (before after : AreaValue) → after.number ≡ before.number → after.slots ≡ before.slots → area.fixed_of after ≡ area.fixed_of before
area-fixed before after number slots = ap (λ n. fixed_by n after.slots) number ∙ ap (λ s. fixed_by before.number s) slots where
  fixed_by : ℕ → ℕ → Fixed
  fixed_by n s = record { boot = None; areas = (n, s) ∷ [] }

area-part : (before after : AreaValue) (cpu : ℕ) → live_of cpu after.moved ≡ live_of cpu before.moved → area.part_of after cpu ≡ area.part_of before cpu
area-part before after cpu live = ap part_with live where
  part_with : List SlotRun → Part
  part_with runs = record { claim = None; converting = None; out = []; room = []; live = runs }

pub area-may-give : (old new : Seen) (before after : AreaValue) → MakesInArea old new before after → MayGive area.fixed_of area.part_of area.moved_of old.number before after
area-may-give old new before after m = record {
  same_fixed = area-fixed before after m.number m.slots;
  same_others = λ other differ.
      area-part before after other
      (ap (live_of other) m.moved ∙ live-of-other other before.moved (bare m.m) (ne_eqb m.m.entry.cpu.0 other (λ same. differ (sym same ∙ m.makes.next.mine))));
  only_added = (bare m.m ∷ [], m.moved, All-cons (IsOf old.number) (bare m.m) [] m.makes.next.mine (All-nil (IsOf old.number)));
}

pub area-room-may-give : (before after : AreaValue) (cpu : ℕ) → AreaRoomAlone before after → MayGive area.fixed_of area.part_of area.moved_of cpu before after
area-room-may-give before after cpu r = record {
  same_fixed = area-fixed before after r.number r.slots;
  same_others = λ other differ. area-part before after other (ap (live_of other) r.moved);
  only_added = ([], r.moved ∙ sym (append-nil before.moved), All-nil (IsOf cpu));
}
