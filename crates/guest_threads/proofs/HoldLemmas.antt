use Rattle.std.proofs.Common.{◌≡◌, ◌≢◌, ℕ, zero, suc, ◌<◌, Option, None, Some, List, [], ◌∷◌, ◌++◌, refl, sym, ◌∙◌, ap, subst, arith, append-nil, cond, map, inl, inr}
use Rattle.std.specs.Prelude.{length, slice_get, slice_set}
use Rattle.std.specs.List.{insert, remove}
use Rattle.std.specs.Option.{option_map}
use Rattle.std.proofs.lemmas.Bool.{cases_eq, ne_eqb}
use Rattle.std.proofs.lemmas.List.{map-append}
use Rattle.std.proofs.lemmas.List.Elements.{All-nil, All-cons}
use Rattle.guest_base.specs.declared.transfer.SlotRun.{SlotRun}
use Rattle.event_core.specs.declared.boot.Boot.{Boot}
use Rattle.event_core.specs.declared.entry.Entry.{Entry}
use Rattle.event_core.specs.Claims.{Claimed, claim_of, claim_step}
use Rattle.event_core.specs.Calls.{calls_of}
use Rattle.event_core.specs.Legal.{bare}
use Rattle.event_core.specs.Moved.{Moved}
use Rattle.event_core.specs.Parted.{Fixed, Part}
use Rattle.event_core.proofs.StandingLemmas.{claim_of-push}
use Rattle.pool_laws.specs.Live.{live_of}
use Rattle.pool_laws.proofs.LiveLemmas.{live-of-other}
use Rattle.claim_lock.specs.declared.known.Known.{Known}
use Rattle.claim_lock.specs.Knows.{Finds, MayGive, IsOf, left_known}
use Rattle.claim_lock.specs.Seen.{LockSeen, PassSeen}
use Rattle.claim_lock.proofs.Found.{own_left}
use Rattle.io_areas.specs.Away.{FoundAgain as AreaAgain}
use Rattle.io_areas.specs.UnderLock.{fixed_of as fixed_area, part_of as part_area, moved_of as moved_area}
use Rattle.io_areas.specs.Value.{AreaValue}
use Rattle.io_areas.proofs.UnderLockLemmas.{found-again as area-found-again, may-give-still as area-may-give-still}
use Rattle.memory_core.specs.Away.{FoundAgain as MemoryAgain, WaitingFalls}
use Rattle.memory_core.specs.UnderLock.{fixed_of, part_of, moved_of, unmoved, claim_part, pages_out, room_kept}
use Rattle.memory_core.specs.Value.{Handed, MemoryValue, handed_to}
use Rattle.memory_core.proofs.UnderLockLemmas.{found-again as memory-found-again, may-give-still as memory-may-give-still}
use Rattle.guest_steps.specs.Ground.{FoundAgain, Ground, with_area, with_memory}
use Rattle.guest_steps.specs.Seen.{Seen}
use Rattle.guest_steps.specs.Steps.{AreaRoomAlone, MakesInArea, MakesInMemory, RoomAlone, without_reply}
use Rattle.guest_steps.proofs.ListLemmas.{slice_get-set_other, slice_get-set_same}
use Rattle.guest_threads.specs.Seated.{Holds, HoldsArea, HoldsAreas, HoldsMemory, KnowsLeft}

-- What a processor knows of what it left under a lock, and what it may do there.

module _ {S : Type 0} (fixed : S → Fixed) (part : S → ℕ → Part) (moved : S → List Moved) where
  -- the same processor, at the same lock
  pub holds-kept : (lock : LockSeen) (pass : PassSeen) (left : S) (old new : Seen) → Holds fixed part moved lock pass left old → new.number ≡ old.number → new.boot ≡ old.boot → Holds fixed part moved lock pass left new
  holds-kept lock pass left old new h number boot = record {
    table = h.table;
    number = h.number ∙ sym number;
    seats = h.seats;
    cpus = h.cpus ∙ sym (ap (λ (b : Boot). b.cpus) boot);
    knows = h.knows;
  }

  -- and with the pass that it got when it gave the lock back
  pub holds-given : (lock : LockSeen) (pass given : PassSeen) (left found after : S) (old new : Seen) → Holds fixed part moved lock pass left old → new.number ≡ old.number → new.boot ≡ old.boot → Finds fixed part moved pass.known found
      → MayGive fixed part moved old.number found after → given.table ≡ pass.table → given.known ≡ left_known part moved pass.known found after → Holds fixed part moved lock given after new
  holds-given lock pass given left found after old new h number boot finds gives table known =
      let gives' = subst (λ n. MayGive fixed part moved n found after) (sym h.number) gives in
      record {
        table = table ∙ h.table;
        number = ap (λ (k : Known). k.number) known ∙ h.number ∙ sym number;
        seats = ap (λ (k : Known). k.seats) known ∙ h.seats;
        cpus = h.cpus ∙ sym (ap (λ (b : Boot). b.cpus) boot);
        knows = subst (λ (k : Known). KnowsLeft fixed part moved k after) (sym known)
            (record {
              as_given = sym (gives'.same_fixed ∙ finds.as_given);
              as_left = refl;
              all_seen = refl;
              own_alone = sym (own_left fixed part moved pass.known.number found after gives' pass.known refl finds);
            });
      }

-- ---- what a step did, when the lock is given back

-- of the memory
abbrev part_by : Boot → Option Claimed → Option Handed → Part
part_by boot claim handed = record { claim = option_map (claim_part boot) claim; converting = None; out = pages_out handed; room = room_kept handed; live = [] }

part-same : (old new : MemoryValue) (cpu : ℕ) → new.boot ≡ old.boot → claim_of new.boot new.entries cpu ≡ claim_of old.boot old.entries cpu → handed_to new cpu ≡ handed_to old cpu → part_of new cpu ≡ part_of old cpu
part-same old new cpu boot claim handed =
    ap (λ b. part_by b (claim_of new.boot new.entries cpu) (handed_to new cpu)) boot
    ∙ ap (λ c. part_by old.boot c (handed_to new cpu)) claim
    ∙ ap (λ h. part_by old.boot (claim_of old.boot old.entries cpu) h) handed

claim-other : (boot : Boot) (entries : List Entry) (e : Entry) (other : ℕ) → e.cpu.0 ≢ other → claim_of boot (entries ++ e ∷ []) other ≡ claim_of boot entries other
claim-other boot entries e other differ =
    claim_of-push boot entries e other
    ∙ ap (λ b. cond b (claim_step boot (calls_of boot entries) (claim_of boot entries other) e.event) (claim_of boot entries other)) (ne_eqb e.cpu.0 other differ)

pub memory-gives : (old new : Seen) (before after : MemoryValue) → MakesInMemory old new before after → MayGive fixed_of part_of moved_of old.number before after
memory-gives old new before after m =
    let e = without_reply m.m.entry in
    let mine = m.makes.next.mine in
    record {
      same_fixed = ap (λ b. let f : Fixed = record { boot = Some b; areas = [] } in f) m.boot;
      same_others = λ other differ.
          part-same before after other m.boot
          (ap (λ b. claim_of b after.entries other) m.boot ∙ ap (λ es. claim_of before.boot es other) m.entries ∙ claim-other before.boot before.entries e other (λ same. differ (sym same ∙ mine)))
          (m.others.handed other differ);
      only_added = (
        unmoved e ∷ [],
        ap (map unmoved) m.entries ∙ map-append unmoved before.entries (e ∷ []),
        All-cons (IsOf old.number) (unmoved e) [] mine (All-nil (IsOf old.number)),
      );
    }

pub memory-gives-room : (before after : MemoryValue) (cpu : ℕ) → RoomAlone before after → MayGive fixed_of part_of moved_of cpu before after
memory-gives-room before after cpu r = memory-may-give-still cpu before after r.boot r.entries r.out

-- and of an area
area-fixed : (before after : AreaValue) → after.number ≡ before.number → after.slots ≡ before.slots → fixed_area after ≡ fixed_area before
area-fixed before after number slots = ap (λ n. by n after.slots) number ∙ ap (λ s. by before.number s) slots where
  by : ℕ → ℕ → Fixed
  by n s = record { boot = None; areas = (n, s) ∷ [] }

area-part : (before after : AreaValue) (cpu : ℕ) → live_of cpu after.moved ≡ live_of cpu before.moved → part_area after cpu ≡ part_area before cpu
area-part before after cpu live = ap by live where
  by : List SlotRun → Part
  by runs = record { claim = None; converting = None; out = []; room = []; live = runs }

pub area-gives : (old new : Seen) (before after : AreaValue) → MakesInArea old new before after → MayGive fixed_area part_area moved_area old.number before after
area-gives old new before after m =
    let mine = m.makes.next.mine in
    record {
      same_fixed = area-fixed before after m.number m.slots;
      same_others =
          λ other differ.
          area-part before after other (ap (live_of other) m.moved ∙ live-of-other other before.moved (bare m.m) (ne_eqb m.m.entry.cpu.0 other (λ same. differ (sym same ∙ mine))));
      only_added = (bare m.m ∷ [], m.moved, All-cons (IsOf old.number) (bare m.m) [] mine (All-nil (IsOf old.number)));
    }

pub area-gives-room : (before after : AreaValue) (cpu : ℕ) → AreaRoomAlone before after → MayGive fixed_area part_area moved_area cpu before after
area-gives-room before after cpu r = area-may-give-still cpu before after r.number r.slots r.moved

-- ---- what is found again

memory-same : (cpu : ℕ) (memory : MemoryValue) → MemoryAgain cpu memory memory
memory-same cpu memory = record {
  boot = refl;
  rest = [];
  longer = sym (append-nil memory.entries);
  others = All-nil (λ (e : Entry). e.cpu.0 ≢ cpu);
  claim = refl;
  handed = refl;
  waiting = omega arith;
}

area-same : (cpu : ℕ) (area : AreaValue) → AreaAgain cpu area area
area-same cpu area = record {
  number = refl;
  slots = refl;
  rest = [];
  longer = sym (append-nil area.moved);
  others = All-nil (λ (m : Moved). m.entry.cpu.0 ≢ cpu);
}

pub memory-again : (lock : LockSeen) (pass : PassSeen) (left found : MemoryValue) (c : Seen) → HoldsMemory lock pass left c → Finds fixed_of part_of moved_of pass.known found → WaitingFalls found.boot found.entries
    → MemoryAgain c.number left found
memory-again lock pass left found c h finds falls =
    subst (λ n. MemoryAgain n left found) h.number
    (memory-found-again pass.known left found h.knows.as_given h.knows.as_left h.knows.all_seen h.knows.own_alone finds falls)

pub area-again : (lock : LockSeen) (pass : PassSeen) (left found : AreaValue) (c : Seen) → HoldsArea lock pass left c → Finds fixed_area part_area moved_area pass.known found → AreaAgain c.number left found
area-again lock pass left found c h finds =
    subst (λ n. AreaAgain n left found) h.number (area-found-again pass.known left found h.knows.as_given h.knows.all_seen h.knows.own_alone finds)

-- the memory is found again, and the areas are as they were
pub over-memory : (cpu : ℕ) (base : Ground) (found : MemoryValue) → MemoryAgain cpu base.memory found → FoundAgain cpu base (with_memory base found)
over-memory cpu base found again = record {
  memory = again;
  areas = record { count = refl; each = λ n was at. (was, at, area-same cpu was) };
}

-- ---- a place of a list

inject : {X : Type 0} (x y : X) → Some x ≡ Some y → x ≡ y
inject x y is = cc

pub got-same : {X : Type 0} (o : Option X) (x y : X) → o ≡ Some x → o ≡ Some y → x ≡ y
got-same o x y one other = inject x y (sym one ∙ other)

pub length-set : {X : Type 0} (xs : List X) (n : ℕ) (x : X) → length (slice_set xs n x) ≡ length xs
length-set [] n x = refl
length-set (y ∷ ys) zero x = refl
length-set (y ∷ ys) (suc n) x = ap suc (length-set ys n x)

pub set-twice : {X : Type 0} (xs : List X) (n : ℕ) (x y : X) → slice_set (slice_set xs n x) n y ≡ slice_set xs n y
set-twice [] n x y = refl
set-twice (z ∷ zs) zero x y = refl
set-twice (z ∷ zs) (suc n) x y = ap (λ l. z ∷ l) (set-twice zs n x y)

-- an area is found again, and all else is as it was
pub over-area : (cpu : ℕ) (base : Ground) (was found : AreaValue) → slice_get base.areas was.number ≡ Some was → AreaAgain cpu was found → FoundAgain cpu base (with_area base found)
over-area cpu base was found at again = record {
  memory = memory-same cpu base.memory;
  areas = record {
    count = length-set base.areas found.number found;
    each = λ n x got. elim (cases_eq found.number n) [
      | inl here ↦
          (let at' : slice_get base.areas n ≡ Some was = subst (λ k. slice_get base.areas k ≡ Some was) (sym again.number ∙ here) at in
          let same = got-same (slice_get base.areas n) was x at' got in
          (found, subst (λ k. slice_get (slice_set base.areas found.number found) k ≡ Some found) here (slice_get-set_same base.areas found.number was found (subst (λ k. slice_get base.areas k ≡ Some was) (sym again.number) at)), subst (λ (a : AreaValue). AreaAgain cpu a found) same again))
      | inr other ↦ (x, slice_get-set_other base.areas found.number n found (λ same. other (sym same)) ∙ got, area-same cpu x)
    ];
  };
}

-- ---- the passes for areas

pub areas-kept : (locks : List LockSeen) (passes : List PassSeen) (areas : List AreaValue) (old new : Seen) → HoldsAreas locks passes areas old → new.number ≡ old.number → new.boot ≡ old.boot → HoldsAreas locks passes areas new
areas-kept locks passes areas old new h number boot = record {
  locks_count = h.locks_count;
  passes_count = h.passes_count;
  each = λ n lock pass area l p a. holds-kept fixed_area part_area moved_area lock pass area old new (h.each n lock pass area l p a) number boot;
}

-- one of them is another, with which the processor left another area
pub areas-set : (locks : List LockSeen) (passes : List PassSeen) (areas : List AreaValue) (c : Seen) (n : ℕ) (lock : LockSeen) (pass : PassSeen) (area : AreaValue) → HoldsAreas locks passes areas c → slice_get locks n ≡ Some lock
    → HoldsArea lock pass area c → HoldsAreas locks (slice_set passes n pass) (slice_set areas n area) c
areas-set locks passes areas c n lock pass area h at holds = record {
  locks_count = h.locks_count ∙ sym (length-set areas n area);
  passes_count = length-set passes n pass ∙ h.passes_count ∙ sym (length-set areas n area);
  each = λ k l p a got_l got_p got_a. elim (cases_eq n k) [
    | inl here ↦ set-here k l p a here got_l got_p got_a
    | inr other ↦ h.each k l p a got_l (sym (slice_get-set_other passes n k pass (λ same. other (sym same))) ∙ got_p) (sym (slice_get-set_other areas n k area (λ same. other (sym same))) ∙ got_a)
  ];
}
  where
    got-set : {X : Type 0} (xs : List X) (m : ℕ) (x y : X) → slice_get (slice_set xs m x) m ≡ Some y → x ≡ y
    got-set [] m x y got = cc
    got-set (z ∷ zs) zero x y got = cc
    got-set (z ∷ zs) (suc m) x y got = got-set zs m x y got

    set-here : (k : ℕ) (l : LockSeen) (p : PassSeen) (a : AreaValue) → n ≡ k → slice_get locks k ≡ Some l → slice_get (slice_set passes n pass) k ≡ Some p → slice_get (slice_set areas n area) k ≡ Some a → HoldsArea l p a c
    set-here k l p a here got_l got_p got_a =
        let same_l = got-same (slice_get locks n) lock l at (ap (slice_get locks) here ∙ got_l) in
        let same_p : pass ≡ p = got-set passes n pass p (ap (slice_get (slice_set passes n pass)) here ∙ got_p) in
        let same_a : area ≡ a = got-set areas n area a (ap (slice_get (slice_set areas n area)) here ∙ got_a) in
        subst (λ x. HoldsArea x p a c) same_l (subst (λ x. HoldsArea lock x a c) same_p (subst (λ x. HoldsArea lock pass x c) same_a holds))

-- an element that was taken out, and another put in its place
pub put-back : {X : Type 0} (xs : List X) (n : ℕ) (x : X) → n < length xs → insert (remove xs n) n x ≡ slice_set xs n x
put-back [] n x below = absurd (omega (arith, below))
put-back (y ∷ ys) zero x below = refl
put-back (y ∷ ys) (suc n) x below = ap (λ l. y ∷ l) (put-back ys n x (omega (arith, below)))
