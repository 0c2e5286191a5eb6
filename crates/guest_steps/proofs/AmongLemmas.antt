use Rattle.std.proofs.Common.{◌≡◌, ◌≢◌, ◌⊎◌, ℕ, ◌≤◌, ◌<◌, max, Bool, true, false, Option, None, Some, List, [], ◌∷◌, ◌++◌, refl, sym, ◌∙◌, ap, subst, inl, inr, arith, map, cond, set, eqb-true}
use Rattle.std.specs.Prelude.{All, fold, slice_get}
use Rattle.std.proofs.lemmas.List.{length-set}
use Rattle.std.proofs.lemmas.List.Elements.{All-nil, All-cons, All-map, All-push, All-weaker}
use Rattle.std.proofs.lemmas.List.Quantifiers.{all_pairs_push}
use Rattle.std.proofs.lemmas.Option.{slice_get_past}
use Rattle.event_core.specs.declared.boot.Boot.{Boot}
use Rattle.event_core.specs.declared.entry.Entry.{Entry}
use Rattle.event_core.specs.declared.entry.Place.{Place}
use Rattle.event_core.specs.declared.entry.Place.TheVariants.{Memory, Area, Own}
use Rattle.event_core.specs.Legal.{ComesBefore, bare, greatest_stamp, same_place, stamp_of}
use Rattle.event_core.specs.Locally.{Rising}
use Rattle.event_core.specs.Moved.{Moved, entries_of}
use Rattle.event_core.proofs.SoundLemmas.{entries_of-push}
use Rattle.io_areas.specs.Value.{AreaValue}
use Rattle.memory_core.specs.UnderLock.{unmoved}
use Rattle.guest_steps.specs.Ground.{FoundAgain, Ground, IsGroundOf, IsSameArea, there_in}
use Rattle.guest_steps.specs.Seen.{Seen}
use Rattle.guest_steps.specs.Standing.{Stands, Together}
use Rattle.guest_steps.specs.Steps.{AllRoomAlone, AreaRoomAlone, MakesIn, there_after}
use Rattle.guest_steps.proofs.FoundLemmas.{found-standing}
use Rattle.guest_steps.proofs.GroundLemmas.{base-same, each-weaker, there-none, there-of}
use Rattle.guest_steps.proofs.ListLemmas.{alone, alone-has, got-set, past-none}
use Rattle.guest_steps.proofs.StepLemmas.{makes-leave-others, room-leaves}

-- One processor among all makes a step.

-- ---- stamps

greatest-from : (from : ℕ) (moved : List Moved) → from ≤ fold (λ greatest (m : Moved). max greatest m.entry.stamp) from moved
greatest-from from [] = omega arith
greatest-from from (m ∷ ms) = let more = greatest-from (max from m.entry.stamp) ms in omega (arith, more)

greatest-each : (from : ℕ) (moved : List Moved) → All (λ (m : Moved). m.entry.stamp ≤ fold (λ greatest (x : Moved). max greatest x.entry.stamp) from moved) moved
greatest-each from [] = All-nil (λ (m : Moved). m.entry.stamp ≤ from)
greatest-each from (m ∷ ms) =
    All-cons (λ (x : Moved). x.entry.stamp ≤ fold (λ greatest (y : Moved). max greatest y.entry.stamp) (max from m.entry.stamp) ms) m ms
    (let more = greatest-from (max from m.entry.stamp) ms in omega (arith, more))
    (greatest-each (max from m.entry.stamp) ms)

-- no entry has a greater stamp than the greatest
pub stamps-below : (moved : List Moved) → All (λ (m : Moved). m.entry.stamp ≤ greatest_stamp moved) moved
stamps-below moved = greatest-each 0 moved

-- an entry with a greater stamp than all before it comes behind them
pub rises-push : (moved : List Moved) (m : Moved) → Rising (entries_of moved) → greatest_stamp moved < m.entry.stamp → Rising (entries_of (moved ++ m ∷ []))
rises-push moved m rises more =
    subst (λ es. Rising es) (sym (entries_of-push moved m))
    (all_pairs_push ComesBefore (entries_of moved) m.entry rises
    (All-map (λ (e : Entry). ComesBefore e m.entry) (λ (x : Moved). x.entry) moved
    (All-weaker (λ (x : Moved). x.entry.stamp ≤ greatest_stamp moved) (λ (x : Moved). ComesBefore x.entry m.entry) (λ x low. inl (omega (arith, low, more))) moved (stamps-below moved))))

pub same-place-is : (p q : Place) → same_place p q ≡ true → p ≡ q
same-place-is Memory Memory is = refl
same-place-is Memory (Area b) is = cc
same-place-is Memory Own is = cc
same-place-is (Area a) Memory is = cc
same-place-is (Area a) (Area b) is = ap Area (eqb-true a b is)
same-place-is (Area a) Own is = cc
same-place-is Own Memory is = cc
same-place-is Own (Area b) is = cc
same-place-is Own Own is = refl

rises-if : (b : Bool) (there : List Moved) (m : Moved) → Rising (entries_of there) → (b ≡ true → greatest_stamp there < m.entry.stamp) → Rising (entries_of (cond b (there ++ bare m ∷ []) there))
rises-if true there m rises more = rises-push there (bare m) rises (more refl)
rises-if false there m rises more = rises

-- the stamp is greater than those of the entry's place
greater-there : (old new : Seen) (before after : Ground) (m : MakesIn old new before after) (place : Place) → same_place place m.m.entry.place ≡ true → greatest_stamp (there_in before place) < m.m.entry.stamp
greater-there old new before after m place is =
    let next = m.makes.next.follows (alone old.number old.script) (alone-has old.number old.script) in
    let stamp = next.stamp in
    let same : greatest_stamp (there_in before place) ≡ greatest_stamp (there_in before m.m.entry.place) = ap (λ p. greatest_stamp (there_in before p)) (same-place-is place m.m.entry.place is) in
    omega (arith, stamp, same)

-- the entries of each place go on rising
pub next-rises : (old new : Seen) (before after : Ground) (place : Place) → MakesIn old new before after → Rising (entries_of (there_in before place)) → Rising (entries_of (there_in after place))
next-rises old new before after Memory m rises =
    subst (λ ms. Rising (entries_of ms)) (sym (m.there Memory)) (rises-if (same_place Memory m.m.entry.place) (there_in before Memory) m.m rises (greater-there old new before after m Memory))
next-rises old new before after (Area n) m rises =
    subst (λ ms. Rising (entries_of ms)) (sym (m.there (Area n))) (rises-if (same_place (Area n) m.m.entry.place) (there_in before (Area n)) m.m rises (greater-there old new before after m (Area n)))
next-rises old new before after Own m rises = rises

-- ---- all processors

-- the entries of a place go on being those of processors of the boot
abbrev AreNamed : ℕ → List Moved → Type 0
AreNamed cpus there = All (λ (m : Moved). m.entry.cpu.0 < cpus) there

named-if : (b : Bool) (cpus : ℕ) (there : List Moved) (m : Moved) → m.entry.cpu.0 < cpus → AreNamed cpus there → AreNamed cpus (cond b (there ++ bare m ∷ []) there)
named-if true cpus there m low named = All-push (λ (x : Moved). x.entry.cpu.0 < cpus) there (bare m) named low
named-if false cpus there m low named = named

named-after : (place : Place) (cpus : ℕ) (there : List Moved) (m : Moved) → m.entry.cpu.0 < cpus → AreNamed cpus there → AreNamed cpus (there_after m place there)
named-after Memory cpus there m low named = named-if (same_place Memory m.entry.place) cpus there m low named
named-after (Area n) cpus there m low named = named-if (same_place (Area n) m.entry.place) cpus there m low named
named-after Own cpus there m low named = named

-- one processor becomes another that stands over the places, which the others find as they left them
pub change-together : (boot : Boot) (all : List Seen) (cpu : ℕ) (old new : Seen) (before after : Ground) → Together boot all before → slice_get all cpu ≡ Some old
    → new.number ≡ old.number → new.boot ≡ old.boot → Stands new after → ((other : ℕ) → other ≢ cpu → FoundAgain other before after)
    → ((place : Place) → AreNamed boot.cpus (there_in after place)) → ((place : Place) → Rising (entries_of (there_in after place))) → Together boot (set all cpu new) after
change-together boot all cpu old new before after t at number same stands leave named rises =
    let was = t.each cpu old at in
    record {
      count = length-set all cpu new ∙ t.count;
      same = subst (λ b. IsGroundOf b after) (same ∙ was.1) stands.same;
      each = λ k c got. elim (got-set all cpu new k c got) [
        | inl here ↦ subst (λ (x : Seen). (x.number ≡ k) × (x.boot ≡ boot) × Stands x after) (sym here.1) (number ∙ was.0 ∙ sym here.0, same ∙ was.1, stands)
        | inr other ↦
            (let its = t.each k c other.1 in
            (its.0, its.1, found-standing c before after its.2 (subst (λ n. FoundAgain n before after) (sym its.0) (leave k other.0))))
      ];
      named = named;
      rises = rises;
    }

-- the places are as they were
pub still : (base : Ground) → AllRoomAlone base base
still base = record {
  memory = record { boot = refl; entries = refl; out = refl; room = omega arith };
  areas = record { count = refl; each = λ n was at. (was, at, record { number = refl; slots = refl; moved = refl; room = omega arith }) };
}

-- one processor becomes another that stands as well over the same places
pub set-together : (boot : Boot) (all : List Seen) (cpu : ℕ) (old new : Seen) (base : Ground) → Together boot all base → slice_get all cpu ≡ Some old
    → new.number ≡ old.number → new.boot ≡ old.boot → Stands new base → Together boot (set all cpu new) base
set-together boot all cpu old new base t at number same stands =
    change-together boot all cpu old new base base t at number same stands (λ other differ. room-leaves base base other (still base)) t.named t.rises

-- what a place has where room alone changed
pub room-there : (before after : Ground) → AllRoomAlone before after → (place : Place) → there_in after place ≡ there_in before place
room-there before after r Memory = ap (λ es. map unmoved es) r.memory.entries
room-there before after r (Area n) = by_area (slice_get before.areas n) refl where
  by_area : (was : Option AreaValue) → slice_get before.areas n ≡ was → there_in after (Area n) ≡ there_in before (Area n)
  by_area None at =
      let past = past-none before.areas n at in
      let count = r.areas.count in
      there-none after n (slice_get_past after.areas n (omega (arith, past, count))) ∙ sym (there-none before n at)
  by_area (Some was) at =
      let one = r.areas.each n was at in
      let room = one.2 in
      there-of after n one.0 one.1 ∙ room.moved ∙ sym (there-of before n was at)
room-there before after r Own = refl

-- nothing changed but room
pub room-together : (boot : Boot) (all : List Seen) (before after : Ground) → Together boot all before → AllRoomAlone before after → Together boot all after
room-together boot all before after t r = record {
  count = t.count;
  same = base-same boot before after t.same r.memory.boot (each-weaker AreaRoomAlone IsSameArea (λ a b room. (room.number, room.slots)) before.areas after.areas r.areas);
  each = λ cpu c at. let was = t.each cpu c at in (was.0, was.1, found-standing c before after was.2 (room-leaves before after c.number r));
  named = λ place. subst (AreNamed boot.cpus) (sym (room-there before after r place)) (t.named place);
  rises = λ place. subst (λ ms. Rising (entries_of ms)) (sym (room-there before after r place)) (t.rises place);
}

pub makes-together : (boot : Boot) (all : List Seen) (cpu : ℕ) (old new : Seen) (before after : Ground) → Together boot all before → slice_get all cpu ≡ Some old
    → MakesIn old new before after → Stands new after → Together boot (set all cpu new) after
makes-together boot all cpu old new before after t at m stands =
    let was = t.each cpu old at in
    let number = was.0 in
    let mine = m.makes.next.mine in
    let low : old.number < old.boot.cpus = was.2.cpu in
    let cpus : old.boot.cpus ≡ boot.cpus = ap (λ (b : Boot). b.cpus) was.1 in
    let his : m.m.entry.cpu.0 < boot.cpus = omega (arith, mine, low, cpus) in
    change-together boot all cpu old new before after t at m.makes.same.number m.makes.same.boot stands
    (λ other differ. makes-leave-others old new before after other m (λ same. differ (same ∙ number)))
    (λ place. subst (AreNamed boot.cpus) (sym (m.there place)) (named-after place boot.cpus (there_in before place) m.m his (t.named place)))
    (λ place. next-rises old new before after place m (t.rises place))
