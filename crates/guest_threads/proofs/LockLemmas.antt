use Rattle.std.proofs.Common.{◌≡◌, ℕ, zero, suc, ◌+◌, ◌<◌, Option, Some, Result, Ok, Err, IfOk, IsOk, OnOk, List, [], ◌∷◌, ◌++◌, All, Any, refl, sym, ◌∙◌, ap, subst, map, length, get_or, arith, inl, inr}
use Rattle.std.specs.Prelude.{Vec, slice_get}
use Rattle.std.specs.declared.alloc.Global.{Global}
use Rattle.std.specs.List.{range_with_len}
use Rattle.std.specs.Option.{option_map_or}
use Rattle.std.proofs.lemmas.List.{length-map}
use Rattle.std.proofs.lemmas.List.Elements.{All-nil, All-cons, All-head, All-tail, Contains-get_or}
use Rattle.std.proofs.lemmas.Option.{get_or_from_slice_get, slice_get-get_or, slice_get_cases, slice_get_within}
use Rattle.event_core.specs.declared.boot.Boot.{Boot}
use Rattle.event_core.specs.declared.entry.Entry.{Entry}
use Rattle.event_core.specs.declared.entry.Place.{Place}
use Rattle.event_core.specs.declared.entry.Place.TheVariants.{Memory, Area, Own}
use Rattle.event_core.specs.Locally.{Rising}
use Rattle.event_core.specs.Moved.{Moved, entries_of, made_by}
use Rattle.event_core.specs.Parted.{Fixed, Part}
use Rattle.event_core.proofs.RisingLemmas.{pairs-nil}
use Rattle.event_core.specs.Legal.{ComesBefore}
use Rattle.claim_lock.specs.Knows.{Finds, first_known}
use Rattle.claim_lock.specs.Seen.{LockSeen, PassSeen}
use Rattle.io_areas.specs.UnderLock.{fixed_of as fixed_area, part_of as part_area, moved_of as moved_area}
use Rattle.io_areas.specs.Value.{AreaValue}
use Rattle.memory_core.specs.Away.{WaitingFalls}
use Rattle.memory_core.specs.UnderLock.{fixed_of, part_of, moved_of, unmoved}
use Rattle.memory_core.specs.Value.{MemoryValue}
use Rattle.guest_steps.specs.Ground.{FoundAgain, Ground, IsGroundOf, ground_of, there_in}
use Rattle.guest_steps.specs.Running.{AllStand}
use Rattle.guest_steps.specs.Seen.{Seen}
use Rattle.guest_steps.specs.Standing.{Stands}
use Rattle.guest_threads.specs.declared.locks.Locks.{Locks}
use Rattle.guest_threads.specs.declared.locks.Passes.{Passes}
use Rattle.guest_threads.specs.Dealt.{AreAllOf, Opened, first_pass, first_passes}
use Rattle.guest_threads.specs.Seated.{AllSeated, AllSeen, EachSeated, Holds, Seated}
use Rattle.guest_threads.proofs.HoldLemmas.{area-again, memory-again}

-- The memory and the areas go under their locks, and come out again.

pub if-ok-then : {A E : Type 0} (r : Result A E) (P Q : A → Type 0) → ((a : A) → P a → Q a) → IfOk r P → IfOk r Q
if-ok-then (Ok a) P Q then p = then a p
if-ok-then (Err e) P Q then p = tt

pub on-ok-both : {A B E F : Type 0} (r : Result A E) (s : Result B F) (P : Type 0) → OnOk r (IsOk s) → OnOk s P → OnOk r P
on-ok-both (Ok a) (Ok b) P ok p = p
on-ok-both (Ok a) (Err e) P ok p = cc
on-ok-both (Err e) s P ok p = tt

pub on-ok-then : {A E : Type 0} (r : Result A E) (P Q : Type 0) → (P → Q) → OnOk r P → OnOk r Q
on-ok-then (Ok a) P Q then p = then p
on-ok-then (Err e) P Q then p = tt

pub mapped-got : {X Y : Type 0} (f : X → Y) (xs : List X) (k : ℕ) (y : Y) → slice_get (map f xs) k ≡ Some y → (x : X) × (slice_get xs k ≡ Some x) × (f x ≡ y)
mapped-got f [] k y is = cc
mapped-got f (x ∷ xs) zero y is = (x, refl, cc)
mapped-got f (x ∷ xs) (suc k) y is = mapped-got f xs k y is

pub got-mapped : {X Y : Type 0} (f : X → Y) (xs : List X) (k : ℕ) (x : X) → slice_get xs k ≡ Some x → slice_get (map f xs) k ≡ Some (f x)
got-mapped f [] k x is = cc
got-mapped f (y ∷ ys) zero x is = (let same : y ≡ x = cc in ap (λ z. Some (f z)) same)
got-mapped f (y ∷ ys) (suc k) x is = got-mapped f ys k x is

pub all-from-got : {X : Type 0} (P : X → Type 0) (xs : List X) → ((k : ℕ) (x : X) → slice_get xs k ≡ Some x → P x) → All P xs
all-from-got P [] each = All-nil P
all-from-got P (y ∷ ys) each = All-cons P y ys (each 0 y refl) (all-from-got P ys (λ k x is. each (suc k) x is))

pub got-from-all : {X : Type 0} (P : X → Type 0) (xs : List X) → All P xs → (k : ℕ) (x : X) → slice_get xs k ≡ Some x → P x
got-from-all P [] all k x is = cc
got-from-all P (y ∷ ys) all zero x is = (let same : y ≡ x = cc in subst P same (All-head P y ys all))
got-from-all P (y ∷ ys) all (suc k) x is = got-from-all P ys (All-tail P y ys all) k x is

-- a list that is as long has an element there too
pub got-too : {X Y : Type 0} (xs : List X) (ys : List Y) (k : ℕ) (x : X) → length xs ≡ length ys → slice_get xs k ≡ Some x → (y : Y) × (slice_get ys k ≡ Some y)
got-too [] ys k x count is = cc
got-too (a ∷ xs) [] k x count is = absurd (omega (arith, count))
got-too (a ∷ xs) (b ∷ ys) zero x count is = (b, refl)
got-too (a ∷ xs) (b ∷ ys) (suc k) x count is = got-too xs ys k x (omega (arith, count)) is

-- ---- new locks

range-got : (from count k : ℕ) (n : ℕ) → slice_get (range_with_len from count) k ≡ Some n → n ≡ from + k
range-got from zero k n is = cc
range-got from (suc count) zero n is = (let same : from ≡ n = cc in omega (arith, same))
range-got from (suc count) (suc k) n is = let later = range-got (from + 1) count k n is in omega (arith, later)

range-count : (from count : ℕ) → length (range_with_len from count) ≡ count
range-count from zero = refl
range-count from (suc count) = ap suc (range-count (from + 1) count)

-- as many processors begin as a new lock has passes
pub begun-count : (begun : List Passes) (dealt : List PassSeen) (seats : ℕ) (by : ℕ → PassSeen) → map (λ (p : Passes). p.memory) begun ≡ dealt → dealt ≡ map by (range_with_len 0 seats) → length begun ≡ seats
begun-count begun dealt seats by is made =
    let a = length-map begun (λ (p : Passes). p.memory) in
    let b = length-map (range_with_len 0 seats) by in
    let r = range-count 0 seats in
    omega (arith, a, b, r, ap length is, ap length made)

-- no area has an entry, where no place has one
pub areas-empty : (memory : MemoryValue) (areas : List AreaValue) → ((place : Place) → there_in (ground_of memory areas) place ≡ []) → All (λ (a : AreaValue). a.moved ≡ []) areas
areas-empty memory areas first =
    all-from-got (λ (a : AreaValue). a.moved ≡ []) areas (λ n area got. sym (ap (λ o. option_map_or (λ (a : AreaValue). a.moved) o []) got) ∙ first (Area n))

-- the pass that a new lock has for a number
pub dealt-pass : {S : Type 0} (fixed : S → Fixed) (part : S → ℕ → Part) (lock : LockSeen) (state : S) (passes : List PassSeen) (seats : ℕ) → lock.seats ≡ seats
    → passes ≡ map (λ cpu. let p : PassSeen = record { table = lock.table; known = first_known fixed part seats state cpu } in p) (range_with_len 0 seats)
    → (k : ℕ) (pass : PassSeen) → slice_get passes k ≡ Some pass → pass ≡ first_pass fixed part lock state k
dealt-pass fixed part lock state passes seats is_seats made k pass got =
    let at = mapped-got (λ cpu. let p : PassSeen = record { table = lock.table; known = first_known fixed part seats state cpu } in p) (range_with_len 0 seats) k pass (ap (λ ps. slice_get ps k) (sym made) ∙ got) in
    let number : at.0 ≡ k = (let n = range-got 0 seats k at.0 at.1 in omega (arith, n)) in
    sym at.2 ∙ ap (λ n. by seats n) number ∙ ap (λ s. by s k) (sym is_seats)
  where
    by : ℕ → ℕ → PassSeen
    by s n = record { table = lock.table; known = first_known fixed part s state n }

pub first-count : (locks : List LockSeen) (areas : List AreaValue) (cpu : ℕ) → length locks ≡ length areas → length (first_passes locks areas cpu) ≡ length areas
unfolding first_passes
first-count [] [] cpu count = refl
first-count [] (a ∷ bs) cpu count = absurd (omega (arith, count))
first-count (l ∷ ls) [] cpu count = refl
first-count (l ∷ ls) (a ∷ bs) cpu count = ap suc (first-count ls bs cpu (omega (arith, count)))

pub first-got : (locks : List LockSeen) (areas : List AreaValue) (cpu n : ℕ) (lock : LockSeen) (area : AreaValue) (pass : PassSeen) → slice_get locks n ≡ Some lock → slice_get areas n ≡ Some area → slice_get (first_passes locks areas cpu) n ≡ Some pass
    → first_pass fixed_area part_area lock area cpu ≡ pass
unfolding first_passes
first-got [] areas cpu n lock area pass l a p = cc
first-got (x ∷ ls) [] cpu n lock area pass l a p = cc
first-got (x ∷ ls) (y ∷ bs) cpu zero lock area pass l a p =
    let same_l : x ≡ lock = cc in
    let same_a : y ≡ area = cc in
    let here : first_pass fixed_area part_area x y cpu ≡ pass = cc in
    ap (λ z. first_pass fixed_area part_area z area cpu) (sym same_l) ∙ ap (λ z. first_pass fixed_area part_area x z cpu) (sym same_a) ∙ here
first-got (x ∷ ls) (y ∷ bs) cpu (suc n) lock area pass l a p = first-got ls bs cpu n lock area pass l a p

-- one more lock, and one more pass
pub first-push : (locks : List LockSeen) (areas : List AreaValue) (lock : LockSeen) (area : AreaValue) (cpu : ℕ) → length locks ≡ length areas
    → first_passes (locks ++ lock ∷ []) (areas ++ area ∷ []) cpu ≡ first_passes locks areas cpu ++ first_pass fixed_area part_area lock area cpu ∷ []
unfolding first_passes
first-push [] [] lock area cpu count = refl
first-push [] (a ∷ bs) lock area cpu count = absurd (omega (arith, count))
first-push (l ∷ ls) [] lock area cpu count = absurd (omega (arith, count))
first-push (l ∷ ls) (a ∷ bs) lock area cpu count = ap (λ ps. first_pass fixed_area part_area l a cpu ∷ ps) (first-push ls bs lock area cpu (omega (arith, count)))

-- with it a processor knows the state before its first entry
first-holds : {S : Type 0} (fixed : S → Fixed) (part : S → ℕ → Part) (moved : S → List Moved) (lock : LockSeen) (pass : PassSeen) (left : S) (c : Seen) (cpu : ℕ) → first_pass fixed part lock left cpu ≡ pass → lock.seats ≡ c.boot.cpus → c.number ≡ cpu → moved left ≡ []
    → Holds fixed part moved lock pass left c
first-holds fixed part moved lock pass left c cpu made cpus number none =
    subst (λ p. Holds fixed part moved lock p left c) made
    (record {
      table = refl;
      number = sym number;
      seats = refl;
      cpus = cpus;
      knows = record {
        as_given = refl;
        as_left = refl;
        all_seen = sym none;
        own_alone = sym (ap (made_by cpu) none);
      };
    })

module _ {T : Type 0} (seen : T → Seen) (stands : T → Ground → Type 0) where
  -- processors that are seated, each at its place
  each-from : (locks : Locks) (from : ℕ) (passes : List Passes) (all : List T) → length passes ≡ length all
      → ((k : ℕ) (mine : Passes) (c : T) → slice_get passes k ≡ Some mine → slice_get all k ≡ Some c → ((seen c).number ≡ from + k) × Seated seen stands locks mine c) → EachSeated seen stands locks from passes all
  each-from locks from [] [] count each = tt
  each-from locks from [] (c ∷ cs) count each = absurd (omega (arith, count))
  each-from locks from (p ∷ ps) [] count each = absurd (omega (arith, count))
  each-from locks from (p ∷ ps) (c ∷ cs) count each =
      let here = each 0 p c refl refl in
      let number : (seen c).number ≡ from = omega (arith, here.0) in
      (number, here.1, each-from locks (suc from) ps cs (omega (arith, count)) (λ k mine x got_p got_c. let there = each (suc k) mine x got_p got_c in (omega (arith, there.0), there.1)))

  pub each-at : (locks : Locks) (from : ℕ) (passes : List Passes) (all : List T) → EachSeated seen stands locks from passes all → (k : ℕ) (mine : Passes) (c : T) → slice_get passes k ≡ Some mine → slice_get all k ≡ Some c
      → ((seen c).number ≡ from + k) × Seated seen stands locks mine c
  each-at locks from [] all each k mine c got_p got_c = cc
  each-at locks from (p ∷ ps) [] each k mine c got_p got_c = absurd each
  each-at locks from (p ∷ ps) (x ∷ xs) each zero mine c got_p got_c =
      let same_p : p ≡ mine = cc in
      let same_c : x ≡ c = cc in
      subst (λ z. ((seen z).number ≡ from + 0) × Seated seen stands locks mine z) same_c (subst (λ z. ((seen x).number ≡ from + 0) × Seated seen stands locks z x) same_p (omega (arith, each.0), each.1))
  each-at locks from (p ∷ ps) (x ∷ xs) each (suc k) mine c got_p got_c =
      let there = each-at locks (suc from) ps xs each.2 k mine c got_p got_c in (omega (arith, there.0), there.1)

  pub seated-count : (locks : Locks) (from : ℕ) (passes : List Passes) (all : List T) → EachSeated seen stands locks from passes all → length passes ≡ length all
  seated-count locks from [] [] each = refl
  seated-count locks from [] (c ∷ cs) each = absurd each
  seated-count locks from (p ∷ ps) [] each = absurd each
  seated-count locks from (p ∷ ps) (c ∷ cs) each = ap suc (seated-count locks (suc from) ps cs each.2)

  -- new locks over the memory and the areas of processors that stand over them
  pub new-seated : (locks : Locks) (passes : List Passes) (seats : ℕ) (memory : MemoryValue) (areas : List AreaValue) (all : List T) → AllStand seen stands memory.boot all (ground_of memory areas) → ((place : Place) → there_in (ground_of memory areas) place ≡ [])
      → 0 < length all → seats ≡ length all → locks.memory.seats ≡ seats → All (λ (l : LockSeen). l.seats ≡ seats) locks.areas.items → length locks.areas.items ≡ length areas → length passes ≡ seats
      → ((k : ℕ) (mine : Passes) → slice_get passes k ≡ Some mine → (first_pass fixed_of part_of locks.memory memory k ≡ mine.memory) × (mine.areas.items ≡ first_passes locks.areas.items areas k)) → AllSeated seen stands locks passes all
  new-seated locks passes seats memory areas all stand first some is_seats count counts areas_count passes_count made = record {
    some = omega (arith, some, is_seats, count);
    count = sym is_seats ∙ sym count;
    each = each-from locks 0 passes all (passes_count ∙ is_seats)
        (λ k mine c got_p got_c.
        let one = stand.together.each k (seen c) (got-mapped seen all k c got_c) in
        let is = made k mine got_p in
        let cpus : seats ≡ (seen c).boot.cpus = is_seats ∙ sym (length-map all seen) ∙ stand.together.count ∙ sym (ap (λ (b : Boot). b.cpus) one.1) in (
          (let number : (seen c).number ≡ 0 + k = omega (arith, one.0) in number),
          record {
            left = ground_of memory areas;
            memory = first-holds fixed_of part_of moved_of locks.memory mine.memory memory (seen c) k is.0 (count ∙ cpus) one.0 (first Memory);
            areas = record {
              locks_count = areas_count;
              passes_count = ap length is.1 ∙ first-count locks.areas.items areas k areas_count;
              each = λ n lock pass area got_l got_pass got_a.
                  first-holds fixed_area part_area moved_area lock pass area (seen c) k (first-got locks.areas.items areas k n lock area pass got_l got_a (sym (ap (λ ps. slice_get ps n) is.1) ∙ got_pass))
                  (got-from-all (λ (l : LockSeen). l.seats ≡ seats) locks.areas.items counts n lock got_l ∙ cpus) one.0 (sym (ap (λ o. option_map_or (λ (a : AreaValue). a.moved) o []) got_a) ∙ first (Area n));
            };
            standing = got-from-all (λ x. stands x (ground_of memory areas)) all stand.each k c got_c;
          },
        ));
  }

-- ---- they come out again

-- all that passes know is true of the memory and of the areas
pub record FoundBy (mine : Passes) (base : Ground) : Type 0 where
  pub memory : Finds fixed_of part_of moved_of mine.memory.known base.memory
  pub areas : (n : ℕ) (pass : PassSeen) (area : AreaValue) → slice_get mine.areas.items n ≡ Some pass → slice_get base.areas n ≡ Some area → Finds fixed_area part_area moved_area pass.known area

-- what passes have seen of a place stands there
pub found-seen : (mine : Passes) (base : Ground) → length mine.areas.items ≡ length base.areas → FoundBy mine base → AllSeen mine base
found-seen mine base count f Memory = f.memory.longer
found-seen mine base count f Own = ([], refl)
found-seen mine base count f (Area n) = elim (slice_get_cases base.areas n).1 [
  | inl a ↦
      (let p = got-too base.areas mine.areas.items n a.0 (sym count) a.2 in
      let longer = (f.areas n p.0 a.0 p.1 a.2).longer in (
        longer.0,
        ap (λ o. option_map_or (λ (x : AreaValue). x.moved) o []) a.2 ∙ longer.1 ∙ ap (λ ms. ms ++ longer.0) (sym (ap (λ o. option_map_or (λ (x : PassSeen). x.known.seen) o []) p.1)),
      ))
  | inr a ↦ elim (slice_get_cases mine.areas.items n).1 [
    | inl p ↦ absurd (omega (arith, p.1, a.0, count))
    | inr p ↦ ([], ap (λ o. option_map_or (λ (x : AreaValue). x.moved) o []) a.1 ∙ sym (ap (λ o. option_map_or (λ (x : PassSeen). x.known.seen) o [] ++ []) p.1))
  ]
]

entries-unmoved : (entries : List Entry) → entries_of (map unmoved entries) ≡ entries
entries-unmoved [] = refl
entries-unmoved (e ∷ es) = ap (λ xs. e ∷ xs) (entries-unmoved es)

module _ {T : Type 0} (seen : T → Seen) (stands : T → Ground → Type 0) where
  seat-again : (locks : Locks) (mine : Passes) (c : T) (base : Ground) → (s : Seated seen stands locks mine c) → length locks.areas.items ≡ length base.areas → FoundBy mine base → WaitingFalls base.memory.boot base.memory.entries
      → FoundAgain (seen c).number s.left base
  seat-again locks mine c base s count f falls = record {
    memory = memory-again locks.memory mine.memory s.left.memory base.memory (seen c) s.memory f.memory falls;
    areas = record {
      count = sym count ∙ s.areas.locks_count;
      each = λ n was got.
          let l = got-too s.left.areas locks.areas.items n was (sym s.areas.locks_count) got in
          let p = got-too s.left.areas mine.areas.items n was (sym s.areas.passes_count) got in
          let a = got-too locks.areas.items base.areas n l.0 count l.1 in
          (a.0, a.1, area-again l.0 p.0 was a.0 (seen c) (s.areas.each n l.0 p.0 was l.1 p.1 got) (f.areas n p.0 a.0 p.1 a.1));
    };
  }

  module _ (told : (c : T) (base : Ground) → stands c base → Stands (seen c) base) (left_standing : (c : T) (left found : Ground) → stands c left → FoundAgain (seen c).number left found → stands c found) where
    -- all processors stand over what their locks give back
    pub closed-stand : (locks : Locks) (passes : List Passes) (all : List T) (base : Ground) → AllSeated seen stands locks passes all → length locks.areas.items ≡ length base.areas → All (λ mine. FoundBy mine base) passes
        → WaitingFalls base.memory.boot base.memory.entries → Rising base.memory.entries → ((n : ℕ) (area : AreaValue) → slice_get base.areas n ≡ Some area → Rising (entries_of area.moved)) → AllStand seen stands base.memory.boot all base
    closed-stand locks [] [] base s count found falls rises risen = absurd (omega (arith, s.some, s.count))
    closed-stand locks [] (x ∷ xs) base s count found falls rises risen = absurd s.each
    closed-stand locks (p ∷ ps) [] base s count found falls rises risen = absurd s.each
    closed-stand locks (p ∷ ps) (x ∷ xs) base s count found falls rises risen =
        let passes_count = seated-count seen stands locks 0 (p ∷ ps) (x ∷ xs) s.each in
        let at : (k : ℕ) (c : T) → slice_get (x ∷ xs) k ≡ Some c → ((seen c).number ≡ k) × stands c base =
        λ k c is.
        let mine = got-too (x ∷ xs) (p ∷ ps) k c (sym passes_count) is in
        let one = each-at seen stands locks 0 (p ∷ ps) (x ∷ xs) s.each k mine.0 c mine.1 is in
        let f = got-from-all (λ q. FoundBy q base) (p ∷ ps) found k mine.0 mine.1 in
        ((let number : (seen c).number ≡ k = omega (arith, one.0) in number), left_standing c one.1.left base one.1.standing (seat-again locks mine.0 c base one.1 count f falls))
        in
        let boot : (k : ℕ) (c : T) → slice_get (x ∷ xs) k ≡ Some c → base.memory.boot ≡ (seen c).boot = λ k c is. (told c base (at k c is).1).same.memory in
        let first = s.each.1 in
        let found_first = All-head (λ q. FoundBy q base) p ps found in
        let cpus : locks.memory.seats ≡ base.memory.boot.cpus = first.memory.cpus ∙ sym (ap (λ (b : Boot). b.cpus) (boot 0 x refl)) in
        record {
          together = record {
            count = length-map (x ∷ xs) seen ∙ s.count ∙ cpus;
            same = subst (λ b. IsGroundOf b base) (sym (boot 0 x refl)) (told x base (at 0 x refl).1).same;
            each = λ k c is.
                let got = mapped-got seen (x ∷ xs) k c is in
                let one = at k got.0 got.1 in
                subst (λ (d : Seen). (d.number ≡ k) × (d.boot ≡ base.memory.boot) × Stands d base) got.2 (one.0, sym (boot k got.0 got.1), told got.0 base one.1);
            named = λ place. named_at (boot 0 x refl) place;
            rises = λ place. rises_at place;
          };
          each = all-from-got (λ c. stands c base) (x ∷ xs) (λ k c is. (at k c is).1);
        }
      where
        first : Seated seen stands locks p x
        first = s.each.1

        found_first : FoundBy p base
        found_first = All-head (λ q. FoundBy q base) p ps found

        named_by : (seats : ℕ) → seats ≡ base.memory.boot.cpus → (ms : List Moved) → All (λ (m : Moved). m.entry.cpu.0 < seats) ms → All (λ (m : Moved). m.entry.cpu.0 < base.memory.boot.cpus) ms
        named_by seats is ms all = subst (λ n. All (λ (m : Moved). m.entry.cpu.0 < n) ms) is all

        named_at : base.memory.boot ≡ (seen x).boot → (place : Place) → All (λ (m : Moved). m.entry.cpu.0 < base.memory.boot.cpus) (there_in base place)
        named_at boot Memory = named_by p.memory.known.seats (first.memory.seats ∙ first.memory.cpus ∙ sym (ap (λ (b : Boot). b.cpus) boot)) (moved_of base.memory) found_first.memory.named
        named_at boot Own = All-nil (λ (m : Moved). m.entry.cpu.0 < base.memory.boot.cpus)
        named_at boot (Area n) = elim (slice_get_cases base.areas n).1 [
          | inl a ↦
              (let l = got-too base.areas locks.areas.items n a.0 (sym count) a.2 in
              let was = got-too locks.areas.items first.left.areas n l.0 first.areas.locks_count l.1 in
              let q = got-too first.left.areas p.areas.items n was.0 (sym first.areas.passes_count) was.1 in
              let holds = first.areas.each n l.0 q.0 was.0 l.1 q.1 was.1 in
              subst (All (λ (m : Moved). m.entry.cpu.0 < base.memory.boot.cpus)) (sym (ap (λ o. option_map_or (λ (z : AreaValue). z.moved) o []) a.2))
              (named_by q.0.known.seats (holds.seats ∙ holds.cpus ∙ sym (ap (λ (b : Boot). b.cpus) boot)) a.0.moved (found_first.areas n q.0 a.0 q.1 a.2).named))
          | inr a ↦
              subst (All (λ (m : Moved). m.entry.cpu.0 < base.memory.boot.cpus)) (sym (ap (λ o. option_map_or (λ (z : AreaValue). z.moved) o []) a.1)) (All-nil (λ (m : Moved). m.entry.cpu.0 < base.memory.boot.cpus))
        ]

        rises_at : (place : Place) → Rising (entries_of (there_in base place))
        rises_at Memory = subst Rising (sym (entries-unmoved base.memory.entries)) rises
        rises_at Own = pairs-nil ComesBefore
        rises_at (Area n) = elim (slice_get_cases base.areas n).1 [
          | inl a ↦ subst (λ ms. Rising (entries_of ms)) (sym (ap (λ o. option_map_or (λ (z : AreaValue). z.moved) o []) a.2)) (risen n a.0 a.2)
          | inr a ↦ subst (λ ms. Rising (entries_of ms)) (sym (ap (λ o. option_map_or (λ (z : AreaValue). z.moved) o []) a.1)) (pairs-nil ComesBefore)
        ]

  pub closed-seen : (locks : Locks) (passes : List Passes) (all : List T) (base : Ground) → AllSeated seen stands locks passes all → length locks.areas.items ≡ length base.areas → All (λ mine. FoundBy mine base) passes → All (λ mine. AllSeen mine base) passes
  closed-seen locks passes all base s count found =
      all-from-got (λ mine. AllSeen mine base) passes
      (λ k mine got.
      let c = got-too passes all k mine (seated-count seen stands locks 0 passes all s.each) got in
      let one = each-at seen stands locks 0 passes all s.each k mine c.0 got c.1 in
      found-seen mine base (one.1.areas.passes_count ∙ sym one.1.areas.locks_count ∙ count) (got-from-all (λ q. FoundBy q base) passes found k mine got))

-- ---- what new locks hand out

-- each processor got its pass for the memory, and then one for each area
pub dealt-made : (locks : Locks) (seats : ℕ) (memory : MemoryValue) (areas : List AreaValue) (dealt : List PassSeen) (begun passes : List Passes) → locks.memory.seats ≡ seats
    → dealt ≡ map (λ cpu. let p : PassSeen = record { table = locks.memory.table; known = first_known fixed_of part_of seats memory cpu } in p) (range_with_len 0 seats) → map (λ (p : Passes). p.memory) begun ≡ dealt → length passes ≡ length begun
    → ((k : ℕ) (d : Passes) → k < length begun → (get_or passes k d).memory ≡ (get_or begun k d).memory) → ((k : ℕ) (d : Passes) → k < length begun → (get_or passes k d).areas.items ≡ first_passes locks.areas.items areas k)
    → (k : ℕ) (mine : Passes) → slice_get passes k ≡ Some mine → (first_pass fixed_of part_of locks.memory memory k ≡ mine.memory) × (mine.areas.items ≡ first_passes locks.areas.items areas k)
dealt-made locks seats memory areas dealt begun passes is_seats made by_memory count same by_areas k mine got =
    let is : get_or passes k mine ≡ mine = get_or_from_slice_get passes k mine mine got in
    let b = got-too passes begun k mine count got in
    let below = slice_get_within begun k b.0 b.1 in
    let was : get_or begun k mine ≡ b.0 = get_or_from_slice_get begun k b.0 mine b.1 in
    let first : b.0.memory ≡ first_pass fixed_of part_of locks.memory memory k =
    dealt-pass fixed_of part_of locks.memory memory dealt seats is_seats made k b.0.memory (ap (λ ps. slice_get ps k) (sym by_memory) ∙ got-mapped (λ (p : Passes). p.memory) begun k b.0 b.1) in (
      sym first ∙ sym (ap (λ (p : Passes). p.memory) was) ∙ sym (same k mine below) ∙ ap (λ (p : Passes). p.memory) is,
      sym (ap (λ (p : Passes). p.areas.items) is) ∙ by_areas k mine below,
    )

-- the passes of an area are as many as the seats
pub area-count : (lock : LockSeen) (area : AreaValue) (seats : ℕ) (dealt : List PassSeen) → dealt ≡ map (λ cpu. let p : PassSeen = record { table = lock.table; known = first_known fixed_area part_area seats area cpu } in p) (range_with_len 0 seats) → length dealt ≡ seats
area-count lock area seats dealt made =
    let by : ℕ → PassSeen = λ cpu. record { table = lock.table; known = first_known fixed_area part_area seats area cpu } in
    let a = length-map (range_with_len 0 seats) by in
    let r = range-count 0 seats in
    omega (arith, ap length made, a, r)

-- and one for a further area
pub area-dealt : (locks : List LockSeen) (areas : List AreaValue) (lock : LockSeen) (area : AreaValue) (seats : ℕ) (dealt : List PassSeen) (k : ℕ) (e : PassSeen) (olds news : List PassSeen) → lock.seats ≡ seats
    → dealt ≡ map (λ cpu. let p : PassSeen = record { table = lock.table; known = first_known fixed_area part_area seats area cpu } in p) (range_with_len 0 seats) → k < seats → length locks ≡ length areas
    → news ≡ olds ++ get_or dealt k e ∷ [] → olds ≡ first_passes locks areas k → news ≡ first_passes (locks ++ lock ∷ []) (areas ++ area ∷ []) k
area-dealt locks areas lock area seats dealt k e olds news is_seats made below count is before =
    let by : ℕ → PassSeen = λ cpu. record { table = lock.table; known = first_known fixed_area part_area seats area cpu } in
    let a = length-map (range_with_len 0 seats) by in
    let r = range-count 0 seats in
    let within : k < length dealt = omega (arith, below, ap length made, a, r) in
    let pass = dealt-pass fixed_area part_area lock area dealt seats is_seats made k (get_or dealt k e) (slice_get-get_or dealt k e within) in
    is ∙ ap (λ ps. ps ++ get_or dealt k e ∷ []) before ∙ ap (λ p. first_passes locks areas k ++ p ∷ []) pass ∙ sym (first-push locks areas lock area k count)

-- where no area has a lock yet
pub none-first : (cpu : ℕ) → [] ≡ first_passes [] [] cpu
unfolding first_passes
none-first cpu = refl

-- ---- what they take back

any-at : {X : Type 0} (P : X → Type 0) (xs : List X) (k : ℕ) (x : X) → slice_get xs k ≡ Some x → P x → Any P xs
any-at P xs k x got p =
    let is : get_or xs k x ≡ x = get_or_from_slice_get xs k x x got in
    let has = Contains-get_or xs k x (slice_get_within xs k x got) in (has.0, get_or xs k x, has.1, has.2, subst P (sym is) p)

module _ {T : Type 0} (seen : T → Seen) (stands : T → Ground → Type 0) (locks : Locks) (passes : List Passes) (all : List T) (s : AllSeated seen stands locks passes all) where
  seat-at : (k : ℕ) (mine : Passes) → slice_get passes k ≡ Some mine → (c : T) × (slice_get all k ≡ Some c) × ((seen c).number ≡ k) × Seated seen stands locks mine c
  seat-at k mine got =
      let c = got-too passes all k mine (seated-count seen stands locks 0 passes all s.each) got in
      let one = each-at seen stands locks 0 passes all s.each k mine c.0 got c.1 in (c.0, c.1, (let number : (seen c.0).number ≡ k = omega (arith, one.0) in number), one.1)

  passes-of : (cpu : ℕ) → cpu < locks.memory.seats → (mine : Passes) × (slice_get passes cpu ≡ Some mine)
  passes-of cpu below = elim (slice_get_cases passes cpu).1 [
    | inl p ↦ (p.0, p.2)
    | inr p ↦ absurd (let count = seated-count seen stands locks 0 passes all s.each in omega (arith, p.0, below, count, s.count))
  ]

  pub memory-tables : All (λ (p : PassSeen). p.table ≡ locks.memory.table) (map (λ (p : Passes). p.memory) passes)
  memory-tables =
      all-from-got (λ (p : PassSeen). p.table ≡ locks.memory.table) (map (λ (p : Passes). p.memory) passes)
      (λ k pass got. let at = mapped-got (λ (p : Passes). p.memory) passes k pass got in subst (λ (p : PassSeen). p.table ≡ locks.memory.table) at.2 (seat-at k at.0 at.1).3.memory.table)

  pub memory-numbers : (cpu : ℕ) → cpu < locks.memory.seats → Any (λ (p : PassSeen). p.known.number ≡ cpu) (map (λ (p : Passes). p.memory) passes)
  memory-numbers cpu below =
      let mine = passes-of cpu below in
      let seat = seat-at cpu mine.0 mine.1 in
      any-at (λ (p : PassSeen). p.known.number ≡ cpu) (map (λ (p : Passes). p.memory) passes) cpu mine.0.memory (got-mapped (λ (p : Passes). p.memory) passes cpu mine.0 mine.1) (seat.3.memory.number ∙ seat.2)

  -- a processor's pass for the area of a number
  area-held : (n : ℕ) (lock : LockSeen) → slice_get locks.areas.items n ≡ Some lock → (x : PassSeen) (k : ℕ) (mine : Passes) → slice_get passes k ≡ Some mine
      → (get_or mine.areas.items n x).table ≡ lock.table × ((get_or mine.areas.items n x).known.number ≡ k) × (lock.seats ≡ locks.memory.seats)
  area-held n lock got x k mine at =
      let seat = seat-at k mine at in
      let seated = seat.3 in
      let a = got-too locks.areas.items seated.left.areas n lock seated.areas.locks_count got in
      let p = got-too seated.left.areas mine.areas.items n a.0 (sym seated.areas.passes_count) a.1 in
      let holds = seated.areas.each n lock p.0 a.0 got p.1 a.1 in
      let is : get_or mine.areas.items n x ≡ p.0 = get_or_from_slice_get mine.areas.items n p.0 x p.1 in (
        ap (λ (q : PassSeen). q.table) is ∙ holds.table,
        ap (λ (q : PassSeen). q.known.number) is ∙ holds.number ∙ seat.2,
        holds.cpus ∙ sym seated.memory.cpus,
      )

  area-tables : (n : ℕ) (lock : LockSeen) → slice_get locks.areas.items n ≡ Some lock → (x : PassSeen) → All (λ (p : PassSeen). p.table ≡ lock.table) (map (λ (p : Passes). get_or p.areas.items n x) passes)
  area-tables n lock got x =
      all-from-got (λ (p : PassSeen). p.table ≡ lock.table) (map (λ (p : Passes). get_or p.areas.items n x) passes)
      (λ k pass at. let is = mapped-got (λ (p : Passes). get_or p.areas.items n x) passes k pass at in subst (λ (p : PassSeen). p.table ≡ lock.table) is.2 (area-held n lock got x k is.0 is.1).0)

  area-numbers : (n : ℕ) (lock : LockSeen) → slice_get locks.areas.items n ≡ Some lock → (x : PassSeen) (cpu : ℕ) → cpu < lock.seats → Any (λ (p : PassSeen). p.known.number ≡ cpu) (map (λ (p : Passes). get_or p.areas.items n x) passes)
  area-numbers n lock got x cpu below =
      let first = passes-of 0 s.some in
      let seats : lock.seats ≡ locks.memory.seats = (area-held n lock got x 0 first.0 first.1).2 in
      let mine = passes-of cpu (omega (arith, below, seats)) in
      any-at (λ (p : PassSeen). p.known.number ≡ cpu) (map (λ (p : Passes). get_or p.areas.items n x) passes) cpu (get_or mine.0.areas.items n x) (got-mapped (λ (p : Passes). get_or p.areas.items n x) passes cpu mine.0 mine.1)
      (area-held n lock got x cpu mine.0 mine.1).1

  pub area-all-of : (n : ℕ) (lock : LockSeen) → slice_get locks.areas.items n ≡ Some lock → (x : PassSeen) → AreAllOf lock (map (λ (p : Passes). get_or p.areas.items n x) passes)
  area-all-of n lock got x = record { tables = area-tables n lock got x; numbers = area-numbers n lock got x }

  -- each processor has as many passes as there are areas
  pub areas-counts : All (λ (p : Passes). length p.areas.items ≡ length locks.areas.items) passes
  areas-counts =
      all-from-got (λ (p : Passes). length p.areas.items ≡ length locks.areas.items) passes
      (λ k mine got. let seated = (seat-at k mine got).3 in seated.areas.passes_count ∙ sym seated.areas.locks_count)

-- all that the passes know is true of what the locks gave back
pub found-all : (passes : List Passes) (of_memory : List PassSeen) (of_areas : List (Vec PassSeen Global)) (memory : MemoryValue) (areas : List AreaValue) → of_memory ≡ map (λ (p : Passes). p.memory) passes → length of_areas ≡ length areas
    → ((n : ℕ) (d : Vec PassSeen Global) (e : PassSeen) → n < length areas → (get_or of_areas n d).items ≡ map (λ (p : Passes). get_or p.areas.items n e) passes) → All (λ (p : PassSeen). Finds fixed_of part_of moved_of p.known memory) of_memory
    → ((n : ℕ) (d : Vec PassSeen Global) (e : AreaValue) → n < length areas → Opened (get_or of_areas n d).items (get_or areas n e)) → All (λ mine. FoundBy mine (ground_of memory areas)) passes
found-all passes of_memory of_areas memory areas by_memory count by_areas found opened =
    all-from-got (λ mine. FoundBy mine (ground_of memory areas)) passes
    (λ k mine got.
    record {
      memory = got-from-all (λ (p : PassSeen). Finds fixed_of part_of moved_of p.known memory) of_memory found k mine.memory (ap (λ ps. slice_get ps k) by_memory ∙ got-mapped (λ (p : Passes). p.memory) passes k mine got);
      areas = λ n pass area got_p got_a.
          let below = slice_get_within areas n area got_a in
          let home = got-too areas of_areas n area (sym count) got_a in
          let one = (opened n home.0 area below).found in
          let is_area : get_or areas n area ≡ area = get_or_from_slice_get areas n area area got_a in
          let is_pass : get_or mine.areas.items n pass ≡ pass = get_or_from_slice_get mine.areas.items n pass pass got_p in
          let at : slice_get (get_or of_areas n home.0).items k ≡ Some pass =
          ap (λ ps. slice_get ps k) (by_areas n home.0 pass below) ∙ got-mapped (λ (p : Passes). get_or p.areas.items n pass) passes k mine got ∙ ap (λ p. Some p) is_pass in
          subst (λ a. Finds fixed_area part_area moved_area pass.known a) is_area
          (got-from-all (λ (p : PassSeen). Finds fixed_area part_area moved_area p.known (get_or areas n area)) (get_or of_areas n home.0).items one k pass at);
    })

-- and the entries of each area rise
pub risen-all : (of_areas : List (Vec PassSeen Global)) (areas : List AreaValue) → length of_areas ≡ length areas → ((n : ℕ) (d : Vec PassSeen Global) (e : AreaValue) → n < length areas → Opened (get_or of_areas n d).items (get_or areas n e))
    → (n : ℕ) (area : AreaValue) → slice_get areas n ≡ Some area → Rising (entries_of area.moved)
risen-all of_areas areas count opened n area got =
    let home = got-too areas of_areas n area (sym count) got in
    subst (λ (a : AreaValue). Rising (entries_of a.moved)) (get_or_from_slice_get areas n area area got) (opened n home.0 area (slice_get_within areas n area got)).rising
