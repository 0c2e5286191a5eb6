use Rattle.std.proofs.Common.{◌≡◌, ◌≢◌, ◌⊎◌, ℕ, zero, suc, ◌+◌, ◌<◌, ◌≤◌, ◌^◌, Option, None, Some, Result, Ok, Err, List, [], ◌∷◌, ◌++◌, All, Any, refl, sym, ◌∙◌, ap, subst, map, length, get_or, max, inl, inr, arith}
use Rattle.std.specs.Prelude.{IsOk, fold, slice_get}
use Rattle.std.specs.Option.{option_map_or}
use Rattle.std.proofs.lemmas.Option.{slice_get_cases}
use Rattle.std.proofs.lemmas.List.{length-append, length-map, map-append}
use Rattle.std.proofs.lemmas.List.Elements.{All-nil, All-cons, All-head, All-tail, All-push}
use Rattle.event_core.specs.declared.boot.Boot.{Boot}
use Rattle.event_core.specs.declared.clock.NoRoom.{NoRoom}
use Rattle.event_core.specs.declared.clock.NoRoom.TheVariants.{Worn}
use Rattle.event_core.specs.declared.entry.Place.{Place}
use Rattle.event_core.specs.declared.entry.Place.TheVariants.{Memory, Area, Own}
use Rattle.event_core.specs.Legal.{greatest_stamp}
use Rattle.event_core.specs.Moved.{Moved}
use Rattle.io_areas.specs.Value.{AreaValue}
use Rattle.guest_steps.specs.Ground.{Ground, HasArea, IsGroundOf, there_in}
use Rattle.guest_steps.specs.declared.processor.Need.TheVariants as need
use Rattle.guest_steps.specs.Running.{AllFinished, AllStand, EachLater, IsFresh, StaysLater}
use Rattle.guest_steps.specs.Seen.{Seen, need_of}
use Rattle.guest_steps.specs.Standing.{Together}
use Rattle.guest_steps.specs.Steps.{stamp_before, stamp_in}
use Rattle.guest_threads.specs.declared.locks.Locks.{Locks}
use Rattle.guest_threads.specs.declared.locks.Passes.{Passes}
use Rattle.guest_threads.specs.declared.places.Place.{Place as Seat}
use Rattle.guest_threads.specs.Places.{HasPasses, IsFinished, IsRefused, RanAt, RanBy, SeatedAt, SeatedBy, passes_at, processors_at}
use Rattle.guest_threads.specs.Seated.{AllSeated, AllSeen, EachSeated, IsWorn, seen_in}
use Rattle.guest_threads.proofs.LockLemmas.{got-from-all, got-mapped, mapped-got}
use Rattle.memory_core.proofs.UnderLockLemmas.{greatest-last}

-- What came of the runs at all places.

pub at-count : {T : Type 0} (places : List (Seat T)) → length (passes_at places) ≡ length (processors_at places)
at-count [] = refl
at-count (p ∷ ps) = let n = length-append (passes_at ps) (p.passes ∷ []) in let m = length-append (processors_at ps) (p.processor ∷ []) in let both = at-count ps in omega (arith, n, m, both)

pub places-count : {T : Type 0} (places : List (Seat T)) → length (processors_at places) ≡ length places
places-count [] = refl
places-count (p ∷ ps) = let m = length-append (processors_at ps) (p.processor ∷ []) in let below = places-count ps in omega (arith, m, below)

-- as many passes come from the places as went there
pub same-count : {T : Type 0} (olds news : List (Seat T)) (passes left : List Passes) → passes_at olds ≡ map Some passes → map Some left ≡ passes_at news → length news ≡ length olds → length passes ≡ length left
same-count olds news passes left before after count =
    let a = at-count olds in
    let b = at-count news in
    let m = places-count olds in
    let n = places-count news in
    let p = length-map passes (λ (x : Passes). Some x) in
    let l = length-map left (λ (x : Passes). Some x) in
    omega (arith, a, b, m, n, p, l, count, ap length before, ap length after)

got-before : {X : Type 0} (xs ys : List X) (k : ℕ) (x : X) → slice_get xs k ≡ Some x → slice_get (xs ++ ys) k ≡ Some x
got-before [] ys k x is = cc
got-before (z ∷ zs) ys zero x is = is
got-before (z ∷ zs) ys (suc k) x is = got-before zs ys k x is

got-last : {X : Type 0} (xs : List X) (x : X) → slice_get (xs ++ x ∷ []) (length xs) ≡ Some x
got-last [] x = refl
got-last (z ∷ zs) x = got-last zs x

any-cases : {X : Type 0} (P : X → Type 0) (x : X) (xs : List X) → Any P (x ∷ xs) → P x ⊎ Any P xs
any-cases P x xs (zero, y, below, is, p) = inl (subst P (sym is) p)
any-cases P x xs (suc k, y, below, is, p) = inr (k, y, omega (arith, below), is, p)

module _ {T : Type 0} (seen : T → Seen) (stands : T → Ground → Type 0) (NeverFails : T → Type 0) (locks : Locks) where
  -- processors from one number on, each with what may be its pass
  abbrev pub EachBy : ℕ → List (Option Passes) → List T → Type 0
  EachBy from [] [] = Unit {0}
  EachBy from (o ∷ os) (c ∷ cs) = ((seen c).number ≡ from) × SeatedBy seen stands locks o c × EachBy (suc from) os cs
  EachBy from [] (c ∷ cs) = ⊥
  EachBy from (o ∷ os) [] = ⊥

  pub by-each : (from : ℕ) (passes : List Passes) (all : List T) → EachSeated seen stands locks from passes all → EachBy from (map Some passes) all
  by-each from [] [] each = tt
  by-each from [] (c ∷ cs) each = absurd each
  by-each from (p ∷ ps) [] each = absurd each
  by-each from (p ∷ ps) (c ∷ cs) each = (each.0, each.1, by-each (suc from) ps cs each.2)

  pub each-by : (from : ℕ) (passes : List Passes) (all : List T) → EachBy from (map Some passes) all → EachSeated seen stands locks from passes all
  each-by from [] [] each = tt
  each-by from [] (c ∷ cs) each = absurd each
  each-by from (p ∷ ps) [] each = absurd each
  each-by from (p ∷ ps) (c ∷ cs) each = (each.0, each.1, each-by (suc from) ps cs each.2)

  by-unpush : (from : ℕ) (os : List (Option Passes)) (cs : List T) (o : Option Passes) (c : T) → length os ≡ length cs → EachBy from (os ++ o ∷ []) (cs ++ c ∷ [])
      → EachBy from os cs × ((seen c).number ≡ from + length cs) × SeatedBy seen stands locks o c
  by-unpush from [] [] o c count each = (tt, omega (arith, each.0), each.1)
  by-unpush from [] (x ∷ xs) o c count each = absurd (omega (arith, count))
  by-unpush from (x ∷ xs) [] o c count each = absurd (omega (arith, count))
  by-unpush from (x ∷ xs) (y ∷ ys) o c count each = let rest = by-unpush (suc from) xs ys o c (omega (arith, count)) each.2 in ((each.0, each.1, rest.0), omega (arith, rest.1), rest.2)

  by-push : (from : ℕ) (os : List (Option Passes)) (cs : List T) (o : Option Passes) (c : T) → EachBy from os cs → (seen c).number ≡ from + length cs → SeatedBy seen stands locks o c → EachBy from (os ++ o ∷ []) (cs ++ c ∷ [])
  by-push from [] [] o c each number seat = (omega (arith, number), seat, tt)
  by-push from [] (x ∷ xs) o c each number seat = absurd each
  by-push from (x ∷ xs) [] o c each number seat = absurd each
  by-push from (x ∷ xs) (y ∷ ys) o c each number seat = (each.0, each.1, by-push (suc from) xs ys o c each.2 (omega (arith, number)) seat)

  -- at each place the pass is the processor's
  pub places-seated : (places : List (Seat T)) → EachBy 0 (passes_at places) (processors_at places) → All (SeatedAt seen stands locks) places
  places-seated [] each = All-nil (SeatedAt seen stands locks)
  places-seated (p ∷ ps) each =
      let cut = by-unpush 0 (passes_at ps) (processors_at ps) p.passes p.processor (at-count ps) each in All-cons (SeatedAt seen stands locks) p ps cut.2 (places-seated ps cut.0)

  abbrev pub AllRan : List (Seat T) → List (Seat T) → Type 0
  AllRan [] [] = Unit {0}
  AllRan (o ∷ os) (n ∷ ns) = RanAt seen stands NeverFails locks o n × AllRan os ns
  AllRan [] (n ∷ ns) = ⊥
  AllRan (o ∷ os) [] = ⊥

  pub all-ran : (olds news : List (Seat T)) → length news ≡ length olds → ((k : ℕ) (d : Seat T) → k < length olds → RanAt seen stands NeverFails locks (get_or olds k d) (get_or news k d)) → AllRan olds news
  all-ran [] [] count each = tt
  all-ran [] (n ∷ ns) count each = absurd (omega (arith, count))
  all-ran (o ∷ os) [] count each = absurd (omega (arith, count))
  all-ran (o ∷ os) (n ∷ ns) count each = (each 0 o (omega arith), all-ran os ns (omega (arith, count)) (λ k d below. each (suc k) d (omega (arith, below))))

  ran-seat : (old new : T) (pass : Option Passes) (answer : Result Unit NoRoom) → RanBy seen stands NeverFails locks old new pass answer → SeatedBy seen stands locks pass new × StaysLater seen NeverFails old new
  ran-seat old new None answer ran = absurd ran
  ran-seat old new (Some p) answer ran = (ran.seated, ran.later)

  -- all processors are at their seats again
  pub ran-by : (olds news : List (Seat T)) → EachBy 0 (passes_at olds) (processors_at olds) → AllRan olds news → EachBy 0 (passes_at news) (processors_at news) × (length (processors_at news) ≡ length (processors_at olds))
  ran-by [] [] each ran = (tt, refl)
  ran-by [] (n ∷ ns) each ran = absurd ran
  ran-by (o ∷ os) [] each ran = absurd ran
  ran-by (o ∷ os) (n ∷ ns) each ran =
      let cut = by-unpush 0 (passes_at os) (processors_at os) o.passes o.processor (at-count os) each in
      let rest = ran-by os ns cut.0 ran.1 in
      let seat = ran-seat o.processor n.processor n.passes n.answer ran.0 in
      let count = rest.1 in (
        by-push 0 (passes_at ns) (processors_at ns) n.passes n.processor rest.0 (omega (arith, cut.1, seat.1.later.number, count)) seat.0,
        (let a = length-append (processors_at ns) (n.processor ∷ []) in let b = length-append (processors_at os) (o.processor ∷ []) in omega (arith, a, b, count)),
      )

  -- processors that went to places with their passes
  pub seated-by : (places : List (Seat T)) (passes : List Passes) (all : List T) → EachSeated seen stands locks 0 passes all → processors_at places ≡ all → passes_at places ≡ map Some passes → EachBy 0 (passes_at places) (processors_at places)
  seated-by places passes all each is_all is_passes = subst (λ l. EachBy 0 (passes_at places) l) (sym is_all) (subst (λ l. EachBy 0 l all) (sym is_passes) (by-each 0 passes all each))

  -- and came from there again
  pub left-seated : (olds news : List (Seat T)) (passes left : List Passes) (all later : List T) → AllSeated seen stands locks passes all → processors_at olds ≡ all → passes_at olds ≡ map Some passes → AllRan olds news
      → later ≡ processors_at news → map Some left ≡ passes_at news → AllSeated seen stands locks left later
  left-seated olds news passes left all later s is_all is_passes ran is_later is_left =
      let ended = ran-by olds news (seated-by olds passes all s.each is_all is_passes) ran in
      let count = ended.1 in
      record {
        some = s.some;
        count = ap length is_later ∙ count ∙ ap length is_all ∙ s.count;
        each = each-by 0 left later (subst (λ l. EachBy 0 l later) (sym is_left) (subst (λ l. EachBy 0 (passes_at news) l) (sym is_later) ended.0));
      }

  later-push : (olds news : List T) (old new : T) → EachLater seen NeverFails olds news → StaysLater seen NeverFails old new → EachLater seen NeverFails (olds ++ old ∷ []) (news ++ new ∷ [])
  later-push [] [] old new each later = (later, tt)
  later-push [] (n ∷ ns) old new each later = absurd each
  later-push (o ∷ os) [] old new each later = absurd each
  later-push (o ∷ os) (n ∷ ns) old new each later = (each.0, later-push os ns old new each.1 later)

  pub ran-later : (olds news : List (Seat T)) → AllRan olds news → EachLater seen NeverFails (processors_at olds) (processors_at news)
  ran-later [] [] ran = tt
  ran-later [] (n ∷ ns) ran = absurd ran
  ran-later (o ∷ os) [] ran = absurd ran
  ran-later (o ∷ os) (n ∷ ns) ran = later-push (processors_at os) (processors_at ns) o.processor n.processor (ran-later os ns ran.1) (ran-seat o.processor n.processor n.passes n.answer ran.0).1

  has-pass : (old new : T) (pass : Option Passes) (answer : Result Unit NoRoom) → RanBy seen stands NeverFails locks old new pass answer → pass ≢ None
  has-pass old new None answer ran = absurd ran
  has-pass old new (Some p) answer ran = λ is. (let none : Some p ≡ None = is in cc)

  pub ran-has : (olds news : List (Seat T)) → AllRan olds news → All HasPasses news
  ran-has [] [] ran = All-nil HasPasses
  ran-has [] (n ∷ ns) ran = absurd ran
  ran-has (o ∷ os) [] ran = absurd ran
  ran-has (o ∷ os) (n ∷ ns) ran = All-cons HasPasses n ns (has-pass o.processor n.processor n.passes n.answer ran.0) (ran-has os ns ran.1)

  is-finished : (old new : T) (pass : Option Passes) (answer : Result Unit NoRoom) → RanBy seen stands NeverFails locks old new pass answer → IsOk answer → need_of (seen new) ≡ need.Finished
  is-finished old new None answer ran ok = absurd ran
  is-finished old new (Some p) (Ok u) ran ok = ran.ended.finished
  is-finished old new (Some p) (Err refusal) ran ok = cc

  pub ran-finished : (olds news : List (Seat T)) → AllRan olds news → All IsFinished news → AllFinished (map seen (processors_at news))
  ran-finished [] [] ran ok = All-nil (λ (c : Seen). need_of c ≡ need.Finished)
  ran-finished [] (n ∷ ns) ran ok = absurd ran
  ran-finished (o ∷ os) [] ran ok = absurd ran
  ran-finished (o ∷ os) (n ∷ ns) ran ok =
      subst AllFinished (sym (map-append seen (processors_at ns) (n.processor ∷ [])))
      (All-push (λ (c : Seen). need_of c ≡ need.Finished) (map seen (processors_at ns)) (seen n.processor) (ran-finished os ns ran.1 (All-tail IsFinished n ns ok))
      (is-finished o.processor n.processor n.passes n.answer ran.0 (All-head IsFinished n ns ok)))

  -- where a stamp ran out
  pub record WornAt (places : List (Seat T)) (stamp : ℕ) : Type 0 where
    pub at : ℕ
    pub processor : T
    pub got : slice_get (processors_at places) at ≡ Some processor
    pub place : ℕ
    pub mine : Passes
    pub got_mine : slice_get (passes_at places) place ≡ Some (Some mine)
    pub worn : IsWorn (seen processor) mine stamp

  worn-here : (old new : T) (pass : Option Passes) (answer : Result Unit NoRoom) (stamp : ℕ) → RanBy seen stands NeverFails locks old new pass answer → answer ≡ Err (Worn stamp) → (p : Passes) × (pass ≡ Some p) × IsWorn (seen new) p stamp
  worn-here old new None answer stamp ran is = absurd ran
  worn-here old new (Some p) answer stamp ran is = (p, refl, ran.ended.worn stamp is)

  pub ran-worn : (olds news : List (Seat T)) (stamp : ℕ) → AllRan olds news → Any (IsRefused (Worn stamp)) news → WornAt news stamp
  ran-worn [] [] stamp ran any = absurd (omega (arith, any.2))
  ran-worn [] (n ∷ ns) stamp ran any = absurd ran
  ran-worn (o ∷ os) [] stamp ran any = absurd ran
  ran-worn (o ∷ os) (n ∷ ns) stamp ran any = elim (any-cases (IsRefused (Worn stamp)) n ns any) [
    | inl here ↦
        (let worn = worn-here o.processor n.processor n.passes n.answer stamp ran.0 here in
        record {
          at = length (processors_at ns);
          processor = n.processor;
          got = got-last (processors_at ns) n.processor;
          place = length (passes_at ns);
          mine = worn.0;
          got_mine = got-last (passes_at ns) n.passes ∙ ap (λ p. Some p) worn.1;
          worn = worn.2;
        })
    | inr rest ↦
        (let worn = ran-worn os ns stamp ran.1 rest in
        record {
          at = worn.at;
          processor = worn.processor;
          got = got-before (processors_at ns) (n.processor ∷ []) worn.at worn.processor worn.got;
          place = worn.place;
          mine = worn.mine;
          got_mine = got-before (passes_at ns) (n.passes ∷ []) worn.place (Some worn.mine) worn.got_mine;
          worn = worn.worn;
        })
  ]

-- ---- no stamp runs out

-- the greatest stamp only grows
greatest-grows : (from : ℕ) (first rest : List Moved) → fold (λ greatest (m : Moved). max greatest m.entry.stamp) from first ≤ fold (λ greatest (m : Moved). max greatest m.entry.stamp) from (first ++ rest)
greatest-grows from [] [] = omega arith
greatest-grows from [] (m ∷ ms) = let more = greatest-grows (max from m.entry.stamp) [] ms in omega (arith, more)
greatest-grows from (m ∷ ms) rest = greatest-grows (max from m.entry.stamp) ms rest

-- that no stamp of a processor, of the memory or of an area is used up
abbrev pub StampsSmall : Seen → Ground → Type 0
StampsSmall c base = (stamp_before c base.memory < 2 ^ 64) × ((area : AreaValue) → HasArea base area → stamp_in c area < 2 ^ 64)

small-there : (boot : Boot) (c : Seen) (base : Ground) → IsGroundOf boot base → StampsSmall c base → (place : Place) → max (greatest_stamp c.moved) (greatest_stamp (there_in base place)) < 2 ^ 64
small-there boot c base same small Memory = let last = greatest-last base.memory.entries in let low = small.0 in omega (arith, last, low)
small-there boot c base same small Own = let low = small.0 in omega (arith, low)
small-there boot c base same small (Area n) = elim (slice_get_cases base.areas n).1 [
  | inl a ↦
      (let has : HasArea base a.0 = subst (λ k. slice_get base.areas k ≡ Some a.0) (sym (same.each n a.0 a.2).0) a.2 in
      subst (λ ms. max (greatest_stamp c.moved) (greatest_stamp ms) < 2 ^ 64) (sym (ap (λ o. option_map_or (λ (x : AreaValue). x.moved) o []) a.2)) (small.1 a.0 has))
  | inr a ↦
      subst (λ ms. max (greatest_stamp c.moved) (greatest_stamp ms) < 2 ^ 64) (sym (ap (λ o. option_map_or (λ (x : AreaValue). x.moved) o []) a.1)) (let low = small.0 in omega (arith, low))
]

worn-never : (boot : Boot) (c : Seen) (base : Ground) (mine : Passes) (stamp : ℕ) → IsGroundOf boot base → StampsSmall c base → AllSeen mine base → IsWorn c mine stamp → ⊥
worn-never boot c base mine stamp same small seen worn =
    let low = small-there boot c base same small worn.place in
    let grows = seen worn.place in
    let more : greatest_stamp (seen_in mine worn.place) ≤ greatest_stamp (there_in base worn.place) =
    subst (λ ms. greatest_stamp (seen_in mine worn.place) ≤ greatest_stamp ms) (sym grows.1) (greatest-grows 0 (seen_in mine worn.place) grows.0) in
    omega (arith, low, more, worn.great, worn.stands)

-- so no processor was refused for want of stamps
pub ran-never-worn : {T : Type 0} (seen : T → Seen) (stands : T → Ground → Type 0) (NeverFails : T → Type 0) (locks : Locks) (olds news : List (Seat T)) (passes : List Passes) (all : List T) (base : Ground) (stamp : ℕ)
    → AllRan seen stands NeverFails locks olds news → all ≡ processors_at news → map Some passes ≡ passes_at news → AllStand seen stands base.memory.boot all base → All (λ mine. AllSeen mine base) passes
    → ((cpu : ℕ) (c : Seen) → slice_get (map seen all) cpu ≡ Some c → StampsSmall c base) → Any (IsRefused (Worn stamp)) news → ⊥
ran-never-worn seen stands NeverFails locks olds news passes all base stamp ran is_all is_passes stand grow small any =
    let worn = ran-worn seen stands NeverFails locks olds news stamp ran any in
    let got : slice_get all worn.at ≡ Some worn.processor = ap (λ l. slice_get l worn.at) is_all ∙ worn.got in
    let found = mapped-got (λ (p : Passes). Some p) passes worn.place (Some worn.mine) (ap (λ l. slice_get l worn.place) is_passes ∙ worn.got_mine) in
    let same : found.0 ≡ worn.mine = cc in
    worn-never base.memory.boot (seen worn.processor) base worn.mine stamp stand.together.same (small worn.at (seen worn.processor) (got-mapped seen all worn.at worn.processor got))
    (subst (λ p. AllSeen p base) same (got-from-all (λ p. AllSeen p base) passes grow worn.place found.0 found.1)) worn.worn

-- ---- before the threads, and after them

pub fresh-later : {T : Type 0} (seen : T → Seen) (NeverFails : T → Type 0) (all : List T) → All IsFresh (map seen all) → EachLater seen NeverFails all all
fresh-later seen NeverFails [] fresh = tt
fresh-later seen NeverFails (c ∷ cs) fresh =
    let first = All-head IsFresh (seen c) (map seen cs) fresh in (
      record {
        later = record { boot = refl; number = refl; script = refl; made_before = refl; faults_before = refl; reported = ap (λ (x : Seen). x.done) first };
        never_fails = λ never. never;
      },
      fresh-later seen NeverFails cs (All-tail IsFresh (seen c) (map seen cs) fresh),
    )

pub later-boot : {T : Type 0} (seen : T → Seen) (NeverFails : T → Type 0) (olds news : List T) (b d : Boot) (m n : Ground) → 0 < length olds → EachLater seen NeverFails olds news → Together b (map seen olds) m → Together d (map seen news) n → d ≡ b
later-boot seen NeverFails [] news b d m n some later old new = absurd (omega (arith, some))
later-boot seen NeverFails (o ∷ os) [] b d m n some later old new = absurd later
later-boot seen NeverFails (o ∷ os) (x ∷ xs) b d m n some later old new = sym (new.each 0 (seen x) refl).1 ∙ later.0.later.boot ∙ (old.each 0 (seen o) refl).1
