use Rattle.std.proofs.Common.{◌≡◌, ◌≢◌, ◌⊎◌, ℕ, zero, suc, ◌+◌, ◌*◌, ◌<◌, ◌≤◌, Bool, true, false, cond, Some, List, [], ◌∷◌, ◌++◌, refl, sym, ◌∙◌, ap, subst, inl, inr, arith, unwrap_or, slice_get, append-nil, eqb-true}
use Rattle.std.specs.Prelude.{All, AllPairs, filter, length, ◌==◌}
use Rattle.std.specs.List.{flat_map}
use Rattle.std.proofs.lemmas.Bool.{cases_eq, cases_lt, eq-eqb, ne_eqb}
use Rattle.std.proofs.lemmas.List.{length-append}
use Rattle.std.proofs.lemmas.List.Elements.{All-nil, All-cons, All-head, All-tail, All-append, All-weaker, filter-append}
use Rattle.std.proofs.lemmas.List.Kept.{AllPairs-cons}
use Rattle.event_core.specs.declared.entry.Entry.{Entry}
use Rattle.event_core.specs.Legal.{ComesBefore}
use Rattle.event_core.specs.Locally.{Rising}
use Rattle.event_core.specs.Turns.{entries_by}
use Rattle.event_core.proofs.RisingLemmas.{filter-at, pairs-nil, pairs-head, pairs-tail, before-one-way}

-- Lists of entries, each of one processor and rising, are those of one rising list.

-- ---- the order

before-through : (a b c : Entry) → ComesBefore a b → ComesBefore b c → ComesBefore a c
before-through a b c (inl first) (inl then) = inl (omega (arith, first, then))
before-through a b c (inl first) (inr then) = (let same = then.0 in inl (omega (arith, first, same)))
before-through a b c (inr first) (inl then) = (let same = first.0 in inl (omega (arith, same, then)))
before-through a b c (inr first) (inr then) =
    let s = first.0 in
    let t = then.0 in
    let l = first.1 in
    let m = then.1 in
    inr (omega (arith, s, t), omega (arith, l, m))

-- of two entries one comes before the other, or both are of one stamp and one processor
which-first : (a b : Entry) → ComesBefore a b ⊎ (ComesBefore b a ⊎ (a.cpu.0 ≡ b.cpu.0))
which-first a b =
    elim (cases_eq a.stamp b.stamp) [
      | inl same ↦ by_cpu same (cases_eq a.cpu.0 b.cpu.0)
      | inr apart ↦ by_stamp apart (cases_lt a.stamp b.stamp)
    ]
  where
    by_cpu : a.stamp ≡ b.stamp → (a.cpu.0 ≡ b.cpu.0) ⊎ (a.cpu.0 ≡ b.cpu.0 → ⊥) → ComesBefore a b ⊎ (ComesBefore b a ⊎ (a.cpu.0 ≡ b.cpu.0))
    by_cpu same (inl one) = inr (inr one)
    by_cpu same (inr two) =
        elim (cases_lt a.cpu.0 b.cpu.0) [
          | inl less ↦ inl (inr (same, less))
          | inr more ↦ inr (inl (inr (sym same, omega (arith, two, more))))
        ]

    by_stamp : (a.stamp ≡ b.stamp → ⊥) → (a.stamp < b.stamp) ⊎ (b.stamp ≤ a.stamp) → ComesBefore a b ⊎ (ComesBefore b a ⊎ (a.cpu.0 ≡ b.cpu.0))
    by_stamp apart (inl less) = inl (inl less)
    by_stamp apart (inr more) = inr (inl (inl (omega (arith, apart, more))))

-- of one processor the first entry comes before the other
abbrev pub InOrder : Entry → Entry → Type 0
InOrder a b = a.cpu.0 ≡ b.cpu.0 → ComesBefore a b

-- ---- one more entry

-- a rising list with the entries of another, each processor's in their order
pub record Sorted (entries : List Entry) : Type 1 where
  pub sorted : List Entry
  pub rises : Rising sorted
  pub same : (cpu : ℕ) → entries_by cpu sorted ≡ entries_by cpu entries
  pub each : (P : Entry → Type 0) → All P entries → All P sorted
  pub long : length sorted ≡ length entries

swap-by : (cpu : ℕ) (a b : Entry) (entries : List Entry) → a.cpu.0 ≢ b.cpu.0 → entries_by cpu (a ∷ b ∷ entries) ≡ entries_by cpu (b ∷ a ∷ entries)
swap-by cpu a b entries apart = by_tests (its a) (its b) refl refl where
  its : Entry → Bool
  its e = e.cpu.0 == cpu

  by_tests : (x y : Bool) → its a ≡ x → its b ≡ y → filter its (a ∷ b ∷ entries) ≡ filter its (b ∷ a ∷ entries)
  by_tests true true at bt = absurd (apart (eqb-true a.cpu.0 cpu at ∙ sym (eqb-true b.cpu.0 cpu bt)))
  by_tests true false at bt =
      filter-at its a (b ∷ entries) true at ∙ ap (λ es. a ∷ es) (filter-at its b entries false bt) ∙ sym (filter-at its b (a ∷ entries) false bt ∙ filter-at its a entries true at)
  by_tests false true at bt =
      filter-at its a (b ∷ entries) false at ∙ filter-at its b entries true bt ∙ sym (filter-at its b (a ∷ entries) true bt ∙ ap (λ es. b ∷ es) (filter-at its a entries false at))
  by_tests false false at bt =
      filter-at its a (b ∷ entries) false at ∙ filter-at its b entries false bt ∙ sym (filter-at its b (a ∷ entries) false bt ∙ filter-at its a entries false at)

cons-by : (cpu : ℕ) (e : Entry) (xs ys : List Entry) → entries_by cpu xs ≡ entries_by cpu ys → entries_by cpu (e ∷ xs) ≡ entries_by cpu (e ∷ ys)
cons-by cpu e xs ys same = ap (λ es. cond (e.cpu.0 == cpu) (e ∷ es) es) same

insert : (e : Entry) (xs : List Entry) → Rising xs → All (InOrder e) xs → Sorted (e ∷ xs)
insert e [] rises order = record {
  sorted = e ∷ [];
  rises = AllPairs-cons ComesBefore e [] (All-nil (ComesBefore e)) (pairs-nil ComesBefore);
  same = λ cpu. refl;
  each = λ P all. all;
  long = refl;
}
insert e (x ∷ xs) rises order =
    elim (which-first e x) [
      | inl first ↦ here first
      | inr other ↦
          elim other [
            | inl later ↦ behind later (insert e xs (pairs-tail ComesBefore x xs rises) (All-tail (InOrder e) x xs order))
            | inr one ↦ here (All-head (InOrder e) x xs order one)
          ]
    ]
  where
    here : ComesBefore e x → Sorted (e ∷ x ∷ xs)
    here first = record {
      sorted = e ∷ x ∷ xs;
      rises = AllPairs-cons ComesBefore e (x ∷ xs)
          (All-cons (ComesBefore e) x xs first (All-weaker (ComesBefore x) (ComesBefore e) (λ y then. before-through e x y first then) xs (pairs-head ComesBefore x xs rises)))
          rises;
      same = λ cpu. refl;
      each = λ P all. all;
      long = refl;
    }

    behind : ComesBefore x e → Sorted (e ∷ xs) → Sorted (e ∷ x ∷ xs)
    behind later s = record {
      sorted = x ∷ s.sorted;
      rises = AllPairs-cons ComesBefore x s.sorted (s.each (ComesBefore x) (All-cons (ComesBefore x) e xs later (pairs-head ComesBefore x xs rises))) s.rises;
      same = λ cpu.
          cons-by cpu x s.sorted (e ∷ xs) (s.same cpu)
          ∙ swap-by cpu x e xs (λ one. before-one-way x e later (All-head (InOrder e) x xs order (sym one)));
      each = λ P all.
          All-cons P x s.sorted (All-head P x xs (All-tail P e (x ∷ xs) all))
          (s.each P (All-cons P e xs (All-head P e (x ∷ xs) all) (All-tail P x xs (All-tail P e (x ∷ xs) all))));
      long = (let l = s.long in omega (arith, l));
    }

-- entries, of which each processor's are in order, in one rising list
pub sort : (entries : List Entry) → AllPairs InOrder entries → Sorted entries
sort [] order = record { sorted = []; rises = pairs-nil ComesBefore; same = λ cpu. refl; each = λ P all. all; long = refl }
sort (e ∷ es) order = more (sort es (pairs-tail InOrder e es order)) where
  more : Sorted es → Sorted (e ∷ es)
  more s = (
      let one = insert e s.sorted s.rises (s.each (InOrder e) (pairs-head InOrder e es order)) in
      record {
        sorted = one.sorted;
        rises = one.rises;
        same = λ cpu. one.same cpu ∙ cons-by cpu e s.sorted es (s.same cpu);
        each = λ P all. one.each P (All-cons P e s.sorted (All-head P e es all) (s.each P (All-tail P e es all)));
        long = (let l = one.long in let m = s.long in omega (arith, l, m));
      })

-- ---- lists end to end

abbrev pub joined : List (List Entry) → List Entry
joined lists = flat_map (λ list. list) lists

-- the lists are those of processors from a number on, and each rises
pub record AreLists (from : ℕ) (lists : List (List Entry)) : Type 0 where
  pub named : (cpu : ℕ) (list : List Entry) → slice_get lists cpu ≡ Some list → All (λ (e : Entry). e.cpu.0 ≡ from + cpu) list
  pub rise : (cpu : ℕ) (list : List Entry) → slice_get lists cpu ≡ Some list → Rising list

behind-first : (from : ℕ) (list : List Entry) (lists : List (List Entry)) → AreLists from (list ∷ lists) → AreLists (from + 1) lists
behind-first from list lists are = record {
  named = λ cpu l at. subst (λ n. All (λ (e : Entry). e.cpu.0 ≡ n) l) (let same : from + suc cpu ≡ (from + 1) + cpu = omega arith in same) (are.named (suc cpu) l at);
  rise = λ cpu l at. are.rise (suc cpu) l at;
}

first-named : (from : ℕ) (list : List Entry) (lists : List (List Entry)) → AreLists from (list ∷ lists) → All (λ (e : Entry). e.cpu.0 ≡ from) list
first-named from list lists are = subst (λ n. All (λ (e : Entry). e.cpu.0 ≡ n) list) (let same : from + 0 ≡ from = omega arith in same) (are.named 0 list refl)

joined-above : (from : ℕ) (lists : List (List Entry)) → AreLists from lists → All (λ (e : Entry). from ≤ e.cpu.0) (joined lists)
joined-above from [] are = All-nil (λ (e : Entry). from ≤ e.cpu.0)
joined-above from (list ∷ lists) are =
    All-append (λ (e : Entry). from ≤ e.cpu.0) list (joined lists)
    (All-weaker (λ (e : Entry). e.cpu.0 ≡ from) (λ (e : Entry). from ≤ e.cpu.0) (λ e is. omega (arith, is)) list (first-named from list lists are))
    (All-weaker (λ (e : Entry). from + 1 ≤ e.cpu.0) (λ (e : Entry). from ≤ e.cpu.0) (λ e high. omega (arith, high)) (joined lists) (joined-above (from + 1) lists (behind-first from list lists are)))

filter-all : (p : Entry → Bool) (xs : List Entry) → All (λ x. p x ≡ true) xs → filter p xs ≡ xs
filter-all p [] all = refl
filter-all p (x ∷ xs) all = filter-at p x xs true (All-head (λ y. p y ≡ true) x xs all) ∙ ap (λ ys. x ∷ ys) (filter-all p xs (All-tail (λ y. p y ≡ true) x xs all))

filter-none : (p : Entry → Bool) (xs : List Entry) → All (λ x. p x ≡ false) xs → filter p xs ≡ []
filter-none p [] all = refl
filter-none p (x ∷ xs) all = filter-at p x xs false (All-head (λ y. p y ≡ false) x xs all) ∙ filter-none p xs (All-tail (λ y. p y ≡ false) x xs all)

-- of lists end to end a processor's entries are its list
joined-by : (from : ℕ) (lists : List (List Entry)) → AreLists from lists → (cpu : ℕ) → entries_by (from + cpu) (joined lists) ≡ unwrap_or (slice_get lists cpu) []
joined-by from [] are cpu = refl
joined-by from (list ∷ lists) are zero =
    let its : Entry → Bool = λ e. e.cpu.0 == from + 0 in
    filter-append its list (joined lists)
    ∙ ap (λ l. l ++ filter its (joined lists)) (filter-all its list (All-weaker (λ (e : Entry). e.cpu.0 ≡ from) (λ e. its e ≡ true) (λ e is. eq-eqb e.cpu.0 (from + 0) (omega (arith, is))) list (first-named from list lists are)))
    ∙ ap (λ l. list ++ l) (filter-none its (joined lists) (All-weaker (λ (e : Entry). from + 1 ≤ e.cpu.0) (λ e. its e ≡ false) (λ e high. ne_eqb e.cpu.0 (from + 0) (λ at. omega (arith, at, high))) (joined lists) (joined-above (from + 1) lists (behind-first from list lists are))))
    ∙ append-nil list
joined-by from (list ∷ lists) are (suc cpu) =
    let its : Entry → Bool = λ e. e.cpu.0 == from + suc cpu in
    filter-append its list (joined lists)
    ∙ ap (λ l. l ++ filter its (joined lists)) (filter-none its list (All-weaker (λ (e : Entry). e.cpu.0 ≡ from) (λ e. its e ≡ false) (λ e is. ne_eqb e.cpu.0 (from + suc cpu) (λ at. omega (arith, at, is))) list (first-named from list lists are)))
    ∙ ap (λ n. entries_by n (joined lists)) (let same : from + suc cpu ≡ (from + 1) + cpu = omega arith in same)
    ∙ joined-by (from + 1) lists (behind-first from list lists are) cpu

pairs-append : (R : Entry → Entry → Type 0) (xs ys : List Entry) → AllPairs R xs → AllPairs R ys → All (λ x. All (R x) ys) xs → AllPairs R (xs ++ ys)
pairs-append R [] ys left right across = right
pairs-append R (x ∷ xs) ys left right across =
    AllPairs-cons R x (xs ++ ys) (All-append (R x) xs ys (pairs-head R x xs left) (All-head (λ z. All (R z) ys) x xs across))
    (pairs-append R xs ys (pairs-tail R x xs left) right (All-tail (λ z. All (R z) ys) x xs across))

joined-order : (from : ℕ) (lists : List (List Entry)) → AreLists from lists → AllPairs InOrder (joined lists)
joined-order from [] are = pairs-nil InOrder
joined-order from (list ∷ lists) are =
    pairs-append InOrder list (joined lists) (λ i j d before within one. are.rise 0 list refl i j d before within)
    (joined-order (from + 1) lists (behind-first from list lists are))
    (All-weaker (λ (e : Entry). e.cpu.0 ≡ from) (λ a. All (InOrder a) (joined lists))
    (λ a is. All-weaker (λ (b : Entry). from + 1 ≤ b.cpu.0) (InOrder a) (λ b high one. absurd (omega (arith, is, high, one))) (joined lists) (joined-above (from + 1) lists (behind-first from list lists are)))
    list (first-named from list lists are))

joined-long : (lists : List (List Entry)) (most : ℕ) → ((cpu : ℕ) (list : List Entry) → slice_get lists cpu ≡ Some list → length list ≤ most) → length (joined lists) ≤ length lists * most
joined-long [] most each = omega arith
joined-long (list ∷ lists) most each =
    let rest = joined-long lists most (λ cpu l at. each (suc cpu) l at) in
    let first = each 0 list refl in
    let both = length-append list (joined lists) in
    let more : suc (length lists) * most ≡ most + length lists * most = omega arith in
    omega (arith, rest, first, both, more)

-- one rising list of all
pub record OneOf (lists : List (List Entry)) : Type 0 where
  pub entries : List Entry
  pub rises : Rising entries
  pub same : (cpu : ℕ) → entries_by cpu entries ≡ unwrap_or (slice_get lists cpu) []
  pub long : (most : ℕ) → ((cpu : ℕ) (list : List Entry) → slice_get lists cpu ≡ Some list → length list ≤ most) → length entries ≤ length lists * most

pub one-of : (lists : List (List Entry)) → AreLists 0 lists → OneOf lists
one-of lists are =
    let s = sort (joined lists) (joined-order 0 lists are) in
    record {
      entries = s.sorted;
      rises = s.rises;
      same = λ cpu. s.same cpu ∙ ap (λ n. entries_by n (joined lists)) (let same : cpu ≡ 0 + cpu = omega arith in same) ∙ joined-by 0 lists are cpu;
      long = λ most each. (let l = s.long in let m = joined-long lists most each in omega (arith, l, m));
    }
