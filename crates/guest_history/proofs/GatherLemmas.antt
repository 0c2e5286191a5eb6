use Rattle.std.proofs.Common.{◌≡◌, ℕ, zero, suc, ◌+◌, ◌<◌, ◌≤◌, ◌⊎◌, Bool, true, false, cond, Some, List, [], ◌∷◌, ◌++◌, get_or, refl, sym, ◌∙◌, ap, subst, inl, inr, arith, append-nil, unwrap_or, slice_get}
use Rattle.std.specs.Prelude.{All, AllPairs, filter, flat_map, not, ◌&&◌, ◌==◌, IsSortedByKey}
use Rattle.std.specs.List.Sorted.{IsNonDecreasingBy, IsStableByKey, ties}
use Rattle.std.specs.Ordering.{nat_cmp, is_lt}
use Rattle.std.proofs.lemmas.Bool.{cases_Bool, cases_eq, cases_order, eq-eqb, eqb-false, ne_eqb}
use Rattle.std.proofs.lemmas.List.Elements.{All-nil, All-cons, All-head, All-tail, All-append, filter-append}
use Rattle.std.proofs.lemmas.List.Kept.{AllPairs-cons, AllPairs-filter}
use Rattle.std.proofs.lemmas.List.Sorted.{IsNonDecreasingBy-from_sort}
use Rattle.event_core.specs.declared.entry.Entry.{Entry}
use Rattle.event_core.specs.Legal.{ComesBefore}
use Rattle.event_core.specs.Turns.{entries_by}
use Rattle.event_core.specs.Locally.{Rising}
use Rattle.event_core.proofs.RisingLemmas.{filter-at, pairs-nil, pairs-head, pairs-tail, before-one-way, has_key_of, same-by-key}

-- Lists of entries end to end, and a stable sort of them by stamp.

-- ---- filters

filter-all : {X : Type 0} (p : X → Bool) (xs : List X) → All (λ x. p x ≡ true) xs → filter p xs ≡ xs
filter-all p [] all = refl
filter-all p (x ∷ xs) all = filter-at p x xs true (All-head (λ y. p y ≡ true) x xs all) ∙ ap (λ ys. x ∷ ys) (filter-all p xs (All-tail (λ y. p y ≡ true) x xs all))

filter-none : {X : Type 0} (p : X → Bool) (xs : List X) → All (λ x. p x ≡ false) xs → filter p xs ≡ []
filter-none p [] all = refl
filter-none p (x ∷ xs) all = filter-at p x xs false (All-head (λ y. p y ≡ false) x xs all) ∙ filter-none p xs (All-tail (λ y. p y ≡ false) x xs all)

filter-ext : {X : Type 0} (p q : X → Bool) → ((x : X) → p x ≡ q x) → (xs : List X) → filter p xs ≡ filter q xs
filter-ext p q same [] = refl
filter-ext p q same (x ∷ xs) = filter-at p x xs (q x) (same x) ∙ ap (λ ys. cond (q x) (x ∷ ys) ys) (filter-ext p q same xs)

filter-swap : {X : Type 0} (p q : X → Bool) (xs : List X) → filter p (filter q xs) ≡ filter q (filter p xs)
filter-swap p q [] = refl
filter-swap {X} p q (x ∷ xs) = by_tests (p x) (q x) refl refl (filter-swap p q xs) where
  by_tests : (b c : Bool) → p x ≡ b → q x ≡ c → filter p (filter q xs) ≡ filter q (filter p xs) → filter p (filter q (x ∷ xs)) ≡ filter q (filter p (x ∷ xs))
  by_tests true true at by rest = ap (filter p) (filter-at q x xs true by) ∙ filter-at p x (filter q xs) true at ∙ ap (λ ys. x ∷ ys) rest ∙ sym (ap (filter q) (filter-at p x xs true at) ∙ filter-at q x (filter p xs) true by)
  by_tests true false at by rest = ap (filter p) (filter-at q x xs false by) ∙ rest ∙ sym (ap (filter q) (filter-at p x xs true at) ∙ filter-at q x (filter p xs) false by)
  by_tests false true at by rest = ap (filter p) (filter-at q x xs true by) ∙ filter-at p x (filter q xs) false at ∙ rest ∙ sym (ap (filter q) (filter-at p x xs false at))
  by_tests false false at by rest = ap (filter p) (filter-at q x xs false by) ∙ rest ∙ sym (ap (filter q) (filter-at p x xs false at))

all-map : {X : Type 0} (P Q : X → Type 0) → ((x : X) → P x → Q x) → (xs : List X) → All P xs → All Q xs
all-map P Q each xs all k d within = each _ (all k d within)

-- what holds of the items that a filter keeps, and of those that it doesn't
all-both : {X : Type 0} (P : X → Type 0) (p : X → Bool) → ((x : X) → p x ≡ false → P x) → (xs : List X) → All P (filter p xs) → All P xs
all-both P p others [] all = All-nil P
all-both P p others (x ∷ xs) all =
    elim (cases_Bool (p x)) [
      | inl kept ↦
          (let here : All P (x ∷ filter p xs) = subst (All P) (filter-at p x xs true kept) all in
          All-cons P x xs (All-head P x (filter p xs) here) (all-both P p others xs (All-tail P x (filter p xs) here)))
      | inr out ↦ All-cons P x xs (others x out) (all-both P p others xs (subst (All P) (filter-at p x xs false out) all))
    ]

-- ---- lists end to end

abbrev pub joined : List (List Entry) → List Entry
joined lists = flat_map (λ (list : List Entry). list) lists

-- an entry names a processor
abbrev IsBy : ℕ → Entry → Type 0
IsBy cpu entry = entry.cpu.0 ≡ cpu

-- the lists name the processors from one on
abbrev NamedFrom : ℕ → List (List Entry) → Type 0
NamedFrom from lists = (i : ℕ) (list : List Entry) → slice_get lists i ≡ Some list → All (IsBy (from + i)) list

named-tail : (from : ℕ) (list : List Entry) (lists : List (List Entry)) → NamedFrom from (list ∷ lists) → NamedFrom (from + 1) lists
named-tail from list lists named i l at = subst (λ n. All (IsBy n) l) (let same : from + suc i ≡ (from + 1) + i = omega arith in same) (named (suc i) l at)

named-head : (from : ℕ) (list : List Entry) (lists : List (List Entry)) → NamedFrom from (list ∷ lists) → All (IsBy from) list
named-head from list lists named = subst (λ n. All (IsBy n) list) (let same : from + 0 ≡ from = omega arith in same) (named 0 list refl)

joined-above : (from : ℕ) (lists : List (List Entry)) → NamedFrom from lists → All (λ (e : Entry). from ≤ e.cpu.0) (joined lists)
joined-above from [] named = All-nil (λ (e : Entry). from ≤ e.cpu.0)
joined-above from (list ∷ lists) named =
    All-append (λ (e : Entry). from ≤ e.cpu.0) list (joined lists)
    (all-map (IsBy from) (λ (e : Entry). from ≤ e.cpu.0) (λ e by. omega (arith, by)) list (named-head from list lists named))
    (all-map (λ (e : Entry). from + 1 ≤ e.cpu.0) (λ (e : Entry). from ≤ e.cpu.0) (λ e high. omega (arith, high)) (joined lists) (joined-above (from + 1) lists (named-tail from list lists named)))

joined-by : (from : ℕ) (lists : List (List Entry)) → NamedFrom from lists → (i : ℕ) → entries_by (from + i) (joined lists) ≡ unwrap_or (slice_get lists i) []
joined-by from [] named i = refl
joined-by from (list ∷ lists) named zero =
    let its : Entry → Bool = λ e. e.cpu.0 == from + 0 in
    filter-append its list (joined lists)
    ∙ ap (λ l. l ++ filter its (joined lists)) (filter-all its list (all-map (IsBy from) (λ e. its e ≡ true) (λ e by. eq-eqb e.cpu.0 (from + 0) (omega (arith, by))) list (named-head from list lists named)))
    ∙ ap (λ l. list ++ l) (filter-none its (joined lists) (all-map (λ (e : Entry). from + 1 ≤ e.cpu.0) (λ e. its e ≡ false) (λ e high. ne_eqb e.cpu.0 (from + 0) (λ at. omega (arith, at, high))) (joined lists) (joined-above (from + 1) lists (named-tail from list lists named))))
    ∙ append-nil list
joined-by from (list ∷ lists) named (suc i) =
    let its : Entry → Bool = λ e. e.cpu.0 == from + suc i in
    filter-append its list (joined lists)
    ∙ ap (λ l. l ++ filter its (joined lists)) (filter-none its list (all-map (IsBy from) (λ e. its e ≡ false) (λ e by. ne_eqb e.cpu.0 (from + suc i) (λ at. omega (arith, at, by))) list (named-head from list lists named)))
    ∙ ap (λ n. entries_by n (joined lists)) (let same : from + suc i ≡ (from + 1) + i = omega arith in same)
    ∙ joined-by (from + 1) lists (named-tail from list lists named) i

-- the lists of a guest name its processors from 0 on
abbrev pub Named : List (List Entry) → Type 0
Named lists = (cpu : ℕ) (list : List Entry) → slice_get lists cpu ≡ Some list → All (IsBy cpu) list

from_none : (cpu : ℕ) → cpu ≡ 0 + cpu
from_none cpu = omega arith

named-from : (lists : List (List Entry)) → Named lists → NamedFrom 0 lists
named-from lists named cpu list at = subst (λ n. All (IsBy n) list) (from_none cpu) (named cpu list at)

-- of one stamp the later entry is a later processor's
abbrev Tied : Entry → Entry → Type 0
Tied a b = a.stamp ≡ b.stamp → a.cpu.0 < b.cpu.0

before-tied : (a b : Entry) → ComesBefore a b → Tied a b
before-tied a b (inl less) same = absurd (omega (arith, less, same))
before-tied a b (inr both) same = both.1

pairs-append : {X : Type 0} (R : X → X → Type 0) (xs ys : List X) → AllPairs R xs → AllPairs R ys → All (λ x. All (R x) ys) xs → AllPairs R (xs ++ ys)
pairs-append R [] ys left right across = right
pairs-append R (x ∷ xs) ys left right across =
    AllPairs-cons R x (xs ++ ys) (All-append (R x) xs ys (pairs-head R x xs left) (All-head (λ z. All (R z) ys) x xs across))
    (pairs-append R xs ys (pairs-tail R x xs left) right (All-tail (λ z. All (R z) ys) x xs across))

joined-tied : (from : ℕ) (lists : List (List Entry)) → NamedFrom from lists → All Rising lists → AllPairs Tied (joined lists)
joined-tied from [] named rise = pairs-nil Tied
joined-tied from (list ∷ lists) named rise =
    pairs-append Tied list (joined lists) (λ i j d before within. before-tied (get_or list i d) (get_or list j d) (All-head Rising list lists rise i j d before within))
    (joined-tied (from + 1) lists (named-tail from list lists named) (All-tail Rising list lists rise))
    (all-map (IsBy from) (λ a. All (Tied a) (joined lists))
    (λ a by. all-map (λ (b : Entry). from + 1 ≤ b.cpu.0) (Tied a) (λ b high same. omega (arith, by, high)) (joined lists) (joined-above (from + 1) lists (named-tail from list lists named)))
    list (named-head from list lists named))

-- ---- the sort

abbrev stamp_at : Entry → ℕ
stamp_at e = e.stamp

not-both : (a b : Bool) → a ≡ false → b ≡ false → (not a && not b) ≡ true
not-both a b first second = ap (λ x. not x && not b) first ∙ ap (λ x. not x) second

ties-are : (x y : Entry) → ties (λ (a b : Entry). is_lt (nat_cmp a.stamp b.stamp)) x y ≡ has_key_of stamp_at x y
ties-are x y = grind (arith, cases_order x.stamp y.stamp)

-- what holds among the entries of each stamp, and of no two others, holds among all
tied-from : (es : List Entry) → ((x : Entry) → AllPairs Tied (filter (has_key_of stamp_at x) es)) → AllPairs Tied es
tied-from [] each = pairs-nil Tied
tied-from (e ∷ es) each =
    AllPairs-cons Tied e es
    (all-both (Tied e) (has_key_of stamp_at e) (λ x out same. absurd (eqb-false x.stamp e.stamp out (sym same))) es
    (pairs-head Tied e (filter (has_key_of stamp_at e) es) (subst (AllPairs Tied) (filter-at (has_key_of stamp_at e) e es true (eq-eqb e.stamp e.stamp refl)) (each e))))
    (tied-from es (λ x. behind x (cases_Bool (has_key_of stamp_at x e))))
  where
    behind : (x : Entry) → (has_key_of stamp_at x e ≡ true) ⊎ (has_key_of stamp_at x e ≡ false) → AllPairs Tied (filter (has_key_of stamp_at x) es)
    behind x (inl kept) = pairs-tail Tied e (filter (has_key_of stamp_at x) es) (subst (AllPairs Tied) (filter-at (has_key_of stamp_at x) e es true kept) (each x))
    behind x (inr out) = subst (AllPairs Tied) (filter-at (has_key_of stamp_at x) e es false out) (each x)

pub rises-after : (before after : List Entry) → AllPairs Tied before → IsSortedByKey stamp_at nat_cmp after → ((x : Entry) → filter (has_key_of stamp_at x) after ≡ filter (has_key_of stamp_at x) before) → Rising after
rises-after before after tied sorted same =
    let up : IsNonDecreasingBy stamp_at after = IsNonDecreasingBy-from_sort stamp_at after sorted in
    let pairs : AllPairs Tied after = tied-from after (λ x. subst (AllPairs Tied) (sym (same x)) (AllPairs-filter Tied (has_key_of stamp_at x) before tied)) in
    λ i j d less within. one (get_or after i d) (get_or after j d) (up i j d (omega (arith, less)) within) (pairs i j d less within)
  where
    one : (a b : Entry) → a.stamp ≤ b.stamp → Tied a b → ComesBefore a b
    one a b low later =
        elim (cases_eq a.stamp b.stamp) [
          | inl at ↦ inr (at, later at)
          | inr apart ↦ inl (omega (arith, low, apart))
        ]

pub same-stamps : (before after : List Entry) → IsStableByKey stamp_at nat_cmp before after → (x : Entry) → filter (has_key_of stamp_at x) after ≡ filter (has_key_of stamp_at x) before
same-stamps before after stable x =
    let test : Entry → Bool = ties (λ (a b : Entry). is_lt (nat_cmp a.stamp b.stamp)) x in
    sym (filter-ext test (has_key_of stamp_at x) (ties-are x) after) ∙ stable x ∙ filter-ext test (has_key_of stamp_at x) (ties-are x) before

-- ---- the lists sorted

pub sorted-rises : (lists : List (List Entry)) (all after : List Entry) → Named lists → All Rising lists → all ≡ joined lists
    → IsSortedByKey stamp_at nat_cmp after → IsStableByKey stamp_at nat_cmp all after → Rising after
sorted-rises lists all after named rise is sorted stable =
    rises-after all after (subst (AllPairs Tied) (sym is) (joined-tied 0 lists (named-from lists named) rise)) sorted (same-stamps all after stable)

pub sorted-by : (lists : List (List Entry)) (all after : List Entry) → Named lists → All Rising lists → all ≡ joined lists
    → IsSortedByKey stamp_at nat_cmp after → IsStableByKey stamp_at nat_cmp all after → (cpu : ℕ) → entries_by cpu after ≡ unwrap_or (slice_get lists cpu) []
sorted-by lists all after named rise is sorted stable cpu =
    let its : Entry → Bool = λ e. e.cpu.0 == cpu in
    let kept : filter its all ≡ unwrap_or (slice_get lists cpu) [] = ap (filter its) is ∙ ap (λ n. entries_by n (joined lists)) (from_none cpu) ∙ joined-by 0 lists (named-from lists named) cpu in
    same-by-key stamp_at ComesBefore before-one-way (filter its after) (unwrap_or (slice_get lists cpu) [])
    (AllPairs-filter ComesBefore its after (sorted-rises lists all after named rise is sorted stable))
    (list-rises lists rise cpu)
    (λ x.
    filter-swap (has_key_of stamp_at x) its after ∙ ap (filter its) (same-stamps all after stable x) ∙ filter-swap its (has_key_of stamp_at x) all ∙ ap (filter (has_key_of stamp_at x)) kept)
  where
    list-rises : (ls : List (List Entry)) → All Rising ls → (n : ℕ) → Rising (unwrap_or (slice_get ls n) [])
    list-rises [] all n = pairs-nil ComesBefore
    list-rises (l ∷ ls) all zero = All-head Rising l ls all
    list-rises (l ∷ ls) all (suc n) = list-rises ls (All-tail Rising l ls all) n
