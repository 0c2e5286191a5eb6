use Rattle.std.proofs.Common.{◌≡◌, ℕ, suc, ◌⊎◌, ◌+◌, ◌≤◌, Bool, true, false, cond, List, [], ◌∷◌, ◌++◌, map, max, refl, sym, ◌∙◌, ap, subst, inl, inr, arith}
use Rattle.std.specs.Prelude.{All, AllPairs, filter, fold, ◌==◌}
use Rattle.std.proofs.lemmas.Bool.{cases_eq, eq-eqb, ne_eqb}
use Rattle.std.proofs.lemmas.List.Elements.{All-nil, All-cons, All-head, All-tail, All-filter}
use Rattle.std.proofs.lemmas.List.Kept.{AllPairs-cons}
use Rattle.std.proofs.lemmas.List.Quantifiers.{all_pairs_push}
use Rattle.event_core.specs.declared.entry.Entry.{Entry}
use Rattle.event_core.specs.Moved.{Moved}
use Rattle.event_core.specs.Legal.{ComesBefore}
use Rattle.event_core.specs.Locally.{Rising}

-- Lists in which each item stands in a relation to every later one, and entries that rise.

-- ---- pairs

pub pairs-nil : {X : Type 0} (R : X → X → Type 0) → AllPairs R []
pairs-nil R i j d before within = absurd (omega arith)

pub pairs-head : {X : Type 0} (R : X → X → Type 0) (x : X) (xs : List X) → AllPairs R (x ∷ xs) → All (R x) xs
pairs-head R x xs all k d within = all 0 (suc k) d (omega arith) (omega (arith, within))

pub pairs-tail : {X : Type 0} (R : X → X → Type 0) (x : X) (xs : List X) → AllPairs R (x ∷ xs) → AllPairs R xs
pairs-tail R x xs all i j d before within = all (suc i) (suc j) d (omega (arith, before)) (omega (arith, within))

pub all-middle : {X : Type 0} (P : X → Type 0) (xs : List X) (y : X) (ys : List X) → All P (xs ++ y ∷ ys) → P y
all-middle P [] y ys all = All-head P y ys all
all-middle P (x ∷ xs) y ys all = all-middle P xs y ys (All-tail P x (xs ++ y ∷ ys) all)

-- what stands before an item
pub pairs-before : {X : Type 0} (R : X → X → Type 0) (xs : List X) (y : X) (ys : List X) → AllPairs R (xs ++ y ∷ ys) → All (λ x. R x y) xs
pairs-before R [] y ys all = All-nil (λ x. R x y)
pairs-before R (x ∷ xs) y ys all =
    All-cons (λ z. R z y) x xs (all-middle (R x) xs y ys (pairs-head R x (xs ++ y ∷ ys) all)) (pairs-before R xs y ys (pairs-tail R x (xs ++ y ∷ ys) all))

pub pairs-map : {X Y : Type 0} (f : X → Y) (R : Y → Y → Type 0) (xs : List X) → AllPairs (λ x y. R (f x) (f y)) xs → AllPairs R (map f xs)
pairs-map f R [] all = pairs-nil R
pairs-map {X} {Y} f R (x ∷ xs) all =
    AllPairs-cons R (f x) (map f xs) (each xs (pairs-head (λ x y. R (f x) (f y)) x xs all)) (pairs-map f R xs (pairs-tail (λ x y. R (f x) (f y)) x xs all))
  where
    each : (ys : List X) → All (λ y. R (f x) (f y)) ys → All (R (f x)) (map f ys)
    each [] h = All-nil (R (f x))
    each (y ∷ ys) h = All-cons (R (f x)) (f y) (map f ys) (All-head (λ y. R (f x) (f y)) y ys h) (each ys (All-tail (λ y. R (f x) (f y)) y ys h))

pub pairs-unmap : {X Y : Type 0} (f : X → Y) (R : Y → Y → Type 0) (xs : List X) → AllPairs R (map f xs) → AllPairs (λ x y. R (f x) (f y)) xs
pairs-unmap f R [] all = pairs-nil (λ x y. R (f x) (f y))
pairs-unmap {X} {Y} f R (x ∷ xs) all =
    AllPairs-cons (λ x y. R (f x) (f y)) x xs (each xs (pairs-head R (f x) (map f xs) all)) (pairs-unmap f R xs (pairs-tail R (f x) (map f xs) all))
  where
    each : (ys : List X) → All (R (f x)) (map f ys) → All (λ y. R (f x) (f y)) ys
    each [] h = All-nil (λ y. R (f x) (f y))
    each (y ∷ ys) h = All-cons (λ y. R (f x) (f y)) y ys (All-head (R (f x)) (f y) (map f ys) h) (each ys (All-tail (R (f x)) (f y) (map f ys) h))

-- an item that stands in no relation to itself stands once
pub split-once : {X : Type 0} (R : X → X → Type 0) (none : (x : X) → R x x → ⊥) (xs : List X) (x : X) (ys us vs : List X) → AllPairs R (xs ++ x ∷ ys) → xs ++ x ∷ ys ≡ us ++ x ∷ vs → xs ≡ us
split-once R none [] x ys [] vs all is = refl
split-once R none [] x ys (u ∷ us) vs all is =
    let rest : ys ≡ us ++ x ∷ vs = cc in
    absurd (none x (all-middle (R x) us x vs (subst (λ zs. All (R x) zs) rest (pairs-head R x ys all))))
split-once R none (z ∷ xs) x ys [] vs all is =
    let first : z ≡ x = cc in
    absurd (none x (subst (λ w. R w x) first (all-middle (R z) xs x ys (pairs-head R z (xs ++ x ∷ ys) all))))
split-once R none (z ∷ xs) x ys (u ∷ us) vs all is =
    let first : z ≡ u = cc in
    let rest : xs ++ x ∷ ys ≡ us ++ x ∷ vs = cc in
    subst (λ w. z ∷ xs ≡ w ∷ us) first (ap (λ zs. z ∷ zs) (split-once R none xs x ys us vs (pairs-tail R z (xs ++ x ∷ ys) all) rest))

-- ---- entries

-- one entry with its bytes comes before another
abbrev pub Before : Moved → Moved → Type 0
Before a b = ComesBefore a.entry b.entry

pub before-none : (m : Moved) → Before m m → ⊥
before-none m (inl less) = omega (arith, less)
before-none m (inr both) = let less = both.1 in omega (arith, less)

-- the greatest stamp of entries, from a number on
abbrev pub greatest : ℕ → List Entry → ℕ
greatest from entries = fold (λ last (e : Entry). max last e.stamp) from entries

greatest-from : (from : ℕ) (entries : List Entry) → from ≤ greatest from entries
greatest-from from [] = omega arith
greatest-from from (e ∷ es) = let more = greatest-from (max from e.stamp) es in omega (arith, more)

-- no stamp is above the greatest one
below-greatest : (from : ℕ) (entries : List Entry) → All (λ (e : Entry). e.stamp ≤ greatest from entries) entries
below-greatest from [] = All-nil (λ (e : Entry). e.stamp ≤ from)
below-greatest from (e ∷ es) =
    let more = greatest-from (max from e.stamp) es in
    All-cons (λ (x : Entry). x.stamp ≤ greatest (max from e.stamp) es) e es (omega (arith, more)) (below-greatest (max from e.stamp) es)

-- an entry whose stamp is above all others comes behind them
pub rising-push : (entries : List Entry) (e : Entry) → greatest 0 entries + 1 ≤ e.stamp → Rising entries → Rising (entries ++ e ∷ [])
rising-push entries e above rises = all_pairs_push ComesBefore entries e rises (λ k d inside. inl (let low = below-greatest 0 entries k d inside in omega (arith, low, above)))

-- ---- lists with the same items of each key

pub filter-at : {X : Type 0} (p : X → Bool) (x : X) (xs : List X) (b : Bool) → p x ≡ b → filter p (x ∷ xs) ≡ cond b (x ∷ filter p xs) (filter p xs)
filter-at p x xs b is = ap (λ (c : Bool). cond c (x ∷ filter p xs) (filter p xs)) is

-- the first item of one list, where the first of the other has another key, stands behind it there
stands-behind : {X : Type 0} (R : X → X → Type 0) (p : X → Bool) (x y : X) (xs ys : List X) → All (R y) ys → p x ≡ true → p y ≡ false → filter p (x ∷ xs) ≡ filter p (y ∷ ys) → R y x
stands-behind R p x y xs ys all kept out same =
    let found : x ∷ filter p xs ≡ filter p ys = sym (filter-at p x xs true kept) ∙ same ∙ filter-at p y ys false out in
    All-head (R y) x (filter p xs) (subst (All (R y)) (sym found) (All-filter p (R y) ys all))

tails-same : {X : Type 0} (p : X → Bool) (x y : X) (xs ys : List X) → x ≡ y → filter p (x ∷ xs) ≡ filter p (y ∷ ys) → filter p xs ≡ filter p ys
tails-same {X} p x y xs ys first same = by_test (p x) refl where
  by_test : (b : Bool) → p x ≡ b → filter p xs ≡ filter p ys
  by_test true is =
      let here : x ∷ filter p xs ≡ y ∷ filter p ys = sym (filter-at p x xs true is) ∙ same ∙ filter-at p y ys true (ap p (sym first) ∙ is) in
      cc
  by_test false is = sym (filter-at p x xs false is) ∙ same ∙ filter-at p y ys false (ap p (sym first) ∙ is)

-- whether an item has the key of another
abbrev pub has_key_of : {X : Type 0} → (X → ℕ) → X → X → Bool
has_key_of key x y = key y == key x

-- two lists in which each item stands in a relation to the later ones, but none of these to it, are one where they have the same
-- items of each key
pub same-by-key : {X : Type 0} (key : X → ℕ) (R : X → X → Type 0) → ((a b : X) → R a b → R b a → ⊥) → (xs ys : List X) → AllPairs R xs → AllPairs R ys
    → ((x : X) → filter (has_key_of key x) xs ≡ filter (has_key_of key x) ys) → xs ≡ ys
same-by-key key R one_way [] [] left right same = refl
same-by-key key R one_way [] (y ∷ ys) left right same =
    let no : [] ≡ y ∷ filter (has_key_of key y) ys = same y ∙ filter-at (has_key_of key y) y ys true (eq-eqb (key y) (key y) refl) in
    cc
same-by-key key R one_way (x ∷ xs) [] left right same =
    let no : x ∷ filter (has_key_of key x) xs ≡ [] = sym (filter-at (has_key_of key x) x xs true (eq-eqb (key x) (key x) refl)) ∙ same x in
    cc
same-by-key {X} key R one_way (x ∷ xs) (y ∷ ys) left right same =
    by_key (cases_eq (key x) (key y))
    (λ first. same-by-key key R one_way xs ys (pairs-tail R x xs left) (pairs-tail R y ys right) (λ z. tails-same (has_key_of key z) x y xs ys first (same z)))
  where
    px : X → Bool
    px = has_key_of key x

    py : X → Bool
    py = has_key_of key y

    by_key : (key x ≡ key y) ⊎ (key x ≡ key y → ⊥) → (x ≡ y → xs ≡ ys) → x ∷ xs ≡ y ∷ ys
    by_key (inl is) rest =
        let here : x ∷ filter px xs ≡ y ∷ filter px ys = sym (filter-at px x xs true (eq-eqb (key x) (key x) refl)) ∙ same x ∙ filter-at px y ys true (eq-eqb (key y) (key x) (sym is)) in
        let first : x ≡ y = cc in
        ap (λ z. z ∷ xs) first ∙ ap (λ zs. y ∷ zs) (rest first)
    by_key (inr apart) rest =
        let behind : R y x = stands-behind R px x y xs ys (pairs-head R y ys right) (eq-eqb (key x) (key x) refl) (ne_eqb (key y) (key x) (λ is. apart (sym is))) (same x) in
        let before : R x y = stands-behind R py y x ys xs (pairs-head R x xs left) (eq-eqb (key y) (key y) refl) (ne_eqb (key x) (key y) apart) (sym (same y)) in
        absurd (one_way x y before behind)

-- entries come before each other in no circle
pub before-one-way : (a b : Entry) → ComesBefore a b → ComesBefore b a → ⊥
before-one-way a b (inl less) (inl more) = omega (arith, less, more)
before-one-way a b (inl less) (inr more) = let same = more.0 in omega (arith, less, same)
before-one-way a b (inr less) (inl more) = let same = less.0 in omega (arith, same, more)
before-one-way a b (inr less) (inr more) = let below = less.1 in let above = more.1 in omega (arith, below, above)
