use Rattle.std.proofs.Common.{◌≡◌, ◌≢◌, ◌⊎◌, ℕ, zero, suc, ◌≤◌, None, Some, List, [], ◌∷◌, ◌++◌, set, map, length, refl, sym, ◌∙◌, ap, inl, inr, arith, slice_get}
use Rattle.std.specs.Prelude.{All}
use Rattle.std.proofs.lemmas.List.Elements.{All-nil, All-cons, All-head, All-tail}
use Rattle.event_core.specs.declared.command.Command.{Command}

-- Lists.

-- ---- one item of a list is replaced

pub slice_get-set_same : {X : Type 0} (xs : List X) (i : ℕ) (x y : X) → slice_get xs i ≡ Some x → slice_get (set xs i y) i ≡ Some y
slice_get-set_same [] i x y at = cc
slice_get-set_same (z ∷ zs) zero x y at = refl
slice_get-set_same (z ∷ zs) (suc i) x y at = slice_get-set_same zs i x y at

pub slice_get-set_other : {X : Type 0} (xs : List X) (i j : ℕ) (y : X) → j ≢ i → slice_get (set xs i y) j ≡ slice_get xs j
slice_get-set_other [] i j y differ = refl
slice_get-set_other (z ∷ zs) zero zero y differ = absurd (differ refl)
slice_get-set_other (z ∷ zs) zero (suc j) y differ = refl
slice_get-set_other (z ∷ zs) (suc i) zero y differ = refl
slice_get-set_other (z ∷ zs) (suc i) (suc j) y differ = slice_get-set_other zs i j y (λ same. differ (ap suc same))

-- where one item of a list was set
pub got-set : {X : Type 0} (xs : List X) (i : ℕ) (x : X) (k : ℕ) (y : X) → slice_get (set xs i x) k ≡ Some y → ((k ≡ i) × (y ≡ x)) ⊎ ((k ≢ i) × (slice_get xs k ≡ Some y))
got-set [] i x k y got = cc
got-set (z ∷ xs) zero x zero y got = inl (refl, (let same : y ≡ x = cc in same))
got-set (z ∷ xs) zero x (suc k) y got = inr (λ same. omega (arith, same), got)
got-set (z ∷ xs) (suc i) x zero y got = inr (λ same. omega (arith, same), got)
got-set (z ∷ xs) (suc i) x (suc k) y got =
    elim (got-set xs i x k y got) [
      | inl here ↦ inl (let same = here.0 in omega (arith, same), here.1)
      | inr other ↦ inr (λ same. other.0 (omega (arith, same)), other.1)
    ]

pub past-none : {X : Type 0} (xs : List X) (k : ℕ) → slice_get xs k ≡ None → length xs ≤ k
past-none [] k at = omega arith
past-none (x ∷ xs) zero at = cc
past-none (x ∷ xs) (suc k) at = let more = past-none xs k at in omega (arith, more)

-- ---- what stands in a list

pub not-in-nil : {X : Type 0} (before later : List X) (x : X) → [] ≡ before ++ x ∷ later → ⊥
not-in-nil [] later x is = cc
not-in-nil (y ∷ before) later x is = cc

-- the last item is the one that stands there, or one before it is
pub split-push : {X : Type 0} (xs : List X) (x : X) (us : List X) (u : X) (vs : List X) → xs ++ x ∷ [] ≡ us ++ u ∷ vs → ((us ≡ xs) × (u ≡ x)) ⊎ ((ws : List X) × (xs ≡ us ++ u ∷ ws))
split-push [] x [] u vs is = inl (refl, (let same : u ≡ x = cc in same))
split-push [] x (w ∷ us) u vs is = absurd (let tail : [] ≡ us ++ u ∷ vs = cc in not-in-nil us vs u tail)
split-push (y ∷ xs) x [] u vs is = inr (xs, (let head : y ≡ u = cc in ap (λ z. z ∷ xs) head))
split-push (y ∷ xs) x (w ∷ us) u vs is =
    let head : y ≡ w = cc in
    let tail : xs ++ x ∷ [] ≡ us ++ u ∷ vs = cc in
    elim (split-push xs x us u vs tail) [
      | inl last ↦ inl (ap (λ zs. w ∷ zs) last.0 ∙ ap (λ z. z ∷ xs) (sym head), last.1)
      | inr earlier ↦ inr (earlier.0, ap (λ z. z ∷ xs) head ∙ ap (λ zs. w ∷ zs) earlier.1)
    ]

pub all-unmap : {X Y : Type 0} (P : Y → Type 0) (f : X → Y) (xs : List X) → All P (map f xs) → All (λ x. P (f x)) xs
all-unmap P f [] all = All-nil (λ x. P (f x))
all-unmap P f (x ∷ xs) all = All-cons (λ x. P (f x)) x xs (All-head P (f x) (map f xs) all) (all-unmap P f xs (All-tail P (f x) (map f xs) all))

-- ---- scripts of which one is the processor's

abbrev pub alone : ℕ → List Command → List (List Command)
alone zero script = script ∷ []
alone (suc n) script = [] ∷ alone n script

pub alone-has : (n : ℕ) (script : List Command) → slice_get (alone n script) n ≡ Some script
alone-has zero script = refl
alone-has (suc n) script = alone-has n script
