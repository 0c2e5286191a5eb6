-- How many runs a list that is written anew gets.
use Rattle.std.proofs.Common.{◌≡◌, ℕ, zero, suc, ◌+◌, ◌<◌, ◌≤◌, List, [], ◌∷◌, Bool, true, length, filter, get_or, take, arith, inl, inr}
use Rattle.std.specs.List.{flat_map}
use Rattle.std.proofs.lemmas.Bool.{cases_Bool}
use Rattle.std.proofs.lemmas.List.Folds.{length-flat_map-take}

pub flat_map-room : {X Y : Type 0} (f : X → List Y) (xs : List X) (i : ℕ) (d : X) (n m given now : ℕ) → i < length xs →
    n ≤ m + length (flat_map f (take i xs)) → m + length (flat_map f xs) ≤ given → given ≤ now → n + length (f (get_or xs i d)) ≤ now
flat_map-room f xs i d n m given now l a b c = let e = length-flat_map-take f xs i d l in omega arith

filter-take : {X : Type 0} (p : X → Bool) (xs : List X) (i : ℕ) (d : X) → i < length xs → p (get_or xs i d) ≡ true →
    length (filter p (take i xs)) + 1 ≤ length (filter p xs)
filter-take p [] i d l e = absurd (omega arith)
filter-take p (x ∷ xs) zero d l e = rw e (omega arith)
filter-take p (x ∷ xs) (suc i) d l e =
    let h = filter-take p xs i d (omega arith) e in
    elim (cases_Bool (p x)) [ inl t ↦ rw t (omega arith) | inr t ↦ rw t h ]

pub filter-room : {X : Type 0} (p : X → Bool) (xs : List X) (i : ℕ) (d : X) (n m given now : ℕ) → i < length xs → p (get_or xs i d) ≡ true →
    n ≤ m + length (filter p (take i xs)) → m + length (filter p xs) ≤ given → given ≤ now → n < now
filter-room p xs i d n m given now l e a b c = let h = filter-take p xs i d l e in omega arith
