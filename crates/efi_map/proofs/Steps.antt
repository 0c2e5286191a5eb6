-- One step of reading behind another.
use Rattle.std.proofs.Common.{◌≡◌, ℕ, ◌+◌, ◌<◌, Bool, true, false, cond, List, [], ◌∷◌, length, get_or, drop, position, Option, Some, None, Result, Ok, Err, refl, arith, inl, inr, nat_lt}
use Rattle.std.proofs.lemmas.Bool.{cases_Bool}
use Rattle.std.proofs.lemmas.Bool.Decides.{nat_tests}
use Rattle.std.proofs.lemmas.List.{get_or-drop}
use Rattle.std.specs.List.{All, list_any, position_or_len}
use Rattle.std.proofs.lemmas.List.Sums.{fails_before_first, position_or_len_is}
use Rattle.std.proofs.lemmas.List.Folds.{list_any_at}
use Rattle.efi_map.specs.declared.fault.MapFault.{MapFault}
use Rattle.efi_map.specs.MapFile.{◌>>=◌}

abbrev pub IsBytes : List ℕ → Type 0
IsBytes bytes = (i : ℕ) → get_or bytes i 0 < 256

pub IsBytes-drop : (n : ℕ) (bytes : List ℕ) → IsBytes bytes → IsBytes (drop n bytes)
IsBytes-drop n bytes h i = rw get_or-drop (h (n + i))

-- the value of a step that did not fail
pub bind_ok : {A B : Type 0} (r : Result A MapFault) (f : A → Result B MapFault) (y : B) → (r >>= f) ≡ Ok y → (x : A) × (r ≡ Ok x) × (f x ≡ Ok y)
bind_ok (Ok x) f y e = (x, refl, e)
bind_ok (Err d) f y e = absurd cc

-- a test that did not fail
pub guard_ok : {A : Type 0} (b : Bool) (d : MapFault) (x y : A) → cond b (Err d) (Ok x) ≡ Ok y → (b ≡ false) × (x ≡ y)
guard_ok true d x y e = absurd cc
guard_ok false d x y e = (refl, cc)

pub guarded_ok : {A : Type 0} (b : Bool) (d : MapFault) (x y : A) → cond b (Ok x) (Err d) ≡ Ok y → (b ≡ true) × (x ≡ y)
guarded_ok true d x y e = (refl, cc)
guarded_ok false d x y e = absurd cc

pub cond_err_ok : {A : Type 0} (b : Bool) (d : MapFault) (r : Result A MapFault) (y : A) → cond b (Err d) r ≡ Ok y → (b ≡ false) × (r ≡ Ok y)
cond_err_ok true d r y e = absurd cc
cond_err_ok false d r y e = (refl, e)

pub cond_then_some : {A : Type 0} (b : Bool) (o : Option A) (y : A) → cond b o None ≡ Some y → (b ≡ true) × (o ≡ Some y)
cond_then_some true o y e = (refl, e)
cond_then_some false o y e = absurd cc

-- a choice between nothing and more
pub cond_none : {A : Type 0} (b : Bool) (x : A) (more : Option A) → cond b (Some x) more ≡ None → (b ≡ false) × (more ≡ None)
cond_none true x more e = absurd cc
cond_none false x more e = (refl, e)

abbrev done : {A : Type 0} → A → Result A MapFault
done x = Ok x

pub ok_is : {A : Type 0} (x y : A) → done x ≡ done y → x ≡ y
ok_is x y e = cc

pub position_none : {X : Type 0} (p : X → Bool) (xs : List X) → position p xs ≡ None → All (λ x. p x ≡ false) xs
position_none p xs none k d lt = fails_before_first p xs k d (grind (arith, none, lt))

pub list_any_false : {X : Type 0} (p : X → Bool) (xs : List X) → list_any p xs ≡ false → All (λ x. p x ≡ false) xs
list_any_false p xs none k d lt =
    elim (cases_Bool (p (get_or xs k d))) [
      | inl met ↦ absurd (let one = list_any_at p xs k d lt met in cc)
      | inr apart ↦ apart
    ]

pub position_of_none : {X : Type 0} (p : X → Bool) (xs : List X) → All (λ x. p x ≡ false) xs → position p xs ≡ None
position_of_none p [] none = refl
position_of_none p (x ∷ xs) none =
    let whole : position_or_len p (x ∷ xs) ≡ length (x ∷ xs) = position_or_len_is p (x ∷ xs) (length (x ∷ xs)) x (omega arith) (λ k lt. none k x lt) (λ lt. absurd (omega (arith, lt))) in
    let past : nat_lt (position_or_len p (x ∷ xs)) (length (x ∷ xs)) ≡ false = grind (arith, nat_tests, whole) in
    rw past refl
