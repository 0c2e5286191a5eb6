-- What holds of each item of a list.
use Rattle.std.proofs.Common.{◌≡◌, Bool, true, Some, List, [], ◌∷◌, ◌++◌, filter, refl, sym, ◌∙◌, ap, subst, inl, inr, cond, append_assoc}
use Rattle.std.specs.Prelude.{find}
use Rattle.std.specs.List.{AllByRecursion, flat_map}
use Rattle.std.proofs.lemmas.Bool.{cases_Bool}
use Rattle.event_core.proofs.BootFacts.{all-append}

pub all-front : {A : Type 0} (P : A → Type 0) (before later : List A) → AllByRecursion P (before ++ later) → AllByRecursion P before
all-front P [] later all = tt
all-front P (x ∷ before) later all = (all.0, all-front P before later all.1)

pub all-at : {A : Type 0} (P : A → Type 0) (before later : List A) (x : A) → AllByRecursion P (before ++ x ∷ later) → P x
all-at P [] later x all = all.0
all-at P (y ∷ before) later x all = all-at P before later x all.1

pub all-back : {A : Type 0} (P : A → Type 0) (before later : List A) → AllByRecursion P (before ++ later) → AllByRecursion P later
all-back P [] later all = all
all-back P (x ∷ before) later all = all-back P before later all.1

pub all-push : {A : Type 0} (P : A → Type 0) (xs : List A) (x : A) → AllByRecursion P xs → P x → AllByRecursion P (xs ++ x ∷ [])
all-push P [] x all here = (here, tt)
all-push P (y ∷ xs) x all here = (all.0, all-push P xs x all.1 here)

pub all-filter : {A : Type 0} (P : A → Type 0) (test : A → Bool) (xs : List A) → AllByRecursion P xs → AllByRecursion P (filter test xs)
all-filter P test [] all = tt
all-filter P test (x ∷ xs) all =
    elim (cases_Bool (test x)) [
      | inl t ↦ rw t (all.0, all-filter P test xs all.1)
      | inr f ↦ rw f (all-filter P test xs all.1)
    ]

pub all-flat : {A B : Type 0} (P : B → Type 0) (f : A → List B) (xs : List A) → AllByRecursion (λ x. AllByRecursion P (f x)) xs → AllByRecursion P (flat_map f xs)
all-flat P f [] all = tt
all-flat P f (x ∷ xs) all = all-append P (f x) (flat_map f xs) all.0 (all-flat P f xs all.1)

pub all-with : {A : Type 0} (P Q R : A → Type 0) → ((x : A) → P x → Q x → R x) → (xs : List A) → AllByRecursion P xs → AllByRecursion Q xs → AllByRecursion R xs
all-with P Q R each [] ps qs = tt
all-with P Q R each (x ∷ xs) ps qs = (each x ps.0 qs.0, all-with P Q R each xs ps.1 qs.1)

-- what holds of each item of a list, by the items before and behind it, holds of all
pub each-split : {A : Type 0} (P : A → Type 0) (front xs : List A) → ((lower higher : List A) (x : A) → front ++ xs ≡ lower ++ x ∷ higher → P x) → AllByRecursion P xs
each-split P front [] each = tt
each-split P front (x ∷ xs) each =
    (each front xs x refl, each-split P (front ++ x ∷ []) xs (λ lower higher y is. each lower higher y (sym (append_assoc front (x ∷ []) xs) ∙ is)))

-- what holds of all holds of the one that is found
pub found-one : {A : Type 0} (P : A → Type 0) (test : A → Bool) (xs : List A) (x : A) → AllByRecursion P xs → find test xs ≡ Some x → P x × (test x ≡ true)
found-one P test [] x all is = cc
found-one P test (y ∷ ys) x all is =
    elim (cases_Bool (test y)) [
      | inl t ↦
          (let here : Some y ≡ Some x = sym (ap (λ (b : Bool). cond b (Some y) (find test ys)) t) ∙ is in
          let same : y ≡ x = cc in
          (subst P same all.0, ap test (sym same) ∙ t))
      | inr f ↦ found-one P test ys x all.1 (sym (ap (λ (b : Bool). cond b (Some y) (find test ys)) f) ∙ is)
    ]
