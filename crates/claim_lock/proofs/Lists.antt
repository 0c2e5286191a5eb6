-- Lists of entries and of seats.
use Rattle.std.proofs.Common.{◌≡◌, ℕ, zero, suc, ◌+◌, ◌<◌, ◌⊎◌, Bool, true, false, List, [], ◌∷◌, ◌++◌, length, get_or, filter, map, All, Any, refl, subst, sym, ap, ◌∙◌, inl, inr, ⊎_elim, arith}
use mathlib.Core.Option.{some, some-injective, some-ne-none}
use lib.ListN.{get_elem?}
use Rattle.std.proofs.Math.ListN.{get_or-map, get_or-append}
use Rattle.std.proofs.Math.Seq.{get_or-append_seam}
use Rattle.std.proofs.lemmas.Bool.{cases_lt}
use Rattle.std.proofs.lemmas.List.{length-map}
use Rattle.std.proofs.lemmas.List.Elements.{All-head, All-tail}

-- an element of a list with one more is one of the list, or the last
pub at_end : {A : Type 0} (l : List A) (a b : A) (j : ℕ) → get_elem? (l ++ a ∷ []) j ≡ some b → (get_elem? l j ≡ some b) ⊎ ((j ≡ length l) × (a ≡ b))
at_end [] a b zero e = inr (refl, some-injective a b e)
at_end [] a b (suc j) e = absurd (some-ne-none b (sym e))
at_end (x ∷ xs) a b zero e = inl e
at_end (x ∷ xs) a b (suc j) e = ⊎_elim (λ t. inl t) (λ t. inr (ap suc t.0, t.1)) (at_end xs a b j e)

-- the one element of a list of one
pub at_only : {A : Type 0} (a b : A) (j : ℕ) → get_elem? (a ∷ []) j ≡ some b → (j ≡ 0) × (a ≡ b)
at_only a b zero e = (refl, some-injective a b e)
at_only a b (suc j) e = absurd (some-ne-none b (sym e))

-- a filter keeps a list of which each element passes
pub filter_all : {A : Type 0} (p : A → Bool) (xs : List A) → All (λ x. p x ≡ true) xs → filter p xs ≡ xs
filter_all p [] h = refl
filter_all p (x ∷ xs) h =
    let here : p x ≡ true = All-head (λ y. p y ≡ true) x xs h in
    let rest : filter p xs ≡ xs = filter_all p xs (All-tail (λ y. p y ≡ true) x xs h) in
    rw (here, rest) refl

-- a filter keeps nothing of a list of which no element passes
pub filter_none : {A : Type 0} (p : A → Bool) (xs : List A) → All (λ x. p x ≡ false) xs → filter p xs ≡ []
filter_none p [] h = refl
filter_none p (x ∷ xs) h =
    let here : p x ≡ false = All-head (λ y. p y ≡ false) x xs h in
    rw here (filter_none p xs (All-tail (λ y. p y ≡ false) x xs h))

-- what holds of each element holds of one in the middle
pub all_middle : {A : Type 0} (P : A → Type 0) (ys : List A) (x : A) (zs : List A) → All P (ys ++ x ∷ zs) → P x
all_middle P [] x zs h = All-head P x zs h
all_middle P (y ∷ ys) x zs h = all_middle P ys x zs (All-tail P y (ys ++ x ∷ zs) h)

-- a fact about an item of a list is one about an item of the mapped list, and back
pub any_map : {A B : Type 0} (f : A → B) (P : B → Type 0) (xs : List A) → Any (λ x. P (f x)) xs → Any P (map f xs)
any_map f P xs h = (h.0, f h.1, (let l = length-map xs f in let below : h.0 < length xs = h.2 in omega arith), get_or-map f xs h.0 h.1 ∙ ap f h.3, h.4)

pub all_unmap : {A B : Type 0} (f : A → B) (P : B → Type 0) (xs : List A) → All P (map f xs) → All (λ x. P (f x)) xs
all_unmap f P xs h k d below = subst P (get_or-map f xs k d) (h k (f d) (let l = length-map xs f in omega arith))

-- what holds of each item at its place holds still where one more is put at the end
pub each_push : {A : Type 0} (P : ℕ → A → Type 0) (xs : List A) (x : A) → ((k : ℕ) (d : A) → k < length xs → P k (get_or xs k d)) → P (length xs) x → (k : ℕ) (d : A) → k < length (xs ++ x ∷ []) → P k (get_or (xs ++ x ∷ []) k d)
each_push P [] x h p zero d l = p
each_push P [] x h p (suc k) d l = absurd (omega arith)
each_push P (y ∷ ys) x h p zero d l = h zero d (omega arith)
each_push P (y ∷ ys) x h p (suc k) d l = each_push (λ j a. P (suc j) a) ys x (λ j e m. h (suc j) e (omega arith)) p k d (omega arith)

-- the same of two lists side by side
pub each_push_both : {A B : Type 0} (P : ℕ → A → B → Type 0) (xs : List A) (ys : List B) (n : ℕ) (x : A) (y : B) → length xs ≡ n → length ys ≡ n → ((k : ℕ) (d : A) (e : B) → k < n → P k (get_or xs k d) (get_or ys k e)) → P n x y
    → (k : ℕ) (d : A) (e : B) → k < n + 1 → P k (get_or (xs ++ x ∷ []) k d) (get_or (ys ++ y ∷ []) k e)
each_push_both {A} {B} P xs ys n x y lx ly h p k d e below =
    ⊎_elim
    (λ less.
    let lessx : k < length xs = omega arith in
    let lessy : k < length ys = omega arith in
    subst (λ (a : A). P k a (get_or (ys ++ y ∷ []) k e)) (sym (get_or-append xs (x ∷ []) d k lessx)) (subst (λ (b : B). P k (get_or xs k d) b) (sym (get_or-append ys (y ∷ []) e k lessy)) (h k d e less)))
    (λ more.
    let same : n ≡ k = omega arith in
    let Q : ℕ → ℕ → ℕ → Type 0 = λ i j l. P i (get_or (xs ++ x ∷ []) j d) (get_or (ys ++ y ∷ []) l e) in
    let here : Q n (length xs) (length ys) = subst (λ (a : A). P n a (get_or (ys ++ y ∷ []) (length ys) e)) (sym (get_or-append_seam xs x [] d)) (subst (λ (b : B). P n x b) (sym (get_or-append_seam ys y [] e)) p) in
    subst (λ (i : ℕ). Q i i i) same (subst (λ (l : ℕ). Q n n l) ly (subst (λ (j : ℕ). Q n j (length ys)) lx here)))
    (cases_lt k n)
