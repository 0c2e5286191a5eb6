use Rattle.std.proofs.Common.{◌≡◌, ℕ, ◌+◌, ◌<◌, ◌≤◌, All, List, [], ◌∷◌, ◌++◌, refl, sym, ◌∙◌, ap, subst, get_or, length, set, arith, inl, inr}
use Rattle.std.proofs.lemmas.Bool.{cases_lt}
use Rattle.std.proofs.lemmas.List.{get_or-set_other, get_or-set_same, get_or_append_left, get_or_default, get_or_push}
use Rattle.std.proofs.lemmas.List.Elements.{All-head, All-tail}
use Rattle.std.proofs.Math.Seq.{get_or-append_seam}

-- A loop that changes each element of a list once, from the first on, by one of another list.

-- the element of the other list whose turn it is
pub at-turn : {Y : Type 0} (all before after : List Y) (y e : Y) → all ≡ before ++ y ∷ after → get_or all (length before) e ≡ y
at-turn all before after y e is = ap (λ l. get_or l (length before) e) is ∙ get_or-append_seam before y after e

module _ {X Y : Type 0} (R : X → X → Y → Type 0) (old now : List X) (ys : List Y) (n : ℕ) (w x : X) (below : n < length now) where
  -- those before it are done
  pub turn-done : get_or now n x ≡ x → ((e : Y) → R x w (get_or ys n e)) → ((k : ℕ) (d : X) → n ≤ k → get_or now k d ≡ get_or old k d) → ((k : ℕ) (d : X) (e : Y) → k < n → R (get_or old k d) (get_or now k d) (get_or ys k e))
      → (k : ℕ) (d : X) (e : Y) → k < n + 1 → R (get_or old k d) (get_or (set now n w) k d) (get_or ys k e)
  turn-done is here later done k d e low = elim (cases_lt k n) [
    | inl before ↦ subst (λ z. R (get_or old k d) z (get_or ys k e)) (sym (get_or-set_other now n k w d (λ same. omega (arith, same, before)))) (done k d e before)
    | inr past ↦
        (let same : n ≡ k = omega (arith, past, low) in
        subst (λ m. R (get_or old m d) (get_or (set now n w) m d) (get_or ys m e)) same
        (subst (λ z. R (get_or old n d) z (get_or ys n e)) (sym (get_or-set_same now n w d below))
        (subst (λ z. R z w (get_or ys n e)) (sym is ∙ get_or_default now n x d below ∙ later n d (omega arith)) (here e))))
  ]

  -- and those behind it are as they were
  pub turn-later : ((k : ℕ) (d : X) → n ≤ k → get_or now k d ≡ get_or old k d) → (k : ℕ) (d : X) → n + 1 ≤ k → get_or (set now n w) k d ≡ get_or old k d
  turn-later later k d past = get_or-set_other now n k w d (λ same. omega (arith, same, past)) ∙ later k d (omega (arith, past))

-- what holds of all holds of one in the middle
pub all-middle : {X : Type 0} (P : X → Type 0) (before after : List X) (x : X) → All P (before ++ x ∷ after) → P x
all-middle P [] after x all = All-head P x after all
all-middle P (y ∷ before) after x all = all-middle P before after x (All-tail P y (before ++ x ∷ after) all)

-- a list grows by one that goes with the next of another
module _ {X Y : Type 0} (R : X → Y → Type 0) (xs : List X) (ys : List Y) (y : Y) where
  pub pushed : ((k : ℕ) (d : X) (e : Y) → k < length ys → R (get_or xs k d) (get_or ys k e)) → ((d : X) → R (get_or xs (length ys) d) y) → (k : ℕ) (d : X) (e : Y) → k < length ys + 1 → R (get_or xs k d) (get_or (ys ++ y ∷ []) k e)
  pushed each here k d e low = elim (cases_lt k (length ys)) [
    | inl before ↦ subst (λ z. R (get_or xs k d) z) (sym (get_or_append_left ys (y ∷ []) e k before)) (each k d e before)
    | inr past ↦
        (let same : length ys ≡ k = omega (arith, past, low) in
        subst (λ m. R (get_or xs m d) (get_or (ys ++ y ∷ []) m e)) same (subst (R (get_or xs (length ys) d)) (sym (get_or_push ys y e (length ys) refl)) (here d)))
  ]
