use Rattle.std.proofs.Common.{◌≡◌, ℕ, ◌+◌, ◌-◌, ◌≤◌, List, [], ◌∷◌, length, take, drop, None, Some, arith, refl, ap, sym, ◌∙◌, cond, length-drop}
use Rattle.std.specs.Prelude.{Bool, true, false, position, nat_lt}
use Rattle.std.specs.List.{slice_split, position_or_len}
use Rattle.std.proofs.lemmas.List.Splits.{slice_split_first, slice_split_none}
use Rattle.std.proofs.lemmas.List.Sums.{fails_before_first}
use Rattle.std.proofs.lemmas.List.{take_all}
use Rattle.std.proofs.lemmas.Option.{cond_some}
use Rattle.std.proofs.lemmas.Bool.{ltb-true, ltb-false}

-- the first part, and the parts of the rest
pub split_at_found : (p : ℕ → Bool) (xs : List ℕ) (k : ℕ) → position p xs ≡ Some k → slice_split p xs ≡ take k xs ∷ slice_split p (take (length xs - (k + 1)) (drop (k + 1) xs))
split_at_found p xs k h =
    let found = cond_some (nat_lt (position_or_len p xs) (length xs)) (position_or_len p xs) k h in
    slice_split_first p xs 0 (ltb-true _ _ found.0)
    ∙ ap (λ n. take n xs ∷ slice_split p (drop (n + 1) xs)) found.1
    ∙ ap (λ rest. take k xs ∷ slice_split p rest) (sym (take_all _ _ (omega (arith, length-drop (k + 1) xs))))

none_chosen : (b : Bool) (x : ℕ) → cond b (Some x) None ≡ None → b ≡ false
none_chosen true x h = cc
none_chosen false x h = refl

-- one part
pub split_not_found : (p : ℕ → Bool) (xs : List ℕ) → position p xs ≡ None → slice_split p xs ≡ xs ∷ []
split_not_found p xs h =
    let beyond : length xs ≤ position_or_len p xs = omega (arith, ltb-false _ _ (none_chosen _ _ h)) in
    slice_split_none p xs (λ k d within. fails_before_first p xs k d (omega arith))
