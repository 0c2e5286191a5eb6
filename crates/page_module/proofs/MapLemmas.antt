-- Steps of a loop that maps a list in place.
use Rattle.std.proofs.Common.{◌≡◌, ℕ, ◌+◌, ◌<◌, List, ◌++◌, length, get_or, take, drop, map, arith}
use Rattle.std.proofs.Math.ListN.{set}
use Rattle.std.proofs.lemmas.List.{get_or_default}
use Rattle.std.proofs.lemmas.List.Edits.{map_over_more}
use Rattle.std.proofs.lemmas.Grind.{common_steps}

-- one more element of a list that is mapped in place
pub map_step : {X : Type 0} (f : X → X) (xs ys : List X) (i : ℕ) (d x : X) →
    i < length xs → length ys ≡ length xs → ys ≡ map f (take i xs) ++ drop i xs → x ≡ f (get_or ys i d) →
    set ys i x ≡ map f (take (i + 1) xs) ++ drop (i + 1) xs
map_step f xs ys i d x l n e h =
    rw h (map_over_more f xs ys i (get_or ys i d) l e (get_or_default ys i d (get_or ys i d) (omega arith)))

-- the elements that are not mapped yet are as before
pub map_rest : {X : Type 0} (f : X → X) (xs ys : List X) (i : ℕ) (d : X) →
    i < length xs → ys ≡ map f (take i xs) ++ drop i xs → get_or ys i d ≡ get_or xs i d
map_rest f xs ys i d l e = rw e (grind (arith, common_steps))
