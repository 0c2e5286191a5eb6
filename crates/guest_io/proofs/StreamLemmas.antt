-- What streams give and take, over several steps.
use Rattle.std.proofs.Common.{◌≡◌, ℕ, ◌+◌, ◌-◌, ◌≤◌, List, [], ◌++◌, length, length-append, take, drop, take-append-drop, Option, ap, sym, ◌∙◌, arith}
use Rattle.std.proofs.lemmas.Grind.{common_steps}
use Rattle.std.proofs.lemmas.List.{take_rest, drop-take}
use Rattle.std.specs.Io.KnownBytes.{Keeps}
use Rattle.std.proofs.KnownBytes.{Consumes-nil, Consumes-trans, Consumes-kept}
use Rattle.guest_base.specs.Counts.{last_count}
use Rattle.guest_io.specs.Reading.{Gives}

-- nothing is given at first
pub Gives-nil : (a : Option (List ℕ)) (n : ℕ) → n ≤ last_count → Gives a a [] n n
Gives-nil a n small = record { bytes = Consumes-nil a; counted = omega arith }

-- what was given, and then more
pub Gives-then : (a b c : Option (List ℕ)) (xs ys : List ℕ) (k m n : ℕ) → Gives a b xs k m → Gives b c ys m n → Gives a c (xs ++ ys) k n
Gives-then a b c xs ys k m n one two = record {
  bytes = Consumes-trans a b c xs ys one.bytes two.bytes;
  counted = omega (arith, one.counted, two.counted, length-append xs ys);
}

-- and then nothing
pub Gives-kept : (a b c : Option (List ℕ)) (xs : List ℕ) (k m : ℕ) → Gives a b xs k m → Keeps b c → Gives a c xs k m
Gives-kept a b c xs k m one same = record { bytes = Consumes-kept a b c xs one.bytes same; counted = one.counted }

-- after n more bytes of those that are left: the rest as a slice has it, and all that was taken
pub moves_on : (all left : List ℕ) (sent n : ℕ) → left ≡ drop sent all → (take (length left - n) (drop n left) ≡ drop (sent + n) all) × (take (sent + n) all ≡ take sent all ++ take n left)
moves_on all left sent n split = (rest, taken)
  where
    rest : take (length left - n) (drop n left) ≡ drop (sent + n) all
    rest = take_rest left n ∙ ap (drop n) split ∙ grind (arith, common_steps)

    front : take sent (take (sent + n) all) ≡ take sent all
    front = grind (arith, common_steps)

    taken : take (sent + n) all ≡ take sent all ++ take n left
    taken =
        sym (take-append-drop sent (take (sent + n) all))
        ∙ ap (λ l. l ++ drop sent (take (sent + n) all)) front
        ∙ ap (λ l. take sent all ++ l) (drop-take sent n all ∙ ap (take n) (sym split))
