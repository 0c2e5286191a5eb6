use Rattle.std.proofs.Common.{◌≡◌, ℕ, zero, suc, ◌<◌, true, false, List, [], ◌∷◌, ◌++◌, Option, None, Some, length, inl, inr, sym, ◌∙◌, ap, arith, length-set, take, drop, eq-eqb}
use Rattle.std.specs.Prelude.{◌==◌, if◌then◌else◌, slice_set}
use Rattle.std.specs.List.{refill}
use Rattle.std.proofs.Math.Seq.{take-length, drop-length}
use Rattle.std.proofs.lemmas.List.{append-nil}
use Rattle.std.proofs.lemmas.Bool.{cases_Bool, eqb-true}
use Rattle.std.proofs.lemmas.Grind.{common_steps}
use Rattle.guest_base.specs.declared.memory.Units.{Units}
use Rattle.accepting_ranges.specs.Claims.{kept_of, Meet, MeetsNone, AreApart}

-- as many elements replace all of a list
refill-whole : {T : Type 0} (xs ys : List T) → length ys ≡ length xs → refill (length xs) xs ys ≡ ys
refill-whole xs ys e =
    let none : drop (length ys) xs ≡ [] = ap (λ n. drop n xs) e ∙ drop-length xs in
    ap (λ rest. take (length xs) (ys ++ rest)) none ∙ ap (take (length xs)) (append-nil ys) ∙ ap (λ n. take n ys) (sym e) ∙ take-length ys

-- a processor that has a claim has a place
pub kept_of-inside : {T : Type 0} (xs : List (Option T)) (cpu : ℕ) (claim : T) → kept_of xs cpu ≡ Some claim → cpu < length xs
kept_of-inside [] zero claim e = let no : None ≡ Some claim = e in cc
kept_of-inside [] (suc cpu) claim e = let no : None ≡ Some claim = e in cc
kept_of-inside (x ∷ xs) zero claim e = omega arith
kept_of-inside (x ∷ xs) (suc cpu) claim e = omega (arith, kept_of-inside xs cpu claim e)

-- the claims after a processor's was replaced
kept_of-set : {T : Type 0} (xs : List (Option T)) (cpu other : ℕ) (claim : Option T) → cpu < length xs
    → kept_of (slice_set xs cpu claim) other ≡ (if other == cpu then claim else kept_of xs other)
kept_of-set xs cpu other claim below = grind (arith, common_steps)

-- no processor's claim is met below a number
pub record NoneBelow {T : Type 0} (units : T → Units) (claims : List (Option T)) (range : Units) (end : ℕ) : Type 0 where
  pub none : (cpu : ℕ) (claim : T) → cpu < end → kept_of claims cpu ≡ Some claim → ¬ Meet (units claim) range

-- at the processor that got it, and at another
at_same : {T : Type 0} (xs : List (Option T)) (cpu other : ℕ) (claim : Option T) (held : T) → cpu < length xs → (other == cpu) ≡ true
    → kept_of (slice_set xs cpu claim) other ≡ Some held → claim ≡ Some held
at_same xs cpu other claim held below t e = sym (kept_of-set xs cpu other claim below ∙ ap (λ b. if b then claim else kept_of xs other) t) ∙ e

at_other : {T : Type 0} (xs : List (Option T)) (cpu other : ℕ) (claim : Option T) (held : T) → cpu < length xs → (other == cpu) ≡ false
    → kept_of (slice_set xs cpu claim) other ≡ Some held → kept_of xs other ≡ Some held
at_other xs cpu other claim held below f e = sym (kept_of-set xs cpu other claim below ∙ ap (λ b. if b then claim else kept_of xs other) f) ∙ e

-- no two claims meet after a processor got a claim that met none, or lost its claim
pub AreApart-set : {T : Type 0} (units : T → Units) (xs : List (Option T)) (cpu : ℕ) (claim : Option T) → cpu < length xs → AreApart units xs
    → ((held : T) → claim ≡ Some held → MeetsNone units xs (units held))
    → AreApart units (slice_set xs cpu claim)
AreApart-set units xs cpu claim below h free = record {
  places = length-set xs cpu claim ∙ h.places;
  apart = λ c o a b ne at_c at_o (unit, in_a, in_b). elim (cases_Bool (c == cpu)) [
    | inl c_is ↦
        elim (cases_Bool (o == cpu)) [
          | inl o_is ↦ ne (eqb-true c cpu c_is ∙ sym (eqb-true o cpu o_is))
          | inr o_not ↦ free a (at_same xs cpu c claim a below c_is at_c) o b (at_other xs cpu o claim b below o_not at_o) (unit, in_b, in_a)
        ]
    | inr c_not ↦
        elim (cases_Bool (o == cpu)) [
          | inl o_is ↦ free b (at_same xs cpu o claim b below o_is at_o) c a (at_other xs cpu c claim a below c_not at_c) (unit, in_a, in_b)
          | inr o_not ↦ h.apart c o a b ne (at_other xs cpu c claim a below c_not at_c) (at_other xs cpu o claim b below o_not at_o) (unit, in_a, in_b)
        ]
  ];
}

-- none of the claims that stay meets one that was taken away
pub MeetsNone-taken : {T : Type 0} (units : T → Units) (xs : List (Option T)) (cpu : ℕ) (held : T) → AreApart units xs → kept_of xs cpu ≡ Some held
    → MeetsNone units (slice_set xs cpu None) (units held)
MeetsNone-taken units xs cpu held h is other claim at_other_is (unit, in_a, in_b) =
    let below = kept_of-inside xs cpu held is in
    elim (cases_Bool (other == cpu)) [
      | inl same ↦ (let no = at_same xs cpu other None claim below same at_other_is in cc)
      | inr not ↦ h.apart other cpu claim held (λ e. let t = eq-eqb other cpu e in let bad : true ≡ false = sym t ∙ not in cc) (at_other xs cpu other None claim below not at_other_is) is (unit, in_a, in_b)
    ]

-- a place of all claims was written
pub written-whole : {T : Type 0} (xs ys written : List (Option T)) (cpu : ℕ) (claim : Option T) → written ≡ slice_set ys cpu claim → ys ≡ xs
    → refill (length xs) xs written ≡ slice_set xs cpu claim
written-whole xs ys written cpu claim is same =
    ap (refill (length xs) xs) (is ∙ ap (λ zs. slice_set zs cpu claim) same) ∙ refill-whole xs (slice_set xs cpu claim) (length-set xs cpu claim)
