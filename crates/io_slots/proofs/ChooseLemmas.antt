-- Lemmas on the slot search and on what fits.
use Rattle.std.proofs.Common.{ℕ, ◌≡◌, ◌+◌, ◌-◌, ◌%◌, ◌≤◌, Bool, true, false, not, Option, Some, None, leb, refl, sym, ◌∙◌, arith}
use Rattle.std.proofs.lemmas.Bool.{and_parts, leb-true, not-true}
use Rattle.guest_base.specs.declared.transfer.Align.{Align}
use Rattle.guest_base.specs.Search.{first_such}
use Rattle.guest_base.specs.Ranges.{InRange}
use Rattle.std.specs.Option.{option_or}
use Rattle.guest_base.specs.Slots.{InOneSegment, fits_at, meets_align, choose}
use Rattle.guest_base.proofs.SearchLemmas.{first_such-Some, each_such-true}

-- the search goes from the hint to the end, and then from the start to the hint
pub choose_by_parts : (used test : ℕ → Bool) (slots count hint at need : ℕ) (align : Align) (first second : Option ℕ)
    → used ≡ test → slots ≡ count → hint ≡ at
    → first ≡ first_such (fits_at test count need align) at (count - at)
    → second ≡ first_such (fits_at test count need align) 0 (at - 0)
    → option_or first second ≡ choose used slots hint need align
choose_by_parts used test slots count hint at need align first second e f g h k =
    let all : at - 0 ≡ at = omega arith in
    rw (e, f, g, h, k, all) refl

first_fits : (test : ℕ → Bool) (from count at : ℕ) → first_such test from count ≡ Some at → test at ≡ true
first_fits test from count at e = (first_such-Some test from count at e).passes

either_fits : (test : ℕ → Bool) (from count more at : ℕ) (first second : Option ℕ)
    → first ≡ first_such test from count → second ≡ first_such test 0 more → option_or first second ≡ Some at → test at ≡ true
either_fits test from count more at (Some place) second e f h = first_fits test from count at (sym e ∙ h)
either_fits test from count more at None second e f h = first_fits test 0 more at (sym f ∙ h)

-- what is chosen fits
pub choose-fits : (used : ℕ → Bool) (slots hint need : ℕ) (align : Align) (at : ℕ)
    → choose used slots hint need align ≡ Some at → fits_at used slots need align at ≡ true
choose-fits used slots hint need align at h =
    either_fits (fits_at used slots need align) hint (slots - hint) hint at _ _ refl refl h

-- a run that fits lies in the area and in one segment, meets the align, and its slots are unused
pub record Fits (used : ℕ → Bool) (slots need : ℕ) (align : Align) (at : ℕ) : Type 0 where
  pub inside : at + need ≤ slots
  pub segment : InOneSegment at need
  pub meets : meets_align align at ≡ true
  pub free : (k : ℕ) → InRange at need k → used k ≡ false

pub Fits_from : (used : ℕ → Bool) (slots need : ℕ) (align : Align) (at : ℕ) → fits_at used slots need align at ≡ true → Fits used slots need align at
Fits_from used slots need align at h =
    let a = and_parts (leb (at + need) slots) _ h in
    let b = and_parts (leb (at % 128 + need) 128) _ a.1 in
    let c = and_parts (meets_align align at) _ b.1 in
    record {
      inside = leb-true _ _ a.0;
      segment = leb-true _ _ b.0;
      meets = c.0;
      free = λ k within. not-true _ ((each_such-true (λ n. not (used n)) at need c.1).passes k within.0 within.1);
    }
