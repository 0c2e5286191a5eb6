-- How counts go over several steps.
use Rattle.std.proofs.Common.{◌≡◌, ℕ, ◌≤◌, inl, inr, sym, ◌∙◌, arith}
use Rattle.std.proofs.Math.Nat.{eq-or-lt_of_le}
use Rattle.guest_base.specs.Counts.{Rose}

-- a count that rose and then didn't fall rose over both steps
pub Rose-then : (old middle new : ℕ) → old ≤ middle → Rose old middle → middle ≤ new → Rose old new
Rose-then old middle new kept (inl rose) further = inl (omega arith)
Rose-then old middle new kept (inr last) further =
    elim (eq-or-lt_of_le further) [ inl same ↦ inr (sym same ∙ last) | inr more ↦ inl (omega arith) ]

-- a count that didn't fall and then rose rose over both steps
pub Rose-after : (old middle new : ℕ) → old ≤ middle → Rose middle new → Rose old new
Rose-after old middle new kept (inl rose) = inl (omega arith)
Rose-after old middle new kept (inr last) = inr last

-- a count that is 0 didn't rise
pub Rose-zero : (old new : ℕ) → new ≡ 0 → Rose old new → ⊥
Rose-zero old new zero (inl rose) = omega arith
Rose-zero old new zero (inr last) = omega arith
