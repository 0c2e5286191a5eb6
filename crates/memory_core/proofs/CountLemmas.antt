use Rattle.std.proofs.Common.{◌≡◌, ℕ, ◌+◌, ◌-◌, ◌≤◌, Bool, true, false, Option, None, Some, refl, sym, ◌∙◌, ap, arith, cond}
use Rattle.std.specs.Prelude.{is_some, not}
use Rattle.guest_base.specs.Search.{first_such, count_such}
use Rattle.guest_base.proofs.SearchLemmas.{first_such_at, first_such_past, first_such_end, count_such-zero}
use Rattle.event_core.specs.Units.{first_run, run_at}
use Rattle.memory_core.proofs.ClearLemmas.{count-more}

-- this many of the units before one are set
pub record Counted (test : ℕ → Bool) (first next count : ℕ) : Type 0 where
  pub is : count ≡ count_such test first (next - first)
  pub few : count ≤ next - first

pub counted-start : (test : ℕ → Bool) (first : ℕ) → Counted test first first 0
counted-start test first =
    let none : first - first ≡ 0 = omega arith in
    record { is = sym (ap (count_such test first) none ∙ count_such-zero test first); few = omega arith }

some-run : (test : ℕ → Bool) (end : ℕ) (found : Option ℕ) → is_some (run_at test end found) ≡ is_some found
some-run test end None = refl
some-run test end (Some first) = refl

one-found : (test : ℕ → Bool) (at : ℕ) (b : Bool) → test at ≡ b → is_some (first_such test at (at + 1 - at)) ≡ b
one-found test at true h = ap is_some (first_such_at test at (at + 1) (omega arith) h)
one-found test at false h = ap is_some (first_such_past test at (at + 1) (omega arith) h ∙ first_such_end test (at + 1) (at + 1) (omega arith))

-- a unit is set where a run of one unit is found there
pub one-run-is : (test : ℕ → Bool) (at : ℕ) → is_some (first_run test at (at + 1)) ≡ test at
unfolding first_run
one-run-is test at = some-run test (at + 1) (first_such test at (at + 1 - at)) ∙ one-found test at (test at) refl

not-not : (b : Bool) → b ≡ not (cond b false true)
not-not true = refl
not-not false = refl

more-if : (b : Bool) → ◌≡◌ {A = ℕ} (cond (cond b false true) 0 1) (cond b 1 0)
more-if true = refl
more-if false = refl

counted_by : (test : ℕ → Bool) (first at count now : ℕ) (b : Bool) → Counted test first at count → first ≤ at → b ≡ test at → now ≡ count + cond b 1 0 → now ≤ count + 1 → Counted test first (at + 1) now
counted_by test first at count now b counted low is more one =
    let few = counted.few in
    record {
      is = more ∙ ap (λ n. count + n) (sym (more-if b)) ∙ count-more test first at count (cond b false true) low counted.is (sym is ∙ not-not b);
      few = omega arith;
    }

pub counted-set : (test : ℕ → Bool) (first at count now : ℕ) → Counted test first at count → first ≤ at → test at ≡ true → now ≡ count + 1 → Counted test first (at + 1) now
counted-set test first at count now counted low is more = counted_by test first at count now true counted low (sym is) more (omega (arith, more))

pub counted-clear : (test : ℕ → Bool) (first at count now : ℕ) → Counted test first at count → first ≤ at → test at ≡ false → now ≡ count → Counted test first (at + 1) now
counted-clear test first at count now counted low is same = let plus : count ≡ count + 0 = omega arith in counted_by test first at count now false counted low (sym is) (same ∙ plus) (omega (arith, same))
