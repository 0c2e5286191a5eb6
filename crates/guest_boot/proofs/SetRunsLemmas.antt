use Rattle.std.proofs.Common.{◌≡◌, ℕ, zero, suc, ◌+◌, ◌-◌, ◌*◌, ◌^◌, ◌<◌, ◌≤◌, Bool, true, false, ◌&&◌, Option, None, Some, List, [], ◌∷◌, refl, sym, ◌∙◌, ap, subst, arith, eq-eqb}
use Rattle.std.specs.Option.{option_map_or}
use mathlib.Core.Path.{fun_ext}
use Rattle.guest_base.specs.Ranges.{in_range}
use Rattle.guest_base.specs.Search.{any_such}
use Rattle.guest_base.specs.declared.limits.TheConstants.{PAGE_BYTES}
use Rattle.guest_base.specs.declared.memory.Block.{Block}
use Rattle.guest_base.proofs.SearchLemmas.{first_such_end}
use Rattle.guest_base.proofs.RangeLemmas.{in_range-elim, in_range-past}
use Rattle.guest_base.specs.declared.memory.Units.{Units}
use Rattle.event_core.specs.declared.boot.Boot.{Boot}
use Rattle.event_core.specs.declared.module_call.ModuleCall.{ModuleCall}
use Rattle.event_core.specs.Boot.{runs_from, set_runs}
use Rattle.event_core.specs.Units.{bit_after, first_run, run_at, units_end, guarded_units}
use Rattle.event_core.specs.Blocks.{block_units}
use Rattle.event_laws.specs.Coming.{waits_after}
use Rattle.memory_core.specs.Bitmaps.{bits_in, guarded_by, any_in, BitsAfter}
use Rattle.memory_core.proofs.BitsLemmas.{guarded-same}
use Rattle.memory_core.proofs.UnitsLemmas.{IsRunIn, first_run-facts}
use Rattle.event_core.specs.Table.{Bits}
use Rattle.guest_boot.specs.Booting.{runs_in}
use Rattle.guest_boot.specs.Putting.{waits_then}

-- The runs of set bits among units.

-- runs that rise from a unit on, whose units all pass a test
abbrev pub SetRuns : (ℕ → Bool) → ℕ → List Units → Type 0
SetRuns test from [] = Unit {0}
SetRuns test from (run ∷ runs) = (from ≤ run.first) × (0 < run.count) × ((unit : ℕ) → in_range run.first run.count unit ≡ true → test unit ≡ true) × SetRuns test (run.first + run.count) runs

-- what is found at a unit
abbrev runs_or : (ℕ → Bool) → ℕ → ℕ → Option Units → List Units
runs_or test most end None = []
runs_or test most end (Some run) = run ∷ runs_from test most (units_end run) end

runs-step : (test : ℕ → Bool) (most from end : ℕ) → runs_from test (suc most) from end ≡ runs_or test most end (first_run test from end)
runs-step test most from end = by_found (first_run test from end) where
  by_found : (found : Option Units) → elim found as (λ _. List Units) [ None ↦ [] | Some run ↦ run ∷ runs_from test most (units_end run) end ] ≡ runs_or test most end found
  by_found None = refl
  by_found (Some run) = refl

no-run : (test : ℕ → Bool) (from end : ℕ) → end ≤ from → first_run test from end ≡ None
unfolding first_run
no-run test from end past = ap (run_at test end) (first_such_end test from end past)

-- nothing is found behind the end
runs-past : (test : ℕ → Bool) (most from end : ℕ) → end ≤ from → runs_from test most from end ≡ []
runs-past test zero from end past = refl
runs-past test (suc most) from end past = runs-step test most from end ∙ ap (runs_or test most end) (no-run test from end past)

same-behind : (test : ℕ → Bool) (most more end : ℕ) (found : Option Units) → ((run : Units) → found ≡ Some run → runs_from test most (units_end run) end ≡ runs_from test more (units_end run) end) → runs_or test most end found ≡ runs_or test more end found
same-behind test most more end None same = refl
same-behind test most more end (Some run) same = ap (λ runs. run ∷ runs) (same run refl)

-- as many runs as there are units are enough
pub runs-enough : (test : ℕ → Bool) (most more from end : ℕ) → end - from ≤ most → end - from ≤ more → runs_from test most from end ≡ runs_from test more from end
runs-enough test zero more from end few many = sym (runs-past test more from end (omega arith))
runs-enough test (suc most) zero from end few many = runs-past test (suc most) from end (omega arith)
runs-enough test (suc most) (suc more) from end few many =
    runs-step test most from end
    ∙ same-behind test most more end (first_run test from end)
    (λ run is.
    let facts = first_run-facts test from end run is in
    let low = facts.low in
    let some = facts.some in
    runs-enough test most more (run.first + run.count) end (omega arith) (omega arith))
    ∙ sym (runs-step test more from end)

-- the runs from a unit on, where the first is this
pub runs-next : (test : ℕ → Bool) (from end : ℕ) (run : Units) → from ≤ end → first_run test from end ≡ Some run → runs_from test (end - from) from end ≡ run ∷ runs_from test (end - (run.first + run.count)) (run.first + run.count) end
runs-next test from end run high is =
    let facts = first_run-facts test from end run is in
    let low = facts.low in
    let some = facts.some in
    let last = facts.high in
    let one : end - from ≡ suc (end - from - 1) = omega arith in
    ap (λ n. runs_from test n from end) one ∙ runs-step test (end - from - 1) from end ∙ ap (runs_or test (end - from - 1) end) is
    ∙ ap (λ runs. run ∷ runs) (runs-enough test (end - from - 1) (end - (run.first + run.count)) (run.first + run.count) end (omega arith) (omega arith))

pub runs-none : (test : ℕ → Bool) (most from end : ℕ) → first_run test from end ≡ None → runs_from test most from end ≡ []
runs-none test zero from end none = refl
runs-none test (suc most) from end none = runs-step test most from end ∙ ap (runs_or test most end) none

-- ---- the runs are of set bits

set-behind-first : (test : ℕ → Bool) (most from end : ℕ) (found : Option Units) → ((run : Units) → found ≡ Some run → IsRunIn test from end run) → ((next : ℕ) → SetRuns test next (runs_from test most next end)) → SetRuns test from (runs_or test most end found)
set-behind-first test most from end None facts later = tt
set-behind-first test most from end (Some run) facts later = let f = facts run refl in (f.low, f.some, f.set, later (units_end run))

runs-set : (test : ℕ → Bool) (most from end : ℕ) → SetRuns test from (runs_from test most from end)
runs-set test zero from end = tt
runs-set test (suc most) from end =
    subst (SetRuns test from) (sym (runs-step test most from end))
    (set-behind-first test most from end (first_run test from end) (λ run is. first_run-facts test from end run is) (λ next. runs-set test most next end))

set-from : (test : ℕ → Bool) (from lower : ℕ) (runs : List Units) → lower ≤ from → SetRuns test from runs → SetRuns test lower runs
set-from test from lower [] less set = tt
set-from test from lower (run ∷ runs) less set = (let low = set.0 in (omega arith, set.1, set.2, set.3))

pub runs-in-set : (test : ℕ → Bool) (units : Option Units) → SetRuns test 0 (runs_in test units)
runs-in-set test None = tt
runs-in-set test (Some units) = set-from test units.first 0 (runs_from test units.count units.first (units_end units)) (omega arith) (runs-set test units.count units.first (units_end units))

-- they stay set where only lower bits change
set-kept : (test next : ℕ → Bool) (from : ℕ) (runs : List Units) → ((unit : ℕ) → from ≤ unit → next unit ≡ test unit) → SetRuns test from runs → SetRuns next from runs
set-kept test next from [] same set = tt
set-kept test next from (run ∷ runs) same set =
    let low = set.0 in
    let some = set.1 in (
      low,
      some,
      (λ unit inside. let at = in_range-elim run.first run.count unit inside in same unit (omega (arith, at.0)) ∙ set.2 unit inside),
      set-kept test next (run.first + run.count) runs (λ unit above. same unit (omega arith)) set.3,
    )

-- the later runs stay set when the bits of one run alone change
pub set-behind : (test next : ℕ → Bool) (run : Units) (runs : List Units) → ((unit : ℕ) → in_range run.first run.count unit ≡ false → next unit ≡ test unit) → SetRuns test 0 (run ∷ runs) → SetRuns next 0 runs
set-behind test next run runs same set =
    set-from next (run.first + run.count) 0 runs (omega arith)
    (set-kept test next (run.first + run.count) runs (λ unit above. same unit (in_range-past run.first run.count unit above)) set.3)

-- ---- the definition's runs

pub runs-are : (boot : Boot) (done : List ModuleCall) (bits : Option Bits) (start len : ℕ) → BitsAfter boot done bits → runs_in (bits_in bits) (guarded_by bits start len) ≡ set_runs boot done (guarded_units boot start len)
runs-are boot done bits start len after =
    ap (runs_in (bits_in bits)) (guarded-same boot bits start len after.same)
    ∙ ap (λ (t : ℕ → Bool). runs_in t (guarded_units boot start len)) (fun_ext after.set)
    ∙ the-runs (guarded_units boot start len)
  where
    the-runs : (units : Option Units) → runs_in (bit_after boot done) units ≡ set_runs boot done units
    the-runs None = refl
    the-runs (Some units) = refl

-- ---- whether a bit is set

-- a guarded unit of a block has a set bit in the kept bitmap exactly if it has one after the calls
pub waits-by : (boot : Boot) (done : List ModuleCall) (bits : Option Bits) (block : Block) → BitsAfter boot done bits → block.order ≡ 10 → any_in (bits_in bits) (guarded_by bits (PAGE_BYTES * block.first) (PAGE_BYTES * 2 ^ block.order)) ≡ waits_then boot done block
waits-by boot done bits block after ten =
    ap (any_in (bits_in bits)) (guarded-same boot bits (PAGE_BYTES * block.first) (PAGE_BYTES * 2 ^ block.order) after.same)
    ∙ ap (λ (t : ℕ → Bool). any_in t (block_units boot block)) (fun_ext after.set)
    ∙ the-units (block_units boot block)
    ∙ sym (ap (λ b. b && waits_after boot done block) (eq-eqb block.order 10 ten))
  where
    the-units : (units : Option Units) → any_in (bit_after boot done) units ≡ option_map_or (λ (u : Units). any_such (bit_after boot done) u.first u.count) units false
    the-units None = refl
    the-units (Some units) = refl
