use Rattle.std.proofs.Common.{◌≡◌, ℕ, ◌+◌, ◌-◌, ◌≤◌, min, Bool, false, None, Some, refl, sym, ◌∙◌, ap, arith}
use Rattle.std.specs.Prelude.{Option, is_some}
use Rattle.guest_base.specs.Search.{first_such, row_length}
use Rattle.guest_base.specs.declared.memory.Units.{Units}
use Rattle.guest_base.proofs.SearchLemmas.{first_such_clip, row_length_clip, any_such-first}
use Rattle.event_core.specs.Units.{run_at, first_run}
use Rattle.unaccepted_bitmap.specs.BitmapValue.{any_unit}

is_some-run_at : (test : ℕ → Bool) (end : ℕ) (o : Option ℕ) → is_some (run_at test end o) ≡ is_some o
is_some-run_at test end None = refl
is_some-run_at test end (Some n) = refl

-- one of the units passes exactly where there is a first run of those that pass
pub any_unit-first_run : (test : ℕ → Bool) (units : Units) → any_unit test (Some units) ≡ is_some (first_run test units.first (units.first + units.count))
unfolding first_run
any_unit-first_run test units =
    let e : units.first + units.count - units.first ≡ units.count = omega arith in
    any_such-first test units.first units.count
    ∙ ap (λ n. is_some (first_such test units.first n)) (sym e)
    ∙ sym (is_some-run_at test (units.first + units.count) (first_such test units.first (units.first + units.count - units.first)))

-- a run is looked for only up to where nothing passes any more
pub first_run-none : (test : ℕ → Bool) (from to limit : ℕ) → ((n : ℕ) → limit ≤ n → test n ≡ false)
    → first_such test from (min to limit - from) ≡ None → first_run test from to ≡ None
unfolding first_run
first_run-none test from to limit above e = ap (run_at test to) (sym (first_such_clip test from to limit above) ∙ e)

pub first_run-found : (test : ℕ → Bool) (from to limit found : ℕ) → ((n : ℕ) → limit ≤ n → test n ≡ false)
    → first_such test from (min to limit - from) ≡ Some found
    → first_run test from to ≡ Some (record { first = found; count = row_length test found (min to limit - found) })
unfolding first_run
first_run-found test from to limit found above e =
    ap (run_at test to) (sym (first_such_clip test from to limit above) ∙ e)
    ∙ ap (λ n. let units : Units = record { first = found; count = n } in Some units) (sym (row_length_clip test found to limit above))
