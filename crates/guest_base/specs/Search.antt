use Rattle.std.specs.Prelude.{ℕ, zero, suc, Option, None, Some, Bool, true, false, ◌+◌}

-- Searches over `count` numbers from `from` on, by a test. They end at the first number that decides.

-- the first that passes the test
unfoldable pub first_such : (ℕ → Bool) → ℕ → ℕ → Option ℕ
first_such test from zero = None
first_such test from (suc count) =
    elim (test from) as (λ _. Option ℕ) [ true ↦ Some from | false ↦ first_such test (from + 1) count ]

-- whether each passes
unfoldable pub each_such : (ℕ → Bool) → ℕ → ℕ → Bool
each_such test from zero = true
each_such test from (suc count) =
    elim (test from) as (λ _. Bool) [ true ↦ each_such test (from + 1) count | false ↦ false ]

-- whether one passes
unfoldable pub any_such : (ℕ → Bool) → ℕ → ℕ → Bool
any_such test from zero = false
any_such test from (suc count) =
    elim (test from) as (λ _. Bool) [ true ↦ true | false ↦ any_such test (from + 1) count ]

-- how many pass
unfoldable pub count_such : (ℕ → Bool) → ℕ → ℕ → ℕ
count_such test from zero = 0
count_such test from (suc count) =
    elim (test from) as (λ _. ℕ) [ true ↦ 1 + count_such test (from + 1) count | false ↦ count_such test (from + 1) count ]

-- how many pass before the first that doesn't
unfoldable pub row_length : (ℕ → Bool) → ℕ → ℕ → ℕ
row_length test from zero = 0
row_length test from (suc count) =
    elim (test from) as (λ _. ℕ) [ true ↦ 1 + row_length test (from + 1) count | false ↦ 0 ]
