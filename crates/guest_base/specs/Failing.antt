-- Which calls of an object in memory fail.
use Rattle.std.specs.Prelude.{ℕ, List, Bool, ◌==◌}
use Rattle.std.specs.List.{list_any}

-- the call of this number, counted from 1, is one of those that are to fail (own rule)
abbrev pub fails_at : List ℕ → ℕ → Bool
fails_at failing number = list_any (λ each. each == number) failing
