use Rattle.std.specs.Prelude.{ℕ, zero, suc, List, [], ◌∷◌, ◌+◌, ◌-◌, length, slice_index, if◌then◌else◌}
use Rattle.guest_base.specs.Ranges.{in_range}

-- Bytes by their places: of a block counted from its first byte, of the pool from its first byte (own rule).

-- count bytes from a place on, in order
abbrev pub row_of : (ℕ → ℕ) → ℕ → ℕ → List ℕ
row_of bytes from zero = []
row_of bytes from (suc count) = bytes from ∷ row_of bytes (from + 1) count

-- the bytes after some were written from a place on
abbrev pub written : (ℕ → ℕ) → ℕ → List ℕ → ℕ → ℕ
written bytes at more place = if in_range at (length more) place then slice_index more (place - at) else bytes place

-- no byte was written yet
abbrev pub zeros : ℕ → ℕ
zeros place = 0
