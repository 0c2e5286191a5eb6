use Rattle.std.specs.Prelude.{ℕ, ◌+◌, ◌++◌, List, length, take, drop}

-- count bytes of a list from a place on
abbrev pub part_of : List ℕ → ℕ → ℕ → List ℕ
part_of all at count = take count (drop at all)

-- a list with these bytes written from a place on
abbrev pub with_part : List ℕ → ℕ → List ℕ → List ℕ
with_part all at bytes = take at all ++ (bytes ++ drop (at + length bytes) all)
