-- The fields of a file: their numbers, little endian, and the first thing that is wrong with them.
use Rattle.std.specs.Prelude.{ℕ, Bool, List, Option, Some, None, Result, Ok, Err, if◌then◌else◌}
use Rattle.byteorder.specs.Endian.{little_number, little_bytes}

-- the number in the first bytes, `width` of them
unfoldable pub number : ℕ → List ℕ → ℕ
number width bytes = little_number width bytes

-- the lowest bytes of a number, `width` of them, the lowest first
unfoldable pub low_bytes : ℕ → ℕ → List ℕ
low_bytes width n = little_bytes width n

-- this fault where its condition holds, else what the checks behind it say
abbrev pub refuse : {F : Type 0} → F → Bool → Option F → Option F
refuse fault wrong others = if wrong then Some fault else others

-- a value, where nothing is wrong with it
abbrev pub unless : {A F : Type 0} → Option F → A → Result A F
unless None x = Ok x
unless (Some fault) x = Err fault
