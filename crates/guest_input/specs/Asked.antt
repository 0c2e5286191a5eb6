use Rattle.std.specs.Prelude.{ℕ, List, [], ◌∷◌, ◌++◌, ◌+◌, take, Option, None, Some, ◌≡◌}
use Rattle.std.specs.Option.{option_to_list}
use Rattle.guest_words.specs.Words.{Named}
use Rattle.guest_input.specs.declared.stop.InputFile.{InputFile}
use Rattle.guest_input.specs.declared.stop.InputFile.TheVariants.{Order, Map, Table, Script}
use Rattle.guest_input.specs.Reading.{Reading}

-- Which names are asked for (own rule).

-- the names of the files before the scripts: the order where there is one, the map, and the table
-- where there is one
abbrev pub names_to_table : Named → List (List ℕ)
names_to_table named = option_to_list named.order ++ named.map ∷ option_to_list named.table

-- the names of the files up to this one
abbrev pub names_to : Named → InputFile → List (List ℕ)
names_to named Order = option_to_list named.order
names_to named Map = option_to_list named.order ++ named.map ∷ []
names_to named Table = names_to_table named
names_to named (Script cpu) = names_to_table named ++ take (cpu.0 + 1) named.scripts

-- the names of all files
abbrev pub all_names : Named → List (List ℕ)
all_names named = names_to_table named ++ named.scripts

-- the names of the files that the arguments name, in this order
abbrev pub names_of : Option Named → List (List ℕ)
names_of None = []
names_of (Some named) = all_names named

-- the place of a file in the order in which they are read
abbrev pub place_of : InputFile → ℕ
place_of Order = 0
place_of Map = 1
place_of Table = 2
place_of (Script cpu) = 3 + cpu.0

-- these names were asked for, in this order, and no others
abbrev pub Asks : List (List ℕ) → Reading → Type 0
Asks names files = files.asked_after ≡ files.asked_before ++ names

-- the first of these names were asked for, and no others
abbrev pub AsksFront : List (List ℕ) → Reading → Type 0
AsksFront names files = (count : ℕ) × Asks (take count names) files
