use Rattle.std.specs.Prelude.{ℕ, ◌+◌, ◌^◌, ◌==◌, ◌≡◌, ◌≤◌, ◌&&◌, ◌||◌, nat_le, Bool, true, false, not, if◌then◌else◌, List, [], ◌∷◌, ◌++◌, length, codes, drop, position, Option, Some, None, String, string_bytes, map}
use Rattle.std.specs.List.{before_first}
use Rattle.std.specs.Int.{IsPowerOfTwo}
use Rattle.std.specs.Option.{option_map}
use Rattle.std.specs.Str.{bytes_eq}
use Rattle.std.specs.declared.alloc.Global.{Global}
use Rattle.guest_base.specs.Requests.{raised_to_power}
use Rattle.guest_base.specs.Search.{any_such}
use Rattle.guest_base.specs.declared.limits.TheConstants.{MAX_AREAS, MAX_CPUS, MAX_SLOTS}
use Rattle.guest_words.specs.declared.numbers.TheConstants.{USUAL_SLOTS}
use Rattle.guest_script.specs.Number.{number_of}
use Rattle.guest_script.specs.Arguments.{bounded}
use Rattle.guest_words.specs.declared.mode.Mode.{Mode}
use Rattle.guest_words.specs.declared.mode.Mode.TheVariants.{Turns, Threads}
use Rattle.guest_words.specs.declared.place.Choice.{Choice}
use Rattle.guest_words.specs.declared.place.Choice.TheVariants.{Slots, Areas, Table}
use Rattle.guest_words.specs.declared.place.Place.{Place}
use Rattle.guest_words.specs.declared.place.Place.TheVariants.{Open, Value, Ended}

-- The words of a run (own rule): `turns`, and then ORDER MAP SCRIPT.., or `run`, and then
-- MAP SCRIPT.., with 1 to 64 scripts, and options at any place behind the first word.

-- the ? of the logic: what follows, where there is a value
infixl 10 ◌>>=◌
abbrev pub ◌>>=◌ : {A B : Type 0} → Option A → (A → Option B) → Option B
None >>= f = None
(Some x) >>= f = f x

-- the words' bytes
abbrev pub bytes_of_words : List (String Global) → List (List ℕ)
bytes_of_words words = map string_bytes words

-- what words tell: the plain ones, and the values that each option is given
pub record Told : Type 0 where
  pub plain : List (List ℕ)
  pub slots : List (List ℕ)
  pub areas : List (List ℕ)
  pub table : List (List ℕ)

abbrev pub nothing : Told
nothing = record { plain = []; slots = []; areas = []; table = [] }

abbrev pub joined : Told → Told → Told
joined a b = record {
  plain = a.plain ++ b.plain;
  slots = a.slots ++ b.slots;
  areas = a.areas ++ b.areas;
  table = a.table ++ b.table;
}

abbrev pub plain_word : List ℕ → Told
plain_word word = record nothing { plain = word ∷ [] }

abbrev pub valued : Choice → List ℕ → Told
valued Slots value = record nothing { slots = value ∷ [] }
valued Areas value = record nothing { areas = value ∷ [] }
valued Table value = record nothing { table = value ∷ [] }

-- the option of a name
abbrev pub choice_of : List ℕ → Option Choice
choice_of name =
    if bytes_eq name (codes "--slots") then Some Slots
    else if bytes_eq name (codes "--areas") then Some Areas
    else if bytes_eq name (codes "--table") then Some Table
    else None

-- a word's text before its first `=`, and what stands behind that
abbrev pub name_in : List ℕ → List ℕ
name_in word = before_first (λ b. b == 61) word

abbrev pub value_in : List ℕ → Option (List ℕ)
value_in word = option_map (λ at. drop (at + 1) word) (position (λ b. b == 61) word)

abbrev pub begins_with_dash : List ℕ → Bool
begins_with_dash [] = false
begins_with_dash (b ∷ bs) = b == 45

-- a word that is no option: one that begins with no dash, as the empty word, and a dash alone
abbrev pub is_plain : List ℕ → Bool
is_plain word = not (begins_with_dash word) || bytes_eq word (codes "-")

-- What a word tells where it stands, and where the next word stands. None where it may not stand
-- there: the value of an option begins with no dash, and a word that begins with one is an option,
-- `--`, or a dash alone.
abbrev pub value_part : Choice → List ℕ → Option (Place × Told)
value_part choice value = if begins_with_dash value then None else Some (Open, valued choice value)

abbrev pub option_part : Option Choice → Option (List ℕ) → Option (Place × Told)
option_part None value = None
option_part (Some choice) None = Some (Value choice, nothing)
option_part (Some choice) (Some value) = value_part choice value

unfoldable pub part_of : Place → List ℕ → Option (Place × Told)
part_of Open word =
    if bytes_eq word (codes "--") then Some (Ended, nothing)
    else if is_plain word then Some (Open, plain_word word)
    else option_part (choice_of (name_in word)) (value_in word)
part_of (Value choice) word = value_part choice word
part_of Ended word = Some (Ended, plain_word word)

-- whether the words may end where a word may stand: no option lacks its value
abbrev pub end_at : Place → Option Told
end_at Open = Some nothing
end_at (Value choice) = None
end_at Ended = Some nothing

-- what the words from a place on tell; none where they aren't in the grammar
unfoldable pub told_by : Place → List (List ℕ) → Option Told
told_by place [] = end_at place
told_by place (word ∷ words) = do
  part ← part_of place word
  option_map (joined part.1) (told_by part.0 words)

-- the slots that are asked for the pool: 0, which is no pool, to 131,072, and 32,768 where the words
-- give none (swiotlb.c has 64 MiB)
abbrev pub slots_of : List (List ℕ) → Option ℕ
slots_of [] = Some USUAL_SLOTS
slots_of (value ∷ []) = bounded MAX_SLOTS (number_of value)
slots_of (value ∷ other ∷ values) = None

-- a number of areas: a power of two from 1 to 64
abbrev pub is_areas : ℕ → Bool
is_areas count = any_such (λ order. count == 2 ^ order) 0 7

abbrev pub areas_in : Option ℕ → Option ℕ
areas_in None = None
areas_in (Some count) = if is_areas count then Some count else None

-- the areas of the pool; where the words give none, the number of scripts, raised to a power of two
-- (after swiotlb.c)
abbrev pub areas_of : ℕ → List (List ℕ) → Option ℕ
areas_of scripts [] = Some (raised_to_power scripts)
areas_of scripts (value ∷ []) = areas_in (number_of value)
areas_of scripts (value ∷ other ∷ values) = None

-- the file of an earlier kernel's table
abbrev pub table_of : List (List ℕ) → Option (Option (List ℕ))
table_of [] = Some None
table_of (value ∷ []) = Some (Some value)
table_of (value ∷ other ∷ values) = None

-- what the words of a run name: files, and the slots and areas that are asked for the pool; a run on
-- threads has no order
pub record Named : Type 0 where
  pub order : Option (List ℕ)
  pub slots : ℕ
  pub areas : ℕ
  pub table : Option (List ℕ)
  pub map : List ℕ
  pub scripts : List (List ℕ)

-- the number of processors: a script for each
abbrev pub cpus_in : Named → ℕ
cpus_in named = length named.scripts

-- there are 1 to 64 processors
abbrev pub is_cpus : ℕ → Bool
is_cpus count = nat_le 1 count && nat_le count MAX_CPUS

-- what is named keeps the limits: of slots, of areas, which are a power of two, and of processors
pub record KeepsLimits (named : Named) : Type 0 where
  pub slots : named.slots ≤ MAX_SLOTS
  pub areas : named.areas ≤ MAX_AREAS
  pub power : IsPowerOfTwo named.areas
  pub cpus : is_cpus (cpus_in named) ≡ true

-- a run of these files, with the options that are told
abbrev pub run_with : Option (List ℕ) → List ℕ → List (List ℕ) → Told → Option Named
run_with order map scripts told = do
  slots ← slots_of told.slots
  areas ← areas_of (length scripts) told.areas
  table ← table_of told.table
  Some (record {
    order = order;
    slots = slots;
    areas = areas;
    table = table;
    map = map;
    scripts = scripts;
  })

-- MAP SCRIPT.., with 1 to 64 scripts
abbrev pub run_of : Option (List ℕ) → List (List ℕ) → Told → Option Named
run_of order [] told = None
run_of order (map ∷ scripts) told =
    if is_cpus (length scripts) then run_with order map scripts told else None

-- the plain words: of turns an order stands before the map
abbrev pub files_of : Mode → List (List ℕ) → Told → Option Named
files_of Turns [] told = None
files_of Turns (order ∷ words) told = run_of (Some order) words told
files_of Threads words told = run_of None words told

abbrev pub named_of : Mode → Told → Option Named
named_of mode told = files_of mode told.plain told

-- how the scripts are run, by the first word
abbrev pub mode_of : List ℕ → Option Mode
mode_of command =
    if bytes_eq command (codes "turns") then Some Turns
    else if bytes_eq command (codes "run") then Some Threads
    else None

-- the words behind the first
abbrev pub named_as : Mode → List (List ℕ) → Option Named
named_as mode words = told_by Open words >>= named_of mode

-- what the words name; none exactly where they aren't in the grammar
abbrev pub named_by : List (List ℕ) → Option Named
named_by [] = None
named_by (command ∷ words) = mode_of command >>= (λ mode. named_as mode words)
