use Rattle.std.specs.Prelude.{ℕ, ◌&&◌, nat_le, if◌then◌else◌, List, [], ◌∷◌, length, Bool, Option, None, Some}
use Rattle.std.specs.Borrow.{Bor}
use Rattle.guest_words.specs.declared.place.Choice.{Choice}
use Rattle.guest_words.specs.declared.place.Place.{Place}
use Rattle.guest_words.specs.declared.mode.Mode.{Mode}
use Rattle.guest_words.specs.declared.told.SoFar.{SoFar}
use Rattle.guest_script.specs.Words.{texts}
use Rattle.guest_words.specs.declared.told.TheConstants.{MAX_PLAIN}
use Rattle.guest_words.specs.Words.{Told, Named, joined, part_of, value_part, option_part, choice_of, name_in, value_in, end_at, named_of, ◌>>=◌}

-- What is told so far, as the reader keeps it.

-- a value, or none
abbrev pub listed : Option (Bor (List ℕ)) → List (List ℕ)
listed None = []
listed (Some value) = value.now ∷ []

abbrev pub told : SoFar → Told
told so_far = record {
  plain = texts so_far.plain.items;
  slots = listed so_far.slots;
  areas = listed so_far.areas;
  table = listed so_far.table;
}

abbrev pub standing : Option SoFar → Option (Place × Told)
standing None = None
standing (Some so_far) = Some (so_far.place, told so_far)

-- few enough plain words, and each option once
abbrev pub is_small : Told → Bool
is_small t =
    nat_le (length t.plain) MAX_PLAIN
    && (nat_le (length t.slots) 1 && (nat_le (length t.areas) 1 && nat_le (length t.table) 1))

-- what is told and the next word's place after one more word, while that is small
abbrev pub told_after : Told → Place × Told → Option (Place × Told)
told_after before part =
    if is_small (joined before part.1) then Some (part.0, joined before part.1) else None

abbrev pub value_of : Choice → Told → List ℕ → Option (Place × Told)
value_of choice before value = value_part choice value >>= told_after before

abbrev pub option_of : Told → List ℕ → Option (Place × Told)
option_of before word = option_part (choice_of (name_in word)) (value_in word) >>= told_after before

abbrev pub next_of : Place → Told → List ℕ → Option (Place × Told)
next_of place before word = part_of place word >>= told_after before

-- what the words name that tell this and no more
abbrev pub names_of : Mode → Place → Told → Option Named
names_of mode place all = end_at place >>= (λ _. named_of mode all)
