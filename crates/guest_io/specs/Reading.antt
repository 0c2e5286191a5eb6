-- What reading a file leaves.
use Rattle.std.specs.Prelude.{◌≡◌, ◌⊎◌, ℕ, ◌≤◌, Bool, true, false, List, [], ◌∷◌, ◌++◌, length, Option, Result, Err, String, string_bytes, Vec, find}
use Rattle.std.specs.Option.{option_map_or}
use Rattle.std.specs.Str.{bytes_eq}
use Rattle.std.specs.declared.alloc.Global.{Global}
use Rattle.guest_io.specs.declared.files.ReadFault.{ReadFault}
use Rattle.guest_io.specs.declared.files.ReadFault.TheVariants.{Failed, NoMemory}
use Rattle.std.specs.Io.KnownBytes.{Consumes}
use Rattle.guest_base.specs.Counts.{raised_by}

-- the answer says that the outside failed
abbrev pub is_failed : {B : Type 0} → Result B ReadFault → Bool
is_failed (Err Failed) = true
is_failed _ = false

-- the name stands at the end of the names asked for; out of memory, it may be missing (own rule)
abbrev pub AsksFor : {B : Type 0} → List ℕ → Result B ReadFault
    → List (List ℕ) → List (List ℕ) → Type 0
AsksFor name (Err NoMemory) old new = (new ≡ old ++ name ∷ []) ⊎ (new ≡ old)
AsksFor name _ old new = new ≡ old ++ name ∷ []

-- the bytes of the first entry of a name; a name without an entry is an empty file (own rule)
abbrev pub content_of : List (String Global × Vec ℕ Global) → List ℕ → List ℕ
content_of files name =
    option_map_or (λ file. file.1.items)
    (find (λ file. bytes_eq (string_bytes file.0) name) files) []

-- a stream gave these bytes next, from what was left to what is left, and the count of bytes read
-- rose by as many (own rule)
pub record Gives (old new : Option (List ℕ)) (given : List ℕ) (before after : ℕ) : Type 0 where
  pub bytes : Consumes old new given
  pub counted : after ≡ raised_by (length given) before

-- the same of some bytes, at most this many (own rule)
abbrev pub GivesAtMost : ℕ → Option (List ℕ) → Option (List ℕ) → ℕ → ℕ → Type 0
GivesAtMost most old new before after =
    (given : List ℕ) × (length given ≤ most) × Gives old new given before after
