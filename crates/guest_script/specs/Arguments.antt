use Rattle.std.specs.Prelude.{ℕ, ◌&&◌, ◌||◌, ◌==◌, nat_le, List, [], ◌∷◌, length, codes, if◌then◌else◌, Option, Some, None, Result, Ok, Err}
use Rattle.std.specs.List.{list_all}
use Rattle.std.specs.Option.{ok_or}
use Rattle.std.specs.Result.{result_ok}
use Rattle.std.specs.Str.{bytes_eq}
use Rattle.hex.specs.Hex.{decode_of}
use Rattle.event_core.specs.Name.{name_character}
use Rattle.guest_base.specs.declared.transfer.Direction.{Direction}
use Rattle.guest_base.specs.declared.transfer.Direction.TheVariants.{ToDevice, FromDevice, Both}
use Rattle.guest_script.specs.declared.fault.Why.{Why}
use Rattle.guest_script.specs.declared.fault.Why.TheVariants.{Word, Number, Hex, Arity}
use Rattle.guest_base.specs.declared.limits.TheConstants.{MAX_ORDER}
use Rattle.guest_script.specs.declared.hex_digits.TheConstants.{MAX_HEX_DIGITS}
use Rattle.guest_script.specs.Number.{number_of}

-- the ? of the logic: what follows, where there is a value
infixl 10 ◌>>=◌
abbrev pub ◌>>=◌ : {A B : Type 0} → Result A Why → (A → Result B Why) → Result B Why
(Ok x) >>= f = f x
(Err e) >>= f = Err e

-- the name that a word is: 1 to 32 of the characters of a name
abbrev pub name_of : List ℕ → Option (List ℕ)
name_of word =
    if (nat_le 1 (length word) && nat_le (length word) 32) && list_all name_character word
    then Some word
    else None

-- the bytes that a word spells: 2 to 524,288 hexadecimal digits of either case, an even number of them, two for each byte
abbrev pub hex_of : List ℕ → Option (List ℕ)
hex_of word =
    if nat_le 1 (length word) && nat_le (length word) MAX_HEX_DIGITS
    then result_ok (decode_of word)
    else None

-- a number up to a greatest one
abbrev pub bounded : ℕ → Option ℕ → Option ℕ
bounded most None = None
bounded most (Some n) = if nat_le n most then Some n else None

-- a mask: 0 or 4095
abbrev pub mask_of : Option ℕ → Option ℕ
mask_of None = None
mask_of (Some n) = if (n == 0) || (n == 4095) then Some n else None

-- a direction
abbrev pub direction_of : List ℕ → Option Direction
direction_of word =
    if bytes_eq word (codes "to") then Some ToDevice
    else if bytes_eq word (codes "from") then Some FromDevice
    else if bytes_eq word (codes "both") then Some Both
    else None

-- the arguments, each with the fault of a word that is none
unfoldable pub name_at : List ℕ → Result (List ℕ) Why
name_at word = ok_or (name_of word) Word

unfoldable pub number_at : List ℕ → Result ℕ Why
number_at word = ok_or (number_of word) Number

-- an order is at most 10
unfoldable pub order_at : List ℕ → Result ℕ Why
order_at word = ok_or (bounded MAX_ORDER (number_of word)) Number

-- a byte is at most 255
unfoldable pub byte_at : List ℕ → Result ℕ Why
byte_at word = ok_or (bounded 255 (number_of word)) Number

unfoldable pub mask_at : List ℕ → Result ℕ Why
mask_at word = ok_or (mask_of (number_of word)) Number

unfoldable pub direction_at : List ℕ → Result Direction Why
direction_at word = ok_or (direction_of word) Word

unfoldable pub hex_at : List ℕ → Result (List ℕ) Why
hex_at word = ok_or (hex_of word) Hex

-- NAME
unfoldable pub one_name : List (List ℕ) → Result (List ℕ) Why
one_name (name ∷ []) = name_at name
one_name [] = Err Arity
one_name (name ∷ more ∷ others) = Err Arity

-- two arguments
abbrev pub two_of : {A B : Type 0} → (List ℕ → Result A Why) → (List ℕ → Result B Why)
    → List (List ℕ) → Result (A × B) Why
two_of first second (a ∷ b ∷ []) = do
  x ← first a
  y ← second b
  Ok (x, y)
two_of first second [] = Err Arity
two_of first second (a ∷ []) = Err Arity
two_of first second (a ∷ b ∷ more ∷ others) = Err Arity

-- three arguments
abbrev pub three_of : {A B C : Type 0} → (List ℕ → Result A Why) → (List ℕ → Result B Why)
    → (List ℕ → Result C Why) → List (List ℕ) → Result (A × B × C) Why
three_of first second third (a ∷ b ∷ c ∷ []) = do
  x ← first a
  y ← second b
  z ← third c
  Ok (x, y, z)
three_of first second third [] = Err Arity
three_of first second third (a ∷ []) = Err Arity
three_of first second third (a ∷ b ∷ []) = Err Arity
three_of first second third (a ∷ b ∷ c ∷ more ∷ others) = Err Arity

-- START LEN, or OFF LEN
unfoldable pub two_numbers : List (List ℕ) → Result (ℕ × ℕ) Why
two_numbers words = two_of number_at number_at words

-- NAME ORDER
unfoldable pub name_order : List (List ℕ) → Result (List ℕ × ℕ) Why
name_order words = two_of name_at order_at words

-- NAME OFF
unfoldable pub name_offset : List (List ℕ) → Result (List ℕ × ℕ) Why
name_offset words = two_of name_at number_at words

-- NAME OFF LEN
unfoldable pub name_range : List (List ℕ) → Result (List ℕ × ℕ × ℕ) Why
name_range words = three_of name_at number_at number_at words

-- NAME OFF HEX
unfoldable pub name_hex : List (List ℕ) → Result (List ℕ × ℕ × List ℕ) Why
name_hex words = three_of name_at number_at hex_at words

-- OFF HEX
unfoldable pub offset_hex : List (List ℕ) → Result (ℕ × List ℕ) Why
offset_hex words = two_of number_at hex_at words
