use Rattle.std.specs.Prelude.{ℕ, ◌^◌, ◌==◌, ◌&&◌, Bool, true, if◌then◌else◌, nat_le, nat_lt, List, [], ◌∷◌, length, Option, None, Some}
use Rattle.std.specs.Char.{digit_value}
use Rattle.guest_script.specs.declared.number.TheConstants.{MOST_DECIMAL, MOST_HEX}
use Rattle.std.specs.Str.Parse.{digits_value}

-- whether each byte is a digit of the base, of either case
abbrev pub all_digits : ℕ → List ℕ → Bool
all_digits base [] = true
all_digits base (b ∷ bs) = nat_lt (digit_value b) base && all_digits base bs

-- the value of digits of a base, where it is below 2^64
abbrev pub small_value : ℕ → List ℕ → Option ℕ
small_value base digits =
    if all_digits base digits && nat_lt (digits_value base digits) (2 ^ 64)
    then Some (digits_value base digits)
    else None

-- the same of 1 to most digits
abbrev pub digits_number : ℕ → ℕ → List ℕ → Option ℕ
digits_number base most digits =
    if nat_le 1 (length digits) && nat_le (length digits) most
    then small_value base digits
    else None

-- the number that a word spells: 1 to 20 decimal digits, or 0x and 1 to 16 hexadecimal digits of either case, with a value below
-- 2^64 (own rule)
abbrev pub number_of : List ℕ → Option ℕ
number_of [] = None
number_of (a ∷ []) = digits_number 10 MOST_DECIMAL (a ∷ [])
number_of (a ∷ b ∷ bs) =
    if (a == 48) && (b == 120)
    then digits_number 16 MOST_HEX bs
    else digits_number 10 MOST_DECIMAL (a ∷ b ∷ bs)
