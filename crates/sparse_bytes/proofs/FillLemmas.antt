-- Lemmas on one byte again and again.
use Rattle.std.proofs.Common.{◌≡◌, ℕ, zero, suc, ◌<◌, [], ◌∷◌, length, get_or, arith, refl}
use Rattle.std.specs.List.{repeat}

pub size_of : (len byte : ℕ) → length (repeat len (byte ∷ [])) ≡ len
size_of zero byte = refl
size_of (suc len) byte = let h = size_of len byte in omega (arith, h)

pub byte_in : (len byte k : ℕ) → k < len → get_or (repeat len (byte ∷ [])) k 0 ≡ byte
byte_in zero byte k below = absurd (omega (arith, below))
byte_in (suc len) byte zero below = refl
byte_in (suc len) byte (suc k) below = byte_in len byte k (omega (arith, below))
