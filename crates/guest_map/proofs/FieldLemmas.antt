-- A field that was written is read again.
use Rattle.std.proofs.Common.{◌≡◌, ℕ, ◌+◌, ◌^◌, ◌<◌, List, ◌++◌, length, drop, sym, ap, ◌∙◌}
use Rattle.std.proofs.lemmas.List.{drop_at}
use Rattle.std.proofs.Math.Seq.{drop-append-add}
use Rattle.byteorder.specs.Numbers.{length-bytes_low_first, little_number-reads_back}
use Rattle.guest_map.specs.Fields.{number, low_bytes}

pub low_length : (width n : ℕ) → length (low_bytes width n) ≡ width
unfolding low_bytes
low_length width n = length-bytes_low_first 0 width n

pub number_again : (width n : ℕ) (rest : List ℕ) → n < 256 ^ width → number width (low_bytes width n ++ rest) ≡ n
unfolding number low_bytes
number_again width n rest lt = little_number-reads_back width n rest lt

pub low_drop : (width n : ℕ) (rest : List ℕ) → drop width (low_bytes width n ++ rest) ≡ rest
low_drop width n rest = drop_at (low_bytes width n) rest width (low_length width n)

pub low_past : (width n k : ℕ) (rest : List ℕ) → drop (width + k) (low_bytes width n ++ rest) ≡ drop k rest
low_past width n k rest = ap (λ (w : ℕ). drop (w + k) (low_bytes width n ++ rest)) (sym (low_length width n)) ∙ drop-append-add (low_bytes width n) rest k
