-- The bytes of an area, as they are kept and as its entries make them.
use Rattle.std.proofs.Common.{◌≡◌, ℕ, zero, suc, ◌+◌, ◌-◌, ◌*◌, ◌<◌, ◌≤◌, Bool, true, false, Option, None, Some, List, [], ◌∷◌, ◌++◌, refl, sym, ◌∙◌, ap, inl, inr, arith, add-zero, length, get_or, take, drop, length-append, length-drop}
use Rattle.std.specs.Prelude.{if◌then◌else◌}
use Rattle.std.specs.Option.{option_map_or}
use Rattle.std.proofs.Math.ListN.{replicate}
use Rattle.std.proofs.Math.Seq.{drop-cons}
use Rattle.std.proofs.lemmas.Bool.{cases_lt}
use Rattle.std.proofs.lemmas.List.{get_or_append_left, get_or-append_right, get_or-take, get_or-drop, get_or-replicate, length-take, length-replicate}
use Rattle.std.proofs.lemmas.List.Sums.{fold-append}
use Rattle.guest_base.specs.declared.limits.TheConstants.{SLOT_BYTES}
use Rattle.guest_base.specs.Parts.{part_of, with_part}
use Rattle.guest_base.specs.Ranges.{in_range}
use Rattle.guest_base.proofs.RangeLemmas.{in_range-intro, in_range-below, in_range-past}
use Rattle.event_core.specs.declared.boot.Boot.{Boot}
use Rattle.event_core.specs.Bytes.{row_of, written, zeros}
use Rattle.event_core.specs.Moved.{Moved}
use Rattle.event_core.specs.Pool.{area_slots}
use Rattle.event_core.specs.PoolBytes.{pool_byte, pool_step, writes_at}
use Rattle.io_areas.specs.StandsFor.{BytesStand}

-- ---- the bytes of the pool after one more entry

pool-byte-push : (boot : Boot) (moved : List Moved) (m : Moved) → pool_byte boot (moved ++ m ∷ []) ≡ pool_step boot (pool_byte boot moved) m
unfolding pool_byte
pool-byte-push boot moved m = fold-append (pool_step boot) zeros moved (m ∷ [])

pool-byte-none : (boot : Boot) (place : ℕ) → pool_byte boot [] place ≡ 0
unfolding pool_byte
pool-byte-none boot place = refl

pool-byte-still : (boot : Boot) (moved : List Moved) (m : Moved) → writes_at boot m.entry.event ≡ None → pool_byte boot (moved ++ m ∷ []) ≡ pool_byte boot moved
pool-byte-still boot moved m none =
    pool-byte-push boot moved m ∙ ap (λ (o : Option ℕ). option_map_or (λ at. written (pool_byte boot moved) at m.bytes) o (pool_byte boot moved)) none

pool-byte-written : (boot : Boot) (moved : List Moved) (m : Moved) (at : ℕ) → writes_at boot m.entry.event ≡ Some at → pool_byte boot (moved ++ m ∷ []) ≡ written (pool_byte boot moved) at m.bytes
pool-byte-written boot moved m at some =
    pool-byte-push boot moved m ∙ ap (λ (o : Option ℕ). option_map_or (λ from. written (pool_byte boot moved) from m.bytes) o (pool_byte boot moved)) some

-- ---- the bytes that are kept

-- the byte at a place is one of those that were written, or stays
written-in : (kept : ℕ → ℕ) (at i : ℕ) (bytes : List ℕ) → in_range at (length bytes) i ≡ true → written kept at bytes i ≡ get_or bytes (i - at) 0
written-in kept at i bytes is = ap (λ (b : Bool). if b then get_or bytes (i - at) 0 else kept i) is

written-out : (kept : ℕ → ℕ) (at i : ℕ) (bytes : List ℕ) → in_range at (length bytes) i ≡ false → written kept at bytes i ≡ kept i
written-out kept at i bytes is = ap (λ (b : Bool). if b then get_or bytes (i - at) 0 else kept i) is

-- a place is written alike where both count from a base
written-shift : (pool kept : ℕ → ℕ) (base at i : ℕ) (bytes : List ℕ) → kept i ≡ pool (base + i) → written kept at bytes i ≡ written pool (base + at) bytes (base + i)
written-shift pool kept base at i bytes same =
    elim (cases_lt i at) [
      | inl low ↦
          written-out kept at i bytes (in_range-below at (length bytes) i low) ∙ same
          ∙ sym (written-out pool (base + at) (base + i) bytes (in_range-below (base + at) (length bytes) (base + i) (omega arith)))
      | inr high ↦
          elim (cases_lt i (at + length bytes)) [
            | inl within ↦
                (let place : i - at ≡ base + i - (base + at) = omega arith in
                written-in kept at i bytes (in_range-intro at (length bytes) i high within)
                ∙ ap (λ k. get_or bytes k 0) place
                ∙ sym (written-in pool (base + at) (base + i) bytes (in_range-intro (base + at) (length bytes) (base + i) (omega arith) (omega arith))))
            | inr past ↦
                written-out kept at i bytes (in_range-past at (length bytes) i past) ∙ same
                ∙ sym (written-out pool (base + at) (base + i) bytes (in_range-past (base + at) (length bytes) (base + i) (omega arith)))
          ]
    ]

with-part-length : (all bytes : List ℕ) (at : ℕ) → at + length bytes ≤ length all → length (with_part all at bytes) ≡ length all
with-part-length all bytes at fits =
    let outer = length-append (take at all) (bytes ++ drop (at + length bytes) all) in
    let inner = length-append bytes (drop (at + length bytes) all) in
    let front = length-take at all in
    let back = length-drop (at + length bytes) all in
    omega (arith, outer, inner, front, back)

-- the byte of a list at a place, once bytes were written into it
with-part-at : (all bytes : List ℕ) (at i : ℕ) → at + length bytes ≤ length all → get_or (with_part all at bytes) i 0 ≡ written (λ k. get_or all k 0) at bytes i
with-part-at all bytes at i fits =
    elim (cases_lt i at) [
      | inl low ↦
          get_or_append_left (take at all) (bytes ++ drop (at + length bytes) all) 0 i (omega (arith, front))
          ∙ get_or-take at all i 0 low
          ∙ sym (written-out old at i bytes (in_range-below at (length bytes) i low))
      | inr high ↦
          elim (cases_lt i (at + length bytes)) [
            | inl within ↦
                behind high
                ∙ get_or_append_left bytes (drop (at + length bytes) all) 0 (i - at) (omega arith)
                ∙ sym (written-in old at i bytes (in_range-intro at (length bytes) i high within))
            | inr past ↦
                (let place : at + length bytes + (i - at - length bytes) ≡ i = omega arith in
                behind high
                ∙ get_or-append_right bytes (drop (at + length bytes) all) (length bytes) (i - at) 0 refl (omega arith)
                ∙ get_or-drop (at + length bytes) all (i - at - length bytes) 0
                ∙ ap old place
                ∙ sym (written-out old at i bytes (in_range-past at (length bytes) i past)))
          ]
    ]
  where
    old : ℕ → ℕ
    old k = get_or all k 0

    front : length (take at all) ≡ at
    front = (let l = length-take at all in omega (arith, l))

    behind : at ≤ i → get_or (with_part all at bytes) i 0 ≡ get_or (bytes ++ drop (at + length bytes) all) (i - at) 0
    behind high = get_or-append_right (take at all) (bytes ++ drop (at + length bytes) all) at i 0 front high

-- a part of a list is the row of what its places have
pub part-is-row : (f : ℕ → ℕ) (kept : List ℕ) (base at n : ℕ) → ((i : ℕ) → i < n → get_or kept (at + i) 0 ≡ f (base + i)) → at + n ≤ length kept → part_of kept at n ≡ row_of f base n
part-is-row f kept base at zero same fits = refl
part-is-row f kept base at (suc n) same fits =
    let here : get_or kept at 0 ≡ f base = ap (λ k. get_or kept k 0) (sym (add-zero at)) ∙ same 0 (omega arith) ∙ ap f (add-zero base) in
    let rest : part_of kept (suc at) n ≡ row_of f (base + 1) n =
    part-is-row f kept (base + 1) (suc at) n
    (λ i low.
    let old : suc at + i ≡ at + suc i = omega arith in
    let new : base + suc i ≡ base + 1 + i = omega arith in
    ap (λ k. get_or kept k 0) old ∙ same (suc i) (omega arith) ∙ ap f new)
    (omega arith)
    in
    ap (take (suc n)) (drop-cons kept at 0 (omega arith)) ∙ ap (λ x. x ∷ part_of kept (suc at) n) here ∙ ap (λ xs. f base ∷ xs) rest

-- ---- they stand for the pool's

pub bytes-first : (number slots : ℕ) (kept : List ℕ) → kept ≡ replicate (SLOT_BYTES * slots) 0 → BytesStand number slots [] kept
bytes-first number slots kept zeros = record {
  count = ap (λ (bytes : List ℕ). length bytes) zeros ∙ length-replicate (SLOT_BYTES * slots) 0;
  same =
      λ boot size at low.
      ap (λ (bytes : List ℕ). get_or bytes at 0) zeros ∙ get_or-replicate (SLOT_BYTES * slots) at 0 0 low
      ∙ sym (pool-byte-none boot (SLOT_BYTES * (number * slots) + at));
}

-- an entry that writes none
pub bytes-still : (number slots : ℕ) (moved : List Moved) (m : Moved) (kept : List ℕ) → ((boot : Boot) → writes_at boot m.entry.event ≡ None) → BytesStand number slots moved kept → BytesStand number slots (moved ++ m ∷ []) kept
bytes-still number slots moved m kept none stand = record {
  count = stand.count;
  same = λ boot size at low. stand.same boot size at low ∙ sym (ap (λ (f : ℕ → ℕ). f (SLOT_BYTES * (number * slots) + at)) (pool-byte-still boot moved m (none boot)));
}

-- an entry that writes its bytes into the area
pub bytes-written : (number slots at : ℕ) (moved : List Moved) (m : Moved) (kept : List ℕ) → at + length m.bytes ≤ SLOT_BYTES * slots
    → ((boot : Boot) → area_slots boot ≡ slots → writes_at boot m.entry.event ≡ Some (SLOT_BYTES * (number * slots) + at))
    → BytesStand number slots moved kept → BytesStand number slots (moved ++ m ∷ []) (with_part kept at m.bytes)
bytes-written number slots at moved m kept fits writes stand =
    let count = stand.count in
    let within : at + length m.bytes ≤ length kept = omega (arith, count, fits) in
    record {
      count = with-part-length kept m.bytes at within ∙ count;
      same =
          λ boot size i low.
          with-part-at kept m.bytes at i within
          ∙ written-shift (pool_byte boot moved) (λ k. get_or kept k 0) (SLOT_BYTES * (number * slots)) at i m.bytes (stand.same boot size i low)
          ∙ sym (ap (λ (f : ℕ → ℕ). f (SLOT_BYTES * (number * slots) + i)) (pool-byte-written boot moved m (SLOT_BYTES * (number * slots) + at) (writes boot size)));
    }

-- bytes that are read are those of the pool
pub bytes-read : (number slots at n : ℕ) (moved : List Moved) (kept : List ℕ) → BytesStand number slots moved kept → at + n ≤ SLOT_BYTES * slots → (boot : Boot) → area_slots boot ≡ slots
    → part_of kept at n ≡ row_of (pool_byte boot moved) (SLOT_BYTES * (number * slots) + at) n
bytes-read number slots at n moved kept stand fits boot size =
    let count = stand.count in
    let base = SLOT_BYTES * (number * slots) in
    part-is-row (pool_byte boot moved) kept (base + at) at n
    (λ i low.
    let place : base + (at + i) ≡ base + at + i = omega arith in
    stand.same boot size (at + i) (omega arith) ∙ ap (pool_byte boot moved) place)
    (omega (arith, count, fits))
