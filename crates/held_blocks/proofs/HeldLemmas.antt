-- Lemmas on blocks that are held.
use Rattle.std.proofs.Common.{◌≡◌, ℕ, zero, suc, ◌+◌, ◌-◌, ◌<◌, ◌≤◌, List, [], ◌∷◌, ◌++◌, Bool, true, false, not, Option, Some, None, length, get_or, slice_set, map, take, replicate, Result, Ok, Err, OnOk, OnErr, arith, refl, sym, ap, subst, ◌∙◌, inl, inr}
use Rattle.std.specs.List.{filter, position, position_from, repeat}
use Rattle.std.specs.Option.{option_map, ForSome, IsSome, IsSomeAnd}
use Rattle.std.specs.Str.{bytes_eq}
use Rattle.std.proofs.lemmas.Bool.{cases_Bool}
use Rattle.std.proofs.lemmas.Grind.{common_steps}
use Rattle.std.proofs.lemmas.Option.{same_Some}
use Rattle.std.proofs.lemmas.List.Quantifiers.{position-Some}
use Rattle.std.proofs.lemmas.Iterator.Adapters.{position_from-zero}
use Rattle.guest_base.specs.declared.memory.Block.{Block}
use Rattle.event_core.specs.declared.reply.Reply.{Reply}
use Rattle.event_core.specs.Bytes.{row_of, written}
use Rattle.event_core.specs.Holdings.{Holding, Own, block_named, block_bytes, same_block}
use Rattle.event_core.specs.Own.{with_bytes_at, write_if}
use Rattle.event_core.specs.OwnRows.{strayed_bytes}
use Rattle.event_core.specs.Refusals.{unknown_or, unless_private}
use Rattle.held_blocks.specs.declared.kept.KeptBlock.{KeptBlock}
use Rattle.held_blocks.specs.Held.{holding, own_with, AreApart, EndsWithin, is_held, IsInMemory}
use Rattle.sparse_bytes.specs.Runs.{byte_of, Laid, Wrote}
use mathlib.Core.Path.{fun_ext}

-- ---- the block of a name

-- it is the kept one at the first place of the name
pub named-at : (ks : List KeptBlock) (name : List ℕ) (i : ℕ) (d : KeptBlock) → (i < length ks) → (bytes_eq (get_or ks i d).name name ≡ true) →
    ((j : ℕ) → j < i → bytes_eq (get_or ks j d).name name ≡ false) →
    block_named (own_with (map holding ks)) name ≡ Some (holding (get_or ks i d))
named-at [] name i d low here before = absurd (omega (arith, low))
named-at (k ∷ ks) name zero d low here before = rw here refl
named-at (k ∷ ks) name (suc i) d low here before =
    rw (before 0 (omega arith)) (named-at ks name i d (omega (arith, low)) here (λ j lower. before (suc j) (omega (arith, lower))))

pub named-place : (ks : List KeptBlock) (name : List ℕ) (i : ℕ) (d : KeptBlock) → Some i ≡ position (λ (k : KeptBlock). bytes_eq k.name name) ks →
    (i < length ks) × (block_named (own_with (map holding ks)) name ≡ Some (holding (get_or ks i d)))
named-place ks name i d is =
    let facts = position-Some (λ (k : KeptBlock). bytes_eq k.name name) ks i d (sym is) in
    (facts.0, named-at ks name i d facts.0 facts.1 facts.2)

unnamed-from : (ks : List KeptBlock) (name : List ℕ) (i : ℕ) → position_from (λ (k : KeptBlock). bytes_eq k.name name) i ks ≡ None →
    block_named (own_with (map holding ks)) name ≡ None
unnamed-from [] name i is = refl
unnamed-from (k ∷ ks) name i is =
    elim (cases_Bool (bytes_eq k.name name)) [
      | inl t ↦ absurd (grind (arith, t, is))
      | inr f ↦ rw f (unnamed-from ks name (i + 1) (rw f at is))
    ]

pub unnamed : (ks : List KeptBlock) (name : List ℕ) → None ≡ position (λ (k : KeptBlock). bytes_eq k.name name) ks →
    block_named (own_with (map holding ks)) name ≡ None
unnamed ks name is = unnamed-from ks name 0 (sym (position_from-zero (λ (k : KeptBlock). bytes_eq k.name name) ks) ∙ sym is)

-- a name that has a block has a place
pub some-place : (ks : List KeptBlock) (name : List ℕ) → None ≡ position (λ (k : KeptBlock). bytes_eq k.name name) ks →
    IsSome (block_named (own_with (map holding ks)) name) → ⊥
some-place ks name is some = let e = unnamed ks name is in grind (arith, e, some)

some-held : {A : Type 0} (P : A → Type 0) (o : Option A) → IsSomeAnd o P → IsSome o
some-held P None h = absurd h
some-held P (Some x) h = refl

pub ends-some : (own : Own) (name : List ℕ) (off len : ℕ) → EndsWithin own name off len → IsSome (block_named own name)
ends-some own name off len ends = some-held (λ (h : Holding). off + len ≤ block_bytes h.block) (block_named own name) ends

-- ---- refusals

-- no block that is held is shared
pub private-or : (ks : List KeptBlock) (name : List ℕ) (conditions : Block → Option Reply) →
    unknown_or (option_map (λ (h : Holding). h.block) (block_named (own_with (map holding ks)) name)) conditions
    ≡ unknown_or (block_named (own_with (map holding ks)) name) (λ h. unless_private h.sharing (conditions h.block))
private-or [] name conditions = refl
private-or (k ∷ ks) name conditions =
    elim (cases_Bool (bytes_eq k.name name)) [ inl t ↦ rw t refl | inr f ↦ rw f (private-or ks name conditions) ]

-- ---- blocks apart

pub apart-at : (ks : List KeptBlock) (i : ℕ) (d : KeptBlock) → AreApart (map holding ks) → i < length ks → IsInMemory (get_or ks i d).block
apart-at [] i d apart low = absurd (omega (arith, low))
apart-at (k ∷ ks) zero d apart low = apart.0
apart-at (k ∷ ks) (suc i) d apart low = apart-at ks i d apart.2 (omega (arith, low))

pub held-filter : (test : Holding → Bool) (block : Block) (hs : List Holding) → is_held block hs ≡ false → is_held block (filter test hs) ≡ false
held-filter test block [] is = refl
held-filter test block (h ∷ hs) is =
    elim (cases_Bool (same_block h.block block)) [
      | inl t ↦ absurd (grind (arith, t, is))
      | inr f ↦ elim (cases_Bool (test h)) [
        | inl t ↦ rw (t, f) (held-filter test block hs (rw f at is))
        | inr u ↦ rw u (held-filter test block hs (rw f at is))
      ]
    ]

pub apart-filter : (test : Holding → Bool) (hs : List Holding) → AreApart hs → AreApart (filter test hs)
apart-filter test [] apart = tt
apart-filter test (h ∷ hs) apart =
    elim (cases_Bool (test h)) [
      | inl t ↦ rw t (apart.0, held-filter test h.block hs apart.1, apart-filter test hs apart.2)
      | inr f ↦ rw f (apart-filter test hs apart.2)
    ]

-- what is dropped by its name is no longer had
pub dropped : (ks : List KeptBlock) (name : List ℕ) →
    map holding (filter (λ (k : KeptBlock). not (bytes_eq k.name name)) ks)
    ≡ filter (λ (h : Holding). not (bytes_eq h.name name)) (map holding ks)
dropped [] name = refl
dropped (k ∷ ks) name =
    elim (cases_Bool (bytes_eq k.name name)) [ inl t ↦ rw t (dropped ks name) | inr f ↦ rw f (ap (λ s. holding k ∷ s) (dropped ks name)) ]

-- ---- bytes of one block written

pub same-itself : (block : Block) → same_block block block ≡ true
same-itself block = grind arith

same-turned : (a b : Block) → same_block a b ≡ false → same_block b a ≡ false
same-turned a b is = grind (arith, is)

pub held-set : (ks : List KeptBlock) (i : ℕ) (d k : KeptBlock) (block : Block) → i < length ks → k.block ≡ (get_or ks i d).block →
    is_held block (map holding (slice_set ks i k)) ≡ is_held block (map holding ks)
held-set [] i d k block low same = absurd (omega (arith, low))
held-set (x ∷ xs) zero d k block low same = rw same refl
held-set (x ∷ xs) (suc i) d k block low same = rw (held-set xs i d k block (omega (arith, low)) same) refl

pub apart-set : (ks : List KeptBlock) (i : ℕ) (d k : KeptBlock) → AreApart (map holding ks) → i < length ks → k.block ≡ (get_or ks i d).block →
    AreApart (map holding (slice_set ks i k))
apart-set [] i d k apart low same = absurd (omega (arith, low))
apart-set (x ∷ xs) zero d k apart low same = rw same apart
apart-set (x ∷ xs) (suc i) d k apart low same =
    (apart.0, rw (held-set xs i d k x.block (omega (arith, low)) same) apart.1, apart-set xs i d k apart.2 (omega (arith, low)) same)

not-held-at : (ks : List KeptBlock) (i : ℕ) (d : KeptBlock) (block : Block) → is_held block (map holding ks) ≡ false → i < length ks →
    same_block (get_or ks i d).block block ≡ false
not-held-at [] i d block is low = absurd (omega (arith, low))
not-held-at (k ∷ ks) zero d block is low =
    elim (cases_Bool (same_block k.block block)) [ inl t ↦ absurd (grind (arith, t, is)) | inr f ↦ f ]
not-held-at (k ∷ ks) (suc i) d block is low =
    elim (cases_Bool (same_block k.block block)) [
      | inl t ↦ absurd (grind (arith, t, is))
      | inr f ↦ not-held-at ks i d block (rw f at is) (omega (arith, low))
    ]

-- a block that isn't held is not written
unwritten : (hs : List Holding) (block : Block) (off : ℕ) (more : List ℕ) → is_held block hs ≡ false → map (write_if block off more) hs ≡ hs
unwritten [] block off more is = refl
unwritten (h ∷ hs) block off more is =
    elim (cases_Bool (same_block h.block block)) [
      | inl t ↦ absurd (grind (arith, t, is))
      | inr f ↦ rw f (ap (λ s. h ∷ s) (unwritten hs block off more (rw f at is)))
    ]

-- a kept block with other bytes
pub rewritten : (ks : List KeptBlock) (i : ℕ) (d k : KeptBlock) (off : ℕ) (more : List ℕ) → AreApart (map holding ks) → i < length ks →
    k.name ≡ (get_or ks i d).name → k.block ≡ (get_or ks i d).block → byte_of k.bytes ≡ written (byte_of (get_or ks i d).bytes) off more →
    map holding (slice_set ks i k) ≡ map (write_if (get_or ks i d).block off more) (map holding ks)
rewritten [] i d k off more apart low name block bytes = absurd (omega (arith, low))
rewritten (x ∷ xs) zero d k off more apart low name block bytes =
    rw (name, block, bytes, same-itself x.block, unwritten (map holding xs) x.block off more apart.1) refl
rewritten (x ∷ xs) (suc i) d k off more apart low name block bytes =
    rw (same-turned (get_or xs i d).block x.block (not-held-at xs i d x.block apart.1 (omega (arith, low))))
    (ap (λ s. holding x ∷ s) (rewritten xs i d k off more apart.2 (omega (arith, low)) name block bytes))

-- a kept block with the same bytes
pub unchanged : (ks : List KeptBlock) (i : ℕ) (d k : KeptBlock) → i < length ks →
    k.name ≡ (get_or ks i d).name → k.block ≡ (get_or ks i d).block → byte_of k.bytes ≡ byte_of (get_or ks i d).bytes →
    map holding (slice_set ks i k) ≡ map holding ks
unchanged [] i d k low name block bytes = absurd (omega (arith, low))
unchanged (x ∷ xs) zero d k low name block bytes = rw (name, block, bytes) refl
unchanged (x ∷ xs) (suc i) d k low name block bytes = ap (λ s. holding x ∷ s) (unchanged xs i d k (omega (arith, low)) name block bytes)

-- ---- what a write says

pub where-ok : {A E : Type 0} {P Q : Type 0} (r : Result A E) → (P → Q) → OnOk r P → OnOk r Q
where-ok (Ok x) f h = f h
where-ok (Err e) f h = tt

pub where-err : {A E : Type 0} {P Q : Type 0} (r : Result A E) → (P → Q) → OnErr r P → OnErr r Q
where-err (Ok x) f h = tt
where-err (Err e) f h = f h

-- the kept block at the place of a name, with other bytes
abbrev pub with_bytes : KeptBlock → Laid → KeptBlock
with_bytes k bytes = record { name = k.name; block = k.block; bytes = bytes }

pub write-apart : (ks : List KeptBlock) (name : List ℕ) (i : ℕ) (k : KeptBlock) (bytes : Laid) → AreApart (map holding ks) →
    Some i ≡ position (λ (k : KeptBlock). bytes_eq k.name name) ks → k ≡ get_or ks i k →
    AreApart (map holding (slice_set ks i (with_bytes k bytes)))
write-apart ks name i k bytes apart is item =
    apart-set ks i k (with_bytes k bytes) apart (named-place ks name i k is).0 (ap (λ (k : KeptBlock). k.block) item)

pub write-same : (ks : List KeptBlock) (name : List ℕ) (i : ℕ) (k : KeptBlock) (bytes : Laid) →
    Some i ≡ position (λ (k : KeptBlock). bytes_eq k.name name) ks → k ≡ get_or ks i k → bytes.runs ≡ k.bytes.runs →
    map holding (slice_set ks i (with_bytes k bytes)) ≡ map holding ks
write-same ks name i k bytes is item same =
    unchanged ks i k (with_bytes k bytes) (named-place ks name i k is).0
    (ap (λ (k : KeptBlock). k.name) item) (ap (λ (k : KeptBlock). k.block) item)
    (let e : byte_of bytes ≡ byte_of k.bytes = rw same refl in e ∙ ap (λ (k : KeptBlock). byte_of k.bytes) item)

pub write-held : (ks : List KeptBlock) (name : List ℕ) (i : ℕ) (k : KeptBlock) (bytes : Laid) (off : ℕ) (more : List ℕ) (kept : ℕ) →
    AreApart (map holding ks) → Some i ≡ position (λ (k : KeptBlock). bytes_eq k.name name) ks → k ≡ get_or ks i k →
    Wrote off more kept k.bytes.runs bytes.runs →
    (h : Holding) → block_named (own_with (map holding ks)) name ≡ Some h →
    own_with (map holding (slice_set ks i (with_bytes k bytes))) ≡ with_bytes_at h.block off more (own_with (map holding ks))
write-held ks name i k bytes off more kept apart is item wrote h named =
    let place = named-place ks name i k is in
    let e : h ≡ holding (get_or ks i k) = same_Some _ _ (sym named ∙ place.1) in
    let b : byte_of bytes ≡ written (byte_of (get_or ks i k).bytes) off more =
    fun_ext wrote.bytes ∙ ap (λ (k : KeptBlock). written (byte_of k.bytes) off more) item in
    rw e
    (ap own_with (rewritten ks i k (with_bytes k bytes) off more apart place.0
    (ap (λ (k : KeptBlock). k.name) item) (ap (λ (k : KeptBlock). k.block) item) b))

-- ---- where a block ends after a write

ends-if : (block : Block) (at : ℕ) (more : List ℕ) (off len : ℕ) (h : Holding) → off + len ≤ block_bytes h.block →
    off + len ≤ block_bytes (write_if block at more h).block
ends-if block at more off len h ends =
    elim (cases_Bool (same_block h.block block)) [ inl t ↦ rw t ends | inr f ↦ rw f ends ]

pub name-if : (block : Block) (at : ℕ) (more : List ℕ) (h : Holding) → (write_if block at more h).name ≡ h.name
name-if block at more h = elim (cases_Bool (same_block h.block block)) [ inl t ↦ rw t refl | inr f ↦ rw f refl ]

ends-written : (block : Block) (at : ℕ) (more : List ℕ) (name : List ℕ) (off len : ℕ) (hs : List Holding) →
    EndsWithin (own_with hs) name off len → EndsWithin (own_with (map (write_if block at more) hs)) name off len
ends-written block at more name off len [] ends = ends
ends-written block at more name off len (h ∷ hs) ends =
    rw (name-if block at more h)
    (elim (cases_Bool (bytes_eq h.name name)) [
      | inl t ↦ rw t (ends-if block at more off len h (rw t at ends))
      | inr f ↦ rw f (ends-written block at more name off len hs (rw f at ends))
    ])

-- a write to a block moves the end of none
pub ends-after : (old new : List Holding) (one name : List ℕ) (at off len : ℕ) (more : List ℕ) → IsSome (block_named (own_with old) one) →
    ForSome (block_named (own_with old) one) (λ h. own_with new ≡ with_bytes_at h.block at more (own_with old)) →
    EndsWithin (own_with old) name off len → EndsWithin (own_with new) name off len
ends-after old new one name at off len more some wrote ends = found (block_named (own_with old) one) refl some
  where
    found : (o : Option Holding) → block_named (own_with old) one ≡ o → IsSome o → EndsWithin (own_with new) name off len
    found None is some = absurd (grind (arith, some))
    found (Some h) is some =
        subst (λ (own : Own). EndsWithin own name off len) (sym (wrote h is)) (ends-written h.block at more name off len old ends)

-- ---- what a load says

pub row-length : (bytes : ℕ → ℕ) (from count : ℕ) → length (row_of bytes from count) ≡ count
row-length bytes from zero = refl
row-length bytes from (suc count) = let h = row-length bytes (from + 1) count in omega (arith, h)

repeat-replicate : (count byte : ℕ) → replicate count byte ≡ repeat count (byte ∷ [])
repeat-replicate zero byte = refl
repeat-replicate (suc count) byte = ap (λ s. byte ∷ s) (repeat-replicate count byte)

-- the bytes up to a block's end, with zeros behind them
pub strayed-is : (h : Holding) (off size len : ℕ) (bytes resized : List ℕ) → size ≡ block_bytes h.block → off < size → size < off + 8 →
    bytes ≡ row_of h.bytes off (size - off) → len ≡ length bytes → resized ≡ take 8 bytes ++ replicate (8 - len) 0 →
    resized ≡ strayed_bytes h off
strayed-is h off size len bytes resized whole within past is count resize =
    let l : length bytes ≡ size - off = rw is (row-length h.bytes off (size - off)) in
    let t : take 8 bytes ≡ bytes = grind (arith, common_steps, l, within, past) in
    let n : 8 - len ≡ off + 8 - size = omega (arith, l, count, within, past) in
    rw (resize, t, n, is, repeat-replicate (off + 8 - size) 0, whole) refl
