-- Lemmas on a block that is held, found by itself.
use Rattle.std.proofs.Common.{◌≡◌, ℕ, zero, suc, ◌+◌, ◌<◌, List, [], ◌∷◌, true, false, Option, Some, None, Result, Ok, Err, IfOk, length, get_or, slice_set, map, find, arith, refl, sym, ap, ◌∙◌, inl, inr}
use Rattle.std.specs.List.{position, position_from}
use Rattle.std.specs.Option.{option_map, option_map_or}
use Rattle.std.proofs.lemmas.Bool.{cases_Bool}
use Rattle.std.proofs.lemmas.List.Quantifiers.{position-Some}
use Rattle.std.proofs.lemmas.Iterator.Adapters.{position_from-zero}
use Rattle.guest_base.specs.declared.memory.Block.{Block}
use Rattle.event_core.specs.Bytes.{row_of, written}
use Rattle.event_core.specs.Holdings.{Holding, same_block}
use Rattle.event_core.specs.Own.{with_bytes_at}
use Rattle.held_blocks.specs.declared.kept.KeptBlock.{KeptBlock}
use Rattle.held_blocks.specs.Held.{AreApart, IsInMemory, bytes_held, holding, holding_in, is_held, own_with, write_room}
use Rattle.held_blocks.proofs.HeldLemmas.{apart-at, apart-set, rewritten, row-length, unchanged, with_bytes}
use Rattle.sparse_bytes.specs.Runs.{byte_of, Laid, Wrote}
use mathlib.Core.Path.{fun_ext}

pub block-is : (a b : Block) → same_block a b ≡ true → a ≡ b
block-is a b same =
    let first : a.first ≡ b.first = grind (arith, same) in
    let order : a.order ≡ b.order = grind (arith, same) in
    ap (λ (n : ℕ). let block : Block = record { first = n; order = a.order } in block) first
    ∙ ap (λ (n : ℕ). let block : Block = record { first = b.first; order = n } in block) order

-- ---- the place of a block

-- the kept one at the first place of a block
kept-at : (ks : List KeptBlock) (block : Block) (i : ℕ) (d : KeptBlock) → i < length ks → same_block (get_or ks i d).block block ≡ true →
    ((j : ℕ) → j < i → same_block (get_or ks j d).block block ≡ false) →
    find (λ (k : KeptBlock). same_block k.block block) ks ≡ Some (get_or ks i d)
kept-at [] block i d low here before = absurd (omega (arith, low))
kept-at (k ∷ ks) block zero d low here before = rw here refl
kept-at (k ∷ ks) block (suc i) d low here before =
    rw (before 0 (omega arith)) (kept-at ks block i d (omega (arith, low)) here (λ j lower. before (suc j) (omega (arith, lower))))

held-as : (ks : List KeptBlock) (block : Block) →
    holding_in (map holding ks) block ≡ option_map holding (find (λ (k : KeptBlock). same_block k.block block) ks)
held-as [] block = refl
held-as (k ∷ ks) block =
    elim (cases_Bool (same_block k.block block)) [ inl t ↦ rw t refl | inr f ↦ rw f (held-as ks block) ]

-- what stands at the place of a block
pub record IsAt (ks : List KeptBlock) (block : Block) (i : ℕ) (d : KeptBlock) : Type 0 where
  pub inside : i < length ks
  pub same : same_block (get_or ks i d).block block ≡ true
  pub before : (j : ℕ) → j < i → same_block (get_or ks j d).block block ≡ false
  pub is : (get_or ks i d).block ≡ block
  pub kept : find (λ (k : KeptBlock). same_block k.block block) ks ≡ Some (get_or ks i d)
  pub holding : holding_in (map holding ks) block ≡ Some (holding (get_or ks i d))

pub block-place : (ks : List KeptBlock) (block : Block) (i : ℕ) (d : KeptBlock) → Some i ≡ position (λ (k : KeptBlock). same_block k.block block) ks →
    IsAt ks block i d
block-place ks block i d is =
    let facts = position-Some (λ (k : KeptBlock). same_block k.block block) ks i d (sym is) in
    let kept = kept-at ks block i d facts.0 facts.1 facts.2 in
    record {
      inside = facts.0;
      same = facts.1;
      before = facts.2;
      is = block-is (get_or ks i d).block block facts.1;
      kept = kept;
      holding = held-as ks block ∙ ap (option_map holding) kept;
    }

unplaced-from : (ks : List KeptBlock) (block : Block) (i : ℕ) → position_from (λ (k : KeptBlock). same_block k.block block) i ks ≡ None →
    is_held block (map holding ks) ≡ false
unplaced-from [] block i is = refl
unplaced-from (k ∷ ks) block i is =
    elim (cases_Bool (same_block k.block block)) [
      | inl t ↦ absurd (grind (arith, t, is))
      | inr f ↦ rw f (unplaced-from ks block (i + 1) (rw f at is))
    ]

-- a block that is held has a place
pub block-placed : (ks : List KeptBlock) (block : Block) → None ≡ position (λ (k : KeptBlock). same_block k.block block) ks →
    is_held block (map holding ks) ≡ true → ⊥
block-placed ks block is held =
    let none = unplaced-from ks block 0 (sym (position_from-zero (λ (k : KeptBlock). same_block k.block block) ks) ∙ sym is) in
    let clash : false ≡ true = sym none ∙ held in
    cc

-- ---- its bytes

pub place-memory : (ks : List KeptBlock) (block : Block) (i : ℕ) (d : KeptBlock) → AreApart (map holding ks) → IsAt ks block i d → IsInMemory block
place-memory ks block i d apart at = rw (← at.is) (apart-at ks i d apart at.inside)

pub place-apart : (ks : List KeptBlock) (block : Block) (i : ℕ) (k : KeptBlock) (bytes : Laid) → AreApart (map holding ks) → IsAt ks block i k →
    k ≡ get_or ks i k → AreApart (map holding (slice_set ks i (with_bytes k bytes)))
place-apart ks block i k bytes apart at item =
    apart-set ks i k (with_bytes k bytes) apart at.inside (ap (λ (k : KeptBlock). k.block) item)

pub place-same : (ks : List KeptBlock) (block : Block) (i : ℕ) (k : KeptBlock) (bytes : Laid) → IsAt ks block i k → k ≡ get_or ks i k →
    bytes.runs ≡ k.bytes.runs → map holding (slice_set ks i (with_bytes k bytes)) ≡ map holding ks
place-same ks block i k bytes at item same =
    unchanged ks i k (with_bytes k bytes) at.inside (ap (λ (k : KeptBlock). k.name) item) (ap (λ (k : KeptBlock). k.block) item)
    (let e : byte_of bytes ≡ byte_of k.bytes = rw same refl in e ∙ ap (λ (k : KeptBlock). byte_of k.bytes) item)

pub place-written : (ks : List KeptBlock) (block : Block) (i : ℕ) (k : KeptBlock) (bytes : Laid) (off : ℕ) (more : List ℕ) (kept : ℕ) →
    AreApart (map holding ks) → IsAt ks block i k → k ≡ get_or ks i k → Wrote off more kept k.bytes.runs bytes.runs →
    own_with (map holding (slice_set ks i (with_bytes k bytes))) ≡ with_bytes_at block off more (own_with (map holding ks))
place-written ks block i k bytes off more kept apart at item wrote =
    let b : byte_of bytes ≡ written (byte_of (get_or ks i k).bytes) off more =
    fun_ext wrote.bytes ∙ ap (λ (k : KeptBlock). written (byte_of k.bytes) off more) item in
    ap own_with
    (rewritten ks i k (with_bytes k bytes) off more apart at.inside (ap (λ (k : KeptBlock). k.name) item) (ap (λ (k : KeptBlock). k.block) item) b)
    ∙ ap (λ (b : Block). with_bytes_at b off more (own_with (map holding ks))) at.is

-- ---- its room

room-set : (ks : List KeptBlock) (block : Block) (i : ℕ) (d k : KeptBlock) → i < length ks → same_block (get_or ks i d).block block ≡ true →
    ((j : ℕ) → j < i → same_block (get_or ks j d).block block ≡ false) → k.block ≡ (get_or ks i d).block →
    find (λ (k : KeptBlock). same_block k.block block) (slice_set ks i k) ≡ Some k
room-set [] block i d k low here before same = absurd (omega (arith, low))
room-set (x ∷ xs) block zero d k low here before same = rw (same, here) refl
room-set (x ∷ xs) block (suc i) d k low here before same =
    rw (before 0 (omega arith)) (room-set xs block i d k (omega (arith, low)) here (λ j lower. before (suc j) (omega (arith, lower))) same)

pub place-room : (ks : List KeptBlock) (block : Block) (i : ℕ) (k : KeptBlock) (bytes : Laid) (room : ℕ) → IsAt ks block i k → k ≡ get_or ks i k →
    write_room (record { kept = slice_set ks i (with_bytes k bytes); room = room }) block ≡ bytes.room
place-room ks block i k bytes room at item =
    ap (λ (o : Option KeptBlock). option_map_or (λ (k : KeptBlock). k.bytes.room) o 0)
    (room-set ks block i k (with_bytes k bytes) at.inside at.same at.before (ap (λ (k : KeptBlock). k.block) item))

pub room-before : (ks : List KeptBlock) (block : Block) (i : ℕ) (k : KeptBlock) (room : ℕ) → IsAt ks block i k → k ≡ get_or ks i k →
    write_room (record { kept = ks; room = room }) block ≡ k.bytes.room
room-before ks block i k room at item =
    ap (λ (o : Option KeptBlock). option_map_or (λ (k : KeptBlock). k.bytes.room) o 0) (at.kept ∙ ap (λ (k : KeptBlock). Some k) (sym item))

-- ---- a range of its bytes

pub told-bytes : {E : Type 0} (hs : List Holding) (block : Block) (h : Holding) (off len : ℕ) (r : Result (List ℕ) E) → holding_in hs block ≡ Some h →
    IfOk r (λ bytes. bytes ≡ row_of h.bytes off len) → IfOk r (λ bytes. bytes ≡ bytes_held hs block off len)
told-bytes hs block h off len (Ok bytes) found is = rw found is
told-bytes hs block h off len (Err e) found is = is

pub told-count : {E : Type 0} (bytes : ℕ → ℕ) (off len : ℕ) (r : Result (List ℕ) E) →
    IfOk r (λ told. told ≡ row_of bytes off len) → IfOk r (λ told. length told ≡ len)
told-count bytes off len (Ok told) is = rw is (row-length bytes off len)
told-count bytes off len (Err e) is = is
