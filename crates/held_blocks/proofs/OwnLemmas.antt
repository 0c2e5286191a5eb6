-- Lemmas on what a processor has after a call.
use Rattle.std.proofs.Common.{◌≡◌, ℕ, ◌+◌, ◌≤◌, List, ◌∷◌, Option, Some, None, Result, Ok, Err, IfOk, length, arith, refl, sym, ap, subst, ◌∙◌}
use Rattle.std.specs.Option.{option_map, ForSome, IsSome, IsSomeAnd}
use Rattle.std.proofs.lemmas.Option.{same_Some}
use Rattle.guest_base.specs.declared.memory.Block.{Block}
use Rattle.guest_base.specs.declared.transfer.Direction.{Direction}
use Rattle.guest_base.specs.declared.transfer.SlotRun.{SlotRun}
use Rattle.event_core.specs.declared.event.Event.TheVariants.{Looked}
use Rattle.event_core.specs.Bytes.{row_of}
use Rattle.event_core.specs.Holdings.{Holding, Mapping, Own, block_bytes, block_named, mapping_named}
use Rattle.event_core.specs.Own.{after_map, copied_out, with_bytes_at}
use Rattle.event_core.specs.PoolBytes.{block_bytes_of}
use Rattle.dma_map.specs.Kept.{Kept, live_of, mapping_by}
use Rattle.dma_map.specs.declared.kept.Live.{Live}
use Rattle.held_blocks.specs.Held.{Held, blocks_of, bytes_held}
use Rattle.held_blocks.specs.Holdings.{own_by, IsOfHeld}
use Rattle.held_blocks.proofs.HeldLemmas.{row-length}
use Rattle.held_blocks.proofs.MappedLemmas.{named_in, of-block}

-- the same with these mappings and looks
abbrev pub with_rest : Kept → ℕ → Own → Own
with_rest kept looks own = record own { mappings = kept.mappings; looks = looks }

pub own-blocks : (old new : Held) (kept : Kept) (looks : ℕ) → blocks_of new ≡ blocks_of old → own_by new kept looks ≡ own_by old kept looks
own-blocks old new kept looks same =
    ap (λ (hs : List Holding). let own : Own = record { blocks = hs; mappings = kept.mappings; looks = looks; converting = None } in own) same

pub own-mappings : (held : Held) (old new : Kept) (looks : ℕ) → new.mappings ≡ old.mappings → own_by held new looks ≡ own_by held old looks
own-mappings held old new looks same =
    ap (λ (ms : List Mapping). let own : Own = record { blocks = blocks_of held; mappings = ms; looks = looks; converting = None } in own) same

-- ---- names

pub none-mapped : {A B : Type 0} (f : A → B) (o : Option A) → None ≡ option_map f o → IsSome o → ⊥
none-mapped f None is some = grind (arith, some)
none-mapped f (Some x) is some = grind (arith, is)

-- the block of a name that ends behind a range
pub ends-block : (o : Option Holding) (block : Block) (off len : ℕ) → option_map (λ (h : Holding). h.block) o ≡ Some block →
    IsSomeAnd o (λ (h : Holding). off + len ≤ block_bytes h.block) → off + len ≤ block_bytes block
ends-block None block off len is ends = absurd ends
ends-block (Some h) block off len is ends = subst (λ (b : Block). off + len ≤ block_bytes b) (same_Some _ _ is) ends

pub count-of : {E : Type 0} (r : Result (List ℕ) E) (o : Option Holding) (off len : ℕ) → IsSome o →
    IfOk r (λ bytes. ForSome o (λ (h : Holding). bytes ≡ row_of h.bytes off len)) → IfOk r (λ bytes. length bytes ≡ len)
count-of (Err e) o off len some told = told
count-of (Ok bytes) None off len some told = absurd (grind (arith, some))
count-of (Ok bytes) (Some h) off len some told = rw (told h refl) (row-length h.bytes off len)

-- ---- mappings

-- the live mapping that was found
pub live-is : (o : Option Mapping) (live : Live) (m : Mapping) → option_map live_of o ≡ Some live → o ≡ Some m → live_of m ≡ live
live-is o live m found is = same_Some _ _ (ap (option_map live_of) (sym is) ∙ found)

pub live-some : (o : Option Mapping) (live : Live) → option_map live_of o ≡ Some live → (m : Mapping) × (o ≡ Some m) × (live_of m ≡ live)
live-some None live found = absurd (grind (arith, found))
live-some (Some m) live found = (m, refl, same_Some _ _ found)

pub part-live : (o : Option Mapping) (live : Live) (off len : ℕ) → option_map live_of o ≡ Some live →
    IsSomeAnd o (λ (m : Mapping). off + len ≤ m.run.len) → off + len ≤ live.run.len
part-live None live off len found part = absurd part
part-live (Some m) live off len found part = subst (λ (l : Live). off + len ≤ l.run.len) (same_Some _ _ found) part

pub part-told : {E : Type 0} (r : Result (List ℕ) E) (own : Own) (o : Option Mapping) (live : Live) (off len : ℕ) → option_map live_of o ≡ Some live →
    IfOk r (λ bytes. bytes ≡ bytes_held own.blocks live.block (live.off + off) len) →
    IfOk r (λ bytes. ForSome o (λ (m : Mapping). bytes ≡ block_bytes_of own m off len))
part-told (Err e) own o live off len found told = told
part-told (Ok bytes) own o live off len found told =
    λ m is. subst (λ (l : Live). bytes ≡ bytes_held own.blocks l.block (l.off + off) len) (sym (live-is o live m found is)) told

-- a look that found slots makes a mapping
pub map-made : (own : Own) (mapping name : List ℕ) (off : ℕ) (direction : Direction) (run : SlotRun) (block : Block) (live : Live) (area : ℕ) →
    option_map (λ (h : Holding). h.block) (block_named own name) ≡ Some block →
    live ≡ record { run = run; block = block; off = off; direction = direction } →
    record own { mappings = mapping_by mapping live ∷ own.mappings } ≡ after_map mapping name off direction (Looked area (Some run)) own
map-made own mapping name off direction run block live area named is = of (block_named own name) refl named
  where
    of : (o : Option Holding) → block_named own name ≡ o → option_map (λ (h : Holding). h.block) o ≡ Some block →
        record own { mappings = mapping_by mapping live ∷ own.mappings } ≡ after_map mapping name off direction (Looked area (Some run)) own
    of None at named = absurd (grind (arith, named))
    of (Some h) at named =
        let same : h.block ≡ block = same_Some _ _ named in
        rw (at, is, same) refl

-- bytes that were copied out stand in the mapping's block
pub copy-made : (own : Own) (mapping : List ℕ) (live : Live) (off : ℕ) (more : List ℕ) → option_map live_of (mapping_named own mapping) ≡ Some live →
    with_bytes_at live.block (live.off + off) more own ≡ copied_out mapping off more own
copy-made own mapping live off more found = of (mapping_named own mapping) refl found
  where
    of : (o : Option Mapping) → mapping_named own mapping ≡ o → option_map live_of o ≡ Some live →
        with_bytes_at live.block (live.off + off) more own ≡ copied_out mapping off more own
    of None at found = absurd (grind (arith, found))
    of (Some m) at found =
        subst (λ (l : Live). with_bytes_at l.block (l.off + off) more own ≡ copied_out mapping off more own) (same_Some _ _ found) (rw at refl)

-- the mapping of bytes of the block of a name
pub of-live : (hs : List Holding) (name mapping : List ℕ) (off : ℕ) (direction : Direction) (run : SlotRun) (block : Block) (live : Live) →
    option_map (λ (h : Holding). h.block) (named_in hs name) ≡ Some block →
    IsSomeAnd (named_in hs name) (λ (h : Holding). off + run.len ≤ block_bytes h.block) →
    live ≡ record { run = run; block = block; off = off; direction = direction } → IsOfHeld hs (mapping_by mapping live)
of-live hs name mapping off direction run block live named ends is = of (named_in hs name) refl named ends
  where
    of : (o : Option Holding) → named_in hs name ≡ o → option_map (λ (h : Holding). h.block) o ≡ Some block →
        IsSomeAnd o (λ (h : Holding). off + run.len ≤ block_bytes h.block) → IsOfHeld hs (mapping_by mapping live)
    of None at named ends = absurd ends
    of (Some h) at named ends =
        let same : h.block ≡ block = same_Some _ _ named in
        rw is (of-block hs name h _ at same (subst (λ (b : Block). off + run.len ≤ block_bytes b) same ends))
