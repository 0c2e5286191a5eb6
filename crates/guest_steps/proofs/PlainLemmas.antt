use Rattle.std.proofs.Common.{◌≡◌, ℕ, ◌+◌, true, false, Option, None, Some, List, [], ◌∷◌, inl, inr, refl, map, slice_get}
use Rattle.std.specs.Prelude.{All, IfSome, bytes_eq, fold, not}
use Rattle.std.specs.List.{repeat}
use Rattle.std.specs.Option.{option_map_or}
use Rattle.std.proofs.lemmas.Bool.{cases_Bool}
use Rattle.std.proofs.lemmas.List.Elements.{All-nil, All-cons, All-filter, All-map, All-weaker}
use Rattle.guest_base.specs.declared.memory.Block.{Block}
use Rattle.guest_base.specs.declared.transfer.Direction.{Direction}
use Rattle.guest_base.specs.declared.transfer.SlotRun.{SlotRun}
use Rattle.event_core.specs.declared.command.Command.{Command}
use Rattle.event_core.specs.declared.command.Command.TheVariants as command
use Rattle.event_core.specs.declared.event.Event.{Event}
use Rattle.event_core.specs.declared.event.Event.TheVariants as event
use Rattle.event_core.specs.declared.reply.Reply.{Reply}
use Rattle.event_core.specs.declared.reply.Reply.TheVariants.{Done}
use Rattle.event_core.specs.Bytes.{zeros}
use Rattle.event_core.specs.Holdings.{Holding, Mapping, Own, PrivateBlock, block_named, mapping_named, same_block}
use Rattle.event_core.specs.Moved.{Moved}
use Rattle.event_core.specs.Own.{after_alloc, after_free, after_map, after_sync, after_unmap, after_write, ended, nothing, own_of, own_step, told, with_bytes_at, write_if}
use Rattle.block_laws.specs.Unconverting.{ConvertsNothing}
use Rattle.guest_steps.specs.Plain.{IsPlain}
use Rattle.guest_steps.specs.Seen.{Seen, own_now}
use Rattle.guest_steps.proofs.BeginningLemmas.{all-got}

-- What a processor has whose commands convert nothing.

abbrev IsPrivate : Holding → Type 0
IsPrivate h = h.sharing ≡ PrivateBlock

with-blocks : (own : Own) (blocks : List Holding) → IsPlain own → All IsPrivate blocks → IsPlain (record own { blocks = blocks })
with-blocks own blocks p private = record { converting = p.converting; private = private }

plain-alloc : (name : List ℕ) (e : Event) (own : Own) → IsPlain own → IsPlain (after_alloc name e own)
plain-alloc name (event.Got block) own p =
    let h : Holding = record { name = name; block = block; sharing = PrivateBlock; bytes = zeros } in
    with-blocks own (h ∷ own.blocks) p (All-cons IsPrivate h own.blocks refl p.private)
plain-alloc name _ own p = p

plain-free : (name : List ℕ) (e : Event) (own : Own) → IsPlain own → IsPlain (after_free name e own)
plain-free name (event.Freed block) own p = with-blocks own _ p (All-filter (λ (h : Holding). not (bytes_eq h.name name)) IsPrivate own.blocks p.private)
plain-free name _ own p = p

private-written : (block : Block) (at : ℕ) (more : List ℕ) (h : Holding) → IsPrivate h → IsPrivate (write_if block at more h)
private-written block at more h is =
    elim (cases_Bool (same_block h.block block)) [
      | inl t ↦ rw t is
      | inr f ↦ rw f is
    ]

plain-at : (block : Block) (at : ℕ) (more : List ℕ) (own : Own) → IsPlain own → IsPlain (with_bytes_at block at more own)
plain-at block at more own p =
    with-blocks own (map (write_if block at more) own.blocks) p
    (All-map IsPrivate (write_if block at more) own.blocks (All-weaker IsPrivate (λ g. IsPrivate (write_if block at more g)) (λ g is. private-written block at more g is) own.blocks p.private))

plain-bytes : (held : Option Holding) (off : ℕ) (more : List ℕ) (own : Own) → IsPlain own → IsPlain (option_map_or (λ (h : Holding). with_bytes_at h.block off more own) held own)
plain-bytes None off more own p = p
plain-bytes (Some h) off more own p = plain-at h.block off more own p

plain-write : (name : List ℕ) (off : ℕ) (more : List ℕ) (reply : Option Reply) (own : Own) → IsPlain own → IsPlain (after_write name off more reply own)
plain-write name off more (Some Done) own p = plain-bytes (block_named own name) off more own p
plain-write name off more (Some _) own p = p
plain-write name off more None own p = p

plain-mapped : (held : Option Holding) (mapping : List ℕ) (run : SlotRun) (off : ℕ) (direction : Direction) (own : Own) → IsPlain own
    → IsPlain (option_map_or (λ (h : Holding). record own { mappings = record { name = mapping; run = run; block = h.block; off = off; direction = direction } ∷ own.mappings }) held own)
plain-mapped None mapping run off direction own p = p
plain-mapped (Some h) mapping run off direction own p = record { converting = p.converting; private = p.private }

plain-map : (mapping name : List ℕ) (off : ℕ) (direction : Direction) (e : Event) (own : Own) → IsPlain own → IsPlain (after_map mapping name off direction e own)
plain-map mapping name off direction (event.Looked area (Some run)) own p = plain-mapped (block_named own name) mapping run off direction own p
plain-map mapping name off direction (event.Looked area None) own p = record { converting = p.converting; private = p.private }
plain-map mapping name off direction _ own p = p

plain-copied : (held : Option Mapping) (off : ℕ) (more : List ℕ) (own : Own) → IsPlain own → IsPlain (option_map_or (λ (m : Mapping). with_bytes_at m.block (m.off + off) more own) held own)
plain-copied None off more own p = p
plain-copied (Some m) off more own p = plain-at m.block (m.off + off) more own p

plain-sync : (mapping : List ℕ) (more : List ℕ) (e : Event) (own : Own) → IsPlain own → IsPlain (after_sync mapping more e own)
plain-sync mapping more (event.CopiedOut run off len) own p = plain-copied (mapping_named own mapping) off more own p
plain-sync mapping more _ own p = p

plain-unmap : (mapping more : List ℕ) (e : Event) (own : Own) → IsPlain own → IsPlain (after_unmap mapping more e own)
plain-unmap mapping more (event.Released run true) own p =
    let copied = plain-copied (mapping_named own mapping) 0 more own p in
    record { converting = copied.converting; private = copied.private }
plain-unmap mapping more (event.Released run false) own p = record { converting = p.converting; private = p.private }
plain-unmap mapping more _ own p = p

plain-told : (c : Option Command) (m : Moved) (own : Own) → IfSome c ConvertsNothing → IsPlain own → IsPlain (told c m own)
plain-told (Some (command.Alloc name order)) m own is p = plain-alloc name m.entry.event own p
plain-told (Some (command.Free name)) m own is p = plain-free name m.entry.event own p
plain-told (Some (command.Write name off hex)) m own is p = plain-write name off hex m.entry.reply own p
plain-told (Some (command.Fill name off len byte)) m own is p = plain-write name off (repeat len (byte ∷ [])) m.entry.reply own p
plain-told (Some (command.Share name)) m own is p = absurd is
plain-told (Some (command.Private name)) m own is p = absurd is
plain-told (Some (command.Giveback name)) m own is p = absurd is
plain-told (Some (command.Map mapping name off len direction mask)) m own is p = plain-map mapping name off direction m.entry.event own p
plain-told (Some (command.SyncCpu mapping off len)) m own is p = plain-sync mapping m.bytes m.entry.event own p
plain-told (Some (command.Unmap mapping skip)) m own is p = plain-unmap mapping m.bytes m.entry.event own p
plain-told _ m own is p = p

plain-ended : (reply : Option Reply) (own : Own) → IsPlain own → IsPlain (ended reply own)
plain-ended None own p = p
plain-ended (Some reply) own p = record { converting = p.converting; private = p.private }

at-present : (script : List Command) (n : ℕ) → All ConvertsNothing script → (found : Option Command) → slice_get script n ≡ found → IfSome found ConvertsNothing
at-present script n all None is = tt
at-present script n all (Some c) is = all-got ConvertsNothing script n c all is

plain-from : (script : List Command) → All ConvertsNothing script → (own : Own) (moved : List Moved) → IsPlain own → IsPlain (fold (own_step script) own moved)
plain-from script all own [] p = p
plain-from script all own (m ∷ ms) p =
    let c = slice_get script m.entry.cmd in
    plain-from script all (own_step script own m) ms (plain-ended m.entry.reply (told c m own) (plain-told c m own (at-present script m.entry.cmd all c refl) p))

-- its blocks are private, and none is converting
pub plain-own : (c : Seen) → All ConvertsNothing c.script → IsPlain (own_now c)
unfolding own_of
plain-own c all = plain-from c.script all nothing (c.moved) (record { converting = refl; private = All-nil IsPrivate })
