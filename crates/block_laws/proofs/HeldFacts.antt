-- The blocks that a processor has are guarded.
use Rattle.std.proofs.Common.{◌≡◌, ℕ, zero, suc, ◌+◌, ◌-◌, ◌*◌, ◌^◌, ◌<◌, ◌≤◌, Bool, true, false, ◌&&◌, Option, None, Some, List, [], ◌∷◌, ◌++◌, map, refl, sym, ◌∙◌, ap, subst, inl, inr, arith}
use Rattle.std.specs.Prelude.{not, find, bytes_eq, IfSome}
use Rattle.std.specs.List.{AllByRecursion, repeat}
use Rattle.std.specs.Option.{option_map, option_map_or}
use Rattle.std.proofs.lemmas.Bool.{cases_Bool, and_parts}
use Rattle.std.proofs.lemmas.Nat.{pow_pos}
use Rattle.std.proofs.Math.Nat.{pow-le-pow_right}
use Rattle.guest_base.specs.Ranges.{in_range}
use Rattle.guest_base.specs.Search.{first_such}
use Rattle.guest_base.specs.Blocks.{is_free_block, is_whole, lowest_free, pick}
use Rattle.guest_base.proofs.BlockFacts.{lowest_here, lowest_above, lowest_nothing}
use Rattle.guest_base.proofs.RangeLemmas.{in_range-intro, in_range-elim}
use Rattle.guest_base.proofs.SearchLemmas.{first_such-Some, each_such-true}
use Rattle.guest_base.specs.declared.memory.Block.{Block}
use Rattle.guest_base.specs.declared.memory.PageState.TheVariants.{Accepted}
use Rattle.guest_base.specs.declared.transfer.Direction.{Direction}
use Rattle.event_core.specs.declared.boot.Boot.{Boot}
use Rattle.event_core.specs.declared.command.Command.{Command}
use Rattle.event_core.specs.declared.command.Command.TheVariants as command
use Rattle.event_core.specs.declared.entry.Entry.{Entry}
use Rattle.event_core.specs.declared.event.Event.{Event}
use Rattle.event_core.specs.declared.event.Event.TheVariants as event
use Rattle.event_core.specs.declared.module_call.CallKind.TheVariants.{Accept}
use Rattle.event_core.specs.declared.module_call.ModuleCall.{ModuleCall}
use Rattle.event_core.specs.declared.reply.Reply.{Reply}
use Rattle.event_core.specs.declared.reply.Reply.TheVariants as reply
use Rattle.event_core.specs.Absent.{in_block}
use Rattle.event_core.specs.Blocks.{BlockState, Waits, InFlight, Loose, block_state, is_loose, is_owned, free_page}
use Rattle.event_core.specs.Calls.{States, calls_of}
use Rattle.event_core.specs.Cut.{cut}
use Rattle.event_core.specs.Holdings.{Holding, Mapping, Own, block_named, mapping_named, same_block}
use Rattle.event_core.specs.MemoryRows.{page_state, is_pending}
use Rattle.event_core.specs.Moved.{Moved}
use Rattle.event_core.specs.Own.{told, ended, after_alloc, after_free, after_write, after_map, after_sync, after_unmap, with_bytes_at, write_if}
use Rattle.event_core.specs.OwnRows.{page_behind}
use Rattle.event_core.specs.Runs.{state_in}
use Rattle.event_core.proofs.SoundLemmas.{state_after-append}
use Rattle.event_laws.proofs.TurnLemmas.{all-map}
use Rattle.block_laws.specs.Unconverting.{ConvertsNothing}
use Rattle.block_laws.specs.Guarded.{IsPlainCall, NonePending, StateStands, BlockStands, MemoryStands, IsGuarded, IsClear}
use Rattle.block_laws.proofs.ListFacts.{all-filter, found-one}
use Rattle.block_laws.proofs.PageFacts.{KeepsPrivate, private-while, accepted-while, private-accepted, not-pending-later}
use Rattle.block_laws.proofs.StandFacts.{plain-takes, accept-plain}
use Rattle.block_laws.proofs.CutPages.{CutPage, CutBlock}

-- ---- free pages

-- the calls leave a page of the cut private
keeps-private : (boot : Boot) (page : ℕ) → CutPage boot page → (calls : List ModuleCall) → AllByRecursion (IsPlainCall boot) calls → AllByRecursion (KeepsPrivate page) calls
keeps-private boot page at calls all = all-map (IsPlainCall boot) (KeepsPrivate page) one calls all where
  one : (call : ModuleCall) → IsPlainCall boot call → KeepsPrivate page call
  one call (inl accepts) = inl accepts
  one call (inr (pool, is, kind, first, count)) = inr (ap (λ f. in_range f call.count page) first ∙ ap (λ n. in_range pool.first n page) count ∙ at.outside pool is)

-- a page of the cut that isn't pending is accepted
pub cut-accepted : (boot : Boot) (page : ℕ) (calls : List ModuleCall) → CutPage boot page → AllByRecursion (IsPlainCall boot) calls → is_pending (page_state boot calls page) ≡ false → page_state boot calls page ≡ Some Accepted
cut-accepted boot page calls at all not =
    private-accepted (page_state boot calls page) (private-while (state_in boot.ram) calls page (keeps-private boot page at calls all) at.first) not

loose-clear : (boot : Boot) (memory : List Entry) (block : Block) (page : ℕ) → CutBlock boot block → AllByRecursion (IsPlainCall boot) (calls_of boot memory) → in_block page block ≡ true → NonePending boot (calls_of boot memory) block → IsClear boot (calls_of boot memory) page
loose-clear boot memory block page are all inside none =
    let two = in_range-elim block.first (2 ^ block.order) page inside in
    let low = two.0 in
    let high = two.1 in
    record {
      accepted = cut-accepted boot page (calls_of boot memory) (are.each page inside) all (none page (record { low = low; high = omega (arith, high) }));
      behind = none (page + 1) (record { low = omega (arith, low); high = omega (arith, high) });
    }

pub loose-stands : (boot : Boot) (memory : List Entry) (block : Block) (at : BlockState) → is_loose at ≡ true → StateStands boot memory block at → NonePending boot (calls_of boot memory) block
loose-stands boot memory block Waits loose stands = cc
loose-stands boot memory block (InFlight cpu) loose stands = cc
loose-stands boot memory block Loose loose stands = stands

-- what stands of each block of the cut
record Both (boot : Boot) (memory : List Entry) (block : Block) : Type 0 where
  pub cut : CutBlock boot block
  pub stands : BlockStands boot memory block

both-each : (boot : Boot) (memory : List Entry) (blocks : List Block) → AllByRecursion (CutBlock boot) blocks → AllByRecursion (BlockStands boot memory) blocks → AllByRecursion (Both boot memory) blocks
both-each boot memory [] cuts stands = tt
both-each boot memory (b ∷ blocks) cuts stands = (record { cut = cuts.0; stands = stands.0 }, both-each boot memory blocks cuts.1 stands.1)

pub free-clear : (boot : Boot) (memory : List Entry) (page : ℕ) → AllByRecursion (CutBlock boot) (cut boot) → MemoryStands boot memory → free_page boot memory page ≡ true → IsClear boot (calls_of boot memory) page
unfolding free_page
free-clear boot memory page cuts stands free = by_block (find (in_block page) (cut boot)) refl free where
  by_block : (found : Option Block) → find (in_block page) (cut boot) ≡ found
      → elim found as (λ _. Bool) [ None ↦ false | Some block ↦ is_loose (block_state boot memory block) && not (is_owned memory page) ] ≡ true → IsClear boot (calls_of boot memory) page
  by_block None at is = cc
  by_block (Some block) at is =
      let held = found-one (Both boot memory) (in_block page) (cut boot) block (both-each boot memory (cut boot) cuts stands.blocks) at in
      let loose = (and_parts (is_loose (block_state boot memory block)) (not (is_owned memory page)) is).0 in
      loose-clear boot memory block page held.0.cut stands.calls held.1 (loose-stands boot memory block (block_state boot memory block) loose held.0.stands)

-- ---- picked blocks

-- the pages of the lowest free block
lowest-pages : (free : ℕ → Bool) (order orders first : ℕ) → lowest_free free order orders ≡ Some first → (page : ℕ) → first ≤ page → page < first + 2 ^ order → free page ≡ true
lowest-pages free order zero first is page low high = let no : None ≡ Some first = sym (lowest_nothing free order) ∙ is in cc
lowest-pages free order (suc orders) first is page low high = by_number (λ above from to. lowest-pages free (order + 1) orders first above page from to) (first_such (is_free_block free order) 0 (2 ^ (28 - order))) refl where
  by_number : (lowest_free free (order + 1) orders ≡ Some first → first ≤ page → page < first + 2 ^ (order + 1) → free page ≡ true) → (found : Option ℕ) → first_such (is_free_block free order) 0 (2 ^ (28 - order)) ≡ found → free page ≡ true
  by_number later (Some number) at =
      let both : Some (number * 2 ^ order) ≡ Some first = sym (lowest_here free order orders number at) ∙ is in
      let same : number * 2 ^ order ≡ first = cc in
      let passes = (first_such-Some (is_free_block free order) 0 (2 ^ (28 - order)) number at).passes in
      let whole : is_whole free order number ≡ true = (and_parts _ _ passes).0 in
      (each_such-true free (number * 2 ^ order) (2 ^ order) whole).passes page (omega (arith, same, low)) (omega (arith, same, high))
  by_number later None at =
      let above : lowest_free free (order + 1) orders ≡ Some first = sym (lowest_above free order orders at) ∙ is in
      let less : order ≤ order + 1 = omega arith in
      let two : 0 < 2 = omega arith in
      let more : 2 ^ order ≤ 2 ^ (order + 1) = pow-le-pow_right {n = 2} two {i = order} {j = order + 1} less in
      later above low (omega (arith, high, more))

-- each page of a picked block is free
pub picked-free : (free : ℕ → Bool) (order : ℕ) (block : Block) → pick free order ≡ Some block → (page : ℕ) → in_block page block ≡ true → free page ≡ true
picked-free free order block is page inside = by_first (lowest_free free order (11 - order)) refl is where
  by_first : (found : Option ℕ) → lowest_free free order (11 - order) ≡ found → option_map (λ first. let b : Block = record { first = first; order = order } in b) found ≡ Some block → free page ≡ true
  by_first None at made = cc
  by_first (Some first) at made =
      let same : record { first = first; order = order } ≡ block = cc in
      let here = subst (λ (b : Block). in_block page b ≡ true) (sym same) inside in
      let two = in_range-elim first (2 ^ order) page here in
      lowest-pages free order (11 - order) first at page two.0 two.1

-- a picked block is guarded
pub picked-guarded : (boot : Boot) (memory : List Entry) (order : ℕ) (block : Block) → AllByRecursion (CutBlock boot) (cut boot) → MemoryStands boot memory → pick (free_page boot memory) order ≡ Some block → IsGuarded boot (calls_of boot memory) block
picked-guarded boot memory order block cuts stands is =
    let some = pow_pos block.order in
    let last : ℕ = block.first + 2 ^ block.order - 1 in
    let clear = λ (page : ℕ) (inside : in_block page block ≡ true). free-clear boot memory page cuts stands (picked-free (free_page boot memory) order block is page inside) in
    let end = clear last (in_range-intro block.first (2 ^ block.order) last (omega (arith, some)) (omega (arith, some))) in
    let next : last + 1 ≡ page_behind block = omega (arith, some) in
    record {
      pages = λ page inside. (clear page inside).accepted;
      behind = subst (λ p. is_pending (page_state boot (calls_of boot memory) p) ≡ false) next end.behind;
    }

-- a guarded block stays so
pub guarded-later : (boot : Boot) (calls more : List ModuleCall) (block : Block) → AllByRecursion (λ (call : ModuleCall). call.kind ≡ Accept) more → IsGuarded boot calls block → IsGuarded boot (calls ++ more) block
guarded-later boot calls more block all is = record {
  pages =
      λ page inside.
      ap (λ (states : States). states page) (state_after-append (state_in boot.ram) calls more)
      ∙ accepted-while (page_state boot calls) more page (all-map (λ (call : ModuleCall). call.kind ≡ Accept) (KeepsPrivate page) (λ call accepts. inl accepts) more all) (is.pages page inside);
  behind = not-pending-later boot calls more (page_behind block) (plain-takes boot more (accept-plain boot more all)) is.behind;
}

-- ---- what a processor has

-- its blocks are guarded
abbrev pub AreGuarded : Boot → List ModuleCall → Own → Type 0
AreGuarded boot calls own = AllByRecursion (λ (h : Holding). IsGuarded boot calls h.block) own.blocks

write-keeps : (boot : Boot) (calls : List ModuleCall) (block : Block) (at : ℕ) (more : List ℕ) (blocks : List Holding) → AllByRecursion (λ (h : Holding). IsGuarded boot calls h.block) blocks → AllByRecursion (λ (h : Holding). IsGuarded boot calls h.block) (map (write_if block at more) blocks)
write-keeps boot calls block at more [] all = tt
write-keeps boot calls block at more (h ∷ blocks) all =
    elim (cases_Bool (same_block h.block block)) [
      | inl t ↦ rw t (all.0, write-keeps boot calls block at more blocks all.1)
      | inr f ↦ rw f (all.0, write-keeps boot calls block at more blocks all.1)
    ]

alloc-keeps : (boot : Boot) (calls : List ModuleCall) (name : List ℕ) (e : Event) (own : Own) → ((block : Block) → e ≡ event.Got block → IsGuarded boot calls block) → AreGuarded boot calls own → AreGuarded boot calls (after_alloc name e own)
alloc-keeps boot calls name (event.Got block) own got are = (got block refl, are)
alloc-keeps boot calls name _ own got are = are

free-keeps : (boot : Boot) (calls : List ModuleCall) (name : List ℕ) (e : Event) (own : Own) → AreGuarded boot calls own → AreGuarded boot calls (after_free name e own)
free-keeps boot calls name (event.Freed block) own are = all-filter (λ (h : Holding). IsGuarded boot calls h.block) (λ (h : Holding). not (bytes_eq h.name name)) own.blocks are
free-keeps boot calls name _ own are = are

bytes-keep : (boot : Boot) (calls : List ModuleCall) (held : Option Holding) (off : ℕ) (more : List ℕ) (own : Own) → AreGuarded boot calls own → AreGuarded boot calls (option_map_or (λ (h : Holding). with_bytes_at h.block off more own) held own)
bytes-keep boot calls None off more own are = are
bytes-keep boot calls (Some h) off more own are = write-keeps boot calls h.block off more own.blocks are

written-keeps : (boot : Boot) (calls : List ModuleCall) (name : List ℕ) (off : ℕ) (more : List ℕ) (told_ : Option Reply) (own : Own) → AreGuarded boot calls own → AreGuarded boot calls (after_write name off more told_ own)
written-keeps boot calls name off more None own are = are
written-keeps boot calls name off more (Some reply.Done) own are = bytes-keep boot calls (block_named own name) off more own are
written-keeps boot calls name off more (Some _) own are = are

map-keeps : (boot : Boot) (calls : List ModuleCall) (mapping name : List ℕ) (off : ℕ) (direction : Direction) (e : Event) (own : Own) → AreGuarded boot calls own → AreGuarded boot calls (after_map mapping name off direction e own)
map-keeps boot calls mapping name off direction (event.Looked area (Some run)) own are = by_held (block_named own name) where
  by_held : (held : Option Holding) → AreGuarded boot calls (option_map_or (λ (h : Holding). record own { mappings = record { name = mapping; run = run; block = h.block; off = off; direction = direction } ∷ own.mappings }) held own)
  by_held None = are
  by_held (Some h) = are
map-keeps boot calls mapping name off direction (event.Looked area None) own are = are
map-keeps boot calls mapping name off direction _ own are = are

copied-keeps : (boot : Boot) (calls : List ModuleCall) (held : Option Mapping) (off : ℕ) (more : List ℕ) (own : Own) → AreGuarded boot calls own → AreGuarded boot calls (option_map_or (λ (m : Mapping). with_bytes_at m.block (m.off + off) more own) held own)
copied-keeps boot calls None off more own are = are
copied-keeps boot calls (Some m) off more own are = write-keeps boot calls m.block (m.off + off) more own.blocks are

sync-keeps : (boot : Boot) (calls : List ModuleCall) (mapping : List ℕ) (more : List ℕ) (e : Event) (own : Own) → AreGuarded boot calls own → AreGuarded boot calls (after_sync mapping more e own)
sync-keeps boot calls mapping more (event.CopiedOut run off len) own are = copied-keeps boot calls (mapping_named own mapping) off more own are
sync-keeps boot calls mapping more _ own are = are

unmap-keeps : (boot : Boot) (calls : List ModuleCall) (mapping more : List ℕ) (e : Event) (own : Own) → AreGuarded boot calls own → AreGuarded boot calls (after_unmap mapping more e own)
unmap-keeps boot calls mapping more (event.Released run true) own are = copied-keeps boot calls (mapping_named own mapping) 0 more own are
unmap-keeps boot calls mapping more (event.Released run false) own are = are
unmap-keeps boot calls mapping more _ own are = are

told-keeps : (boot : Boot) (calls : List ModuleCall) (c : Option Command) (m : Moved) (own : Own) → IfSome c ConvertsNothing → ((block : Block) → m.entry.event ≡ event.Got block → IsGuarded boot calls block) → AreGuarded boot calls own → AreGuarded boot calls (told c m own)
told-keeps boot calls None m own is got are = are
told-keeps boot calls (Some (command.Alloc name order)) m own is got are = alloc-keeps boot calls name m.entry.event own got are
told-keeps boot calls (Some (command.Free name)) m own is got are = free-keeps boot calls name m.entry.event own are
told-keeps boot calls (Some (command.Write name off hex)) m own is got are = written-keeps boot calls name off hex m.entry.reply own are
told-keeps boot calls (Some (command.Fill name off len byte)) m own is got are = written-keeps boot calls name off (repeat len (byte ∷ [])) m.entry.reply own are
told-keeps boot calls (Some (command.Share name)) m own is got are = absurd is
told-keeps boot calls (Some (command.Private name)) m own is got are = absurd is
told-keeps boot calls (Some (command.Giveback name)) m own is got are = absurd is
told-keeps boot calls (Some (command.Map mapping name off len direction mask)) m own is got are = map-keeps boot calls mapping name off direction m.entry.event own are
told-keeps boot calls (Some (command.SyncCpu mapping off len)) m own is got are = sync-keeps boot calls mapping m.bytes m.entry.event own are
told-keeps boot calls (Some (command.Unmap mapping skip)) m own is got are = unmap-keeps boot calls mapping m.bytes m.entry.event own are
told-keeps boot calls (Some _) m own is got are = are

ended-keeps : (boot : Boot) (calls : List ModuleCall) (r : Option Reply) (own : Own) → AreGuarded boot calls own → AreGuarded boot calls (ended r own)
ended-keeps boot calls None own are = are
ended-keeps boot calls (Some r) own are = are

-- one more entry of its own
pub own-step-keeps : (boot : Boot) (calls : List ModuleCall) (m : Moved) (own : Own) → (c : Option Command) → IfSome c ConvertsNothing → ((block : Block) → m.entry.event ≡ event.Got block → IsGuarded boot calls block) → AreGuarded boot calls own → AreGuarded boot calls (ended m.entry.reply (told c m own))
own-step-keeps boot calls m own c is got are = ended-keeps boot calls m.entry.reply (told c m own) (told-keeps boot calls c m own is got are)

pub guarded-all-later : (boot : Boot) (calls more : List ModuleCall) (own : Own) → AllByRecursion (λ (call : ModuleCall). call.kind ≡ Accept) more → AreGuarded boot calls own → AreGuarded boot (calls ++ more) own
guarded-all-later boot calls more own all are =
    all-map (λ (h : Holding). IsGuarded boot calls h.block) (λ (h : Holding). IsGuarded boot (calls ++ more) h.block) (λ h is. guarded-later boot calls more h.block all is) own.blocks are
