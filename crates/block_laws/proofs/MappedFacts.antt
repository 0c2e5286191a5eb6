-- The block of a live mapping is held by the mapping's processor: a command that would give up a mapped block is refused.
use Rattle.std.proofs.Common.{◌≡◌, ℕ, ◌+◌, ◌*◌, ◌≤◌, Bool, true, false, not, Option, None, Some, List, [], ◌∷◌, ◌++◌, map, filter, refl, sym, ◌∙◌, ap, subst, inl, inr, cond, eqb-true, eq-eqb}
use Rattle.std.specs.Prelude.{◌==◌, ◌||◌, bytes_eq, find, is_some}
use Rattle.std.specs.List.{AllByRecursion, list_any, repeat}
use Rattle.std.specs.Option.{option_and_then, option_map, option_map_or}
use Rattle.std.proofs.lemmas.Bool.{cases_Bool}
use Rattle.std.proofs.lemmas.Slice.Eq.{bytes_eq-Decides}
use Rattle.guest_base.specs.declared.limits.TheConstants.{PAGE_BYTES}
use Rattle.guest_base.specs.declared.memory.Block.{Block}
use Rattle.guest_base.specs.declared.transfer.Direction.{Direction}
use Rattle.guest_base.specs.declared.transfer.Request.{Request}
use Rattle.guest_base.specs.declared.transfer.SlotRun.{SlotRun}
use Rattle.guest_base.specs.Requests.{request_of}
use Rattle.guest_base.specs.Slots.{choose}
use Rattle.event_core.specs.declared.boot.Boot.{Boot}
use Rattle.event_core.specs.declared.command.Command.{Command}
use Rattle.event_core.specs.declared.command.Command.TheVariants as command
use Rattle.event_core.specs.declared.entry.Entry.{Entry}
use Rattle.event_core.specs.declared.event.ConvertEnd.TheVariants as end
use Rattle.event_core.specs.declared.event.Event.{Event}
use Rattle.event_core.specs.declared.event.Event.TheVariants as event
use Rattle.event_core.specs.declared.module_call.ModuleCall.{ModuleCall}
use Rattle.event_core.specs.declared.reply.Reply.{Reply}
use Rattle.event_core.specs.declared.reply.Reply.TheVariants as reply
use Rattle.event_core.specs.AreaRows.{area_looked_in}
use Rattle.event_core.specs.Bytes.{written, zeros}
use Rattle.event_core.specs.Calls.{calls_in}
use Rattle.event_core.specs.Holdings.{Sharing, PrivateBlock, SharedBlock, HalfBlock, Holding, Mapping, Own, block_named, mapping_named, is_mapped, same_block, block_bytes}
use Rattle.event_core.specs.Legal.{Follows, LegalAfter, Legal, with_bytes, with_moved, moved_after, at_place}
use Rattle.event_core.specs.Moved.{Moved, entries_of}
use Rattle.event_core.specs.Next.{Step, step_of, unrefused_step, look_step}
use Rattle.event_core.specs.Own.{told, ended, own_step, own_of, script_of, share_if, write_if, clear_if, with_sharing, with_bytes_at, with_zeros, without_block, without_mapping, after_alloc, after_free, after_write, after_share, after_private, after_giveback, after_map, after_sync, after_unmap, copied_out}
use Rattle.event_core.specs.Pool.{live_runs, is_used, area_slots, hint_of, run_for, run_found}
use Rattle.event_core.specs.Refusals.{refuse, unknown_or, unless_private, give_refusal, map_refusal, refusal_of}
use Rattle.event_core.proofs.CommandLemmas.{command-of, some-same, step_told}
use Rattle.event_core.proofs.RefusalLemmas.{unrefused, refuse-none, private-none, map-within}
use Rattle.event_laws.proofs.TurnLemmas.{all-map}
use Rattle.block_laws.specs.Apart.{own_after}
use Rattle.block_laws.specs.Mapped.{IsOfHeldBlock, EachMappedHeld}
use Rattle.block_laws.proofs.ListFacts.{all-filter, all-with}
use Rattle.block_laws.proofs.GrowFacts.{own-grows, own-same}

-- ---- blocks by name

abbrev pub named : List ℕ → List Holding → Option Holding
named name held = find (λ (h : Holding). bytes_eq h.name name) held

-- a block of some name is the mapping's, and has its bytes
pub record IsNamed (held : List Holding) (m : Mapping) : Type 0 where
  pub name : List ℕ
  pub holding : Holding
  pub found : named name held ≡ Some holding
  pub block : holding.block ≡ m.block
  pub within : m.off + m.run.len ≤ block_bytes m.block

abbrev pub AreNamed : List Holding → List Mapping → Type 0
AreNamed held mappings = AllByRecursion (IsNamed held) mappings

-- What stands of a processor's mappings after each of its entries.
abbrev pub MappingsNamed : Own → Type 0
MappingsNamed own = AreNamed own.blocks own.mappings

-- the holding of a name among others, with a block of its own
record KeepsName (held now : List Holding) (name : List ℕ) (h : Holding) : Type 0 where
  pub holding : Holding
  pub found : named name now ≡ Some holding
  pub block : holding.block ≡ h.block

still-named : (held now : List Holding) (m : Mapping) (is : IsNamed held m) → KeepsName held now is.name is.holding → IsNamed now m
still-named held now m is keeps = record { name = is.name; holding = keeps.holding; found = keeps.found; block = keeps.block ∙ is.block; within = is.within }

all-named : (held now : List Holding) (mappings : List Mapping) → ((name : List ℕ) (h : Holding) → named name held ≡ Some h → KeepsName held now name h) → AreNamed held mappings → AreNamed now mappings
all-named held now mappings keeps all = all-map (IsNamed held) (IsNamed now) (λ m is. still-named held now m is (keeps is.name is.holding is.found)) mappings all

-- ---- holdings that keep their names and blocks

record SameHolding (h g : Holding) : Type 0 where
  pub name : g.name ≡ h.name
  pub block : g.block ≡ h.block

map-keeps : (f : Holding → Holding) → ((h : Holding) → SameHolding h (f h)) → (held : List Holding) (name : List ℕ) (h : Holding) → named name held ≡ Some h → KeepsName held (map f held) name h
map-keeps f same [] name h is = cc
map-keeps f same (g ∷ held) name h is =
    let test : bytes_eq (f g).name name ≡ bytes_eq g.name name = ap (λ n. bytes_eq n name) (same g).name in
    elim (cases_Bool (bytes_eq g.name name)) [
      | inl t ↦
          (let here : Some g ≡ Some h = sym (ap (λ (b : Bool). cond b (Some g) (named name held)) t) ∙ is in
          let one : g ≡ h = cc in
          record {
            holding = f g;
            found = ap (λ (b : Bool). cond b (Some (f g)) (named name (map f held))) (test ∙ t);
            block = (same g).block ∙ ap (λ (x : Holding). x.block) one;
          })
      | inr not ↦
          (let there = map-keeps f same held name h (sym (ap (λ (b : Bool). cond b (Some g) (named name held)) not) ∙ is) in
          record {
            holding = there.holding;
            found = ap (λ (b : Bool). cond b (Some (f g)) (named name (map f held))) (test ∙ not) ∙ there.found;
            block = there.block;
          })
    ]

share-same : (block : Block) (sharing : Sharing) (h : Holding) → SameHolding h (share_if block sharing h)
share-same block sharing h = by_test (same_block h.block block) where
  by_test : (b : Bool) → SameHolding h (cond b (record h { sharing = sharing }) h)
  by_test true = record { name = refl; block = refl }
  by_test false = record { name = refl; block = refl }

write-same : (block : Block) (at : ℕ) (more : List ℕ) (h : Holding) → SameHolding h (write_if block at more h)
write-same block at more h = by_test (same_block h.block block) where
  by_test : (b : Bool) → SameHolding h (cond b (record h { bytes = written h.bytes at more }) h)
  by_test true = record { name = refl; block = refl }
  by_test false = record { name = refl; block = refl }

clear-same : (block : Block) (h : Holding) → SameHolding h (clear_if block h)
clear-same block h = by_test (same_block h.block block) where
  by_test : (b : Bool) → SameHolding h (cond b (record h { bytes = zeros }) h)
  by_test true = record { name = refl; block = refl }
  by_test false = record { name = refl; block = refl }

share-stands : (block : Block) (sharing : Sharing) (own : Own) → MappingsNamed own → MappingsNamed (with_sharing block sharing own)
share-stands block sharing own stands = all-named own.blocks (map (share_if block sharing) own.blocks) own.mappings (map-keeps (share_if block sharing) (share-same block sharing) own.blocks) stands

bytes-stand : (block : Block) (at : ℕ) (more : List ℕ) (own : Own) → MappingsNamed own → MappingsNamed (with_bytes_at block at more own)
bytes-stand block at more own stands = all-named own.blocks (map (write_if block at more) own.blocks) own.mappings (map-keeps (write_if block at more) (write-same block at more) own.blocks) stands

zeros-stand : (block : Block) (own : Own) → MappingsNamed own → MappingsNamed (with_zeros block own)
zeros-stand block own stands = all-named own.blocks (map (clear_if block) own.blocks) own.mappings (map-keeps (clear_if block) (clear-same block) own.blocks) stands

-- ---- a block that is got, and one that is given up

got-keeps : (new : Holding) (held : List Holding) → named new.name held ≡ None → (name : List ℕ) (h : Holding) → named name held ≡ Some h → KeepsName held (new ∷ held) name h
got-keeps new held fresh name h is =
    elim (cases_Bool (bytes_eq new.name name)) [
      | inl t ↦
          (let same : new.name ≡ name = (bytes_eq-Decides new.name name).0 t in
          let no : None ≡ Some h = sym fresh ∙ ap (λ n. named n held) same ∙ is in cc)
      | inr not ↦ record { holding = h; found = ap (λ (b : Bool). cond b (Some new) (named name held)) not ∙ is; block = refl }
    ]

abbrev others : List ℕ → List Holding → List Holding
others name held = filter (λ (h : Holding). not (bytes_eq h.name name)) held

-- another name's block is still there
others-keep : (gone name : List ℕ) (held : List Holding) (h : Holding) → bytes_eq gone name ≡ false → named name held ≡ Some h → named name (others gone held) ≡ Some h
others-keep gone name [] h differ is = cc
others-keep gone name (g ∷ held) h differ is =
    elim (cases_Bool (bytes_eq g.name gone)) [
      | inl t ↦
          (let same : g.name ≡ gone = (bytes_eq-Decides g.name gone).0 t in
          let not : bytes_eq g.name name ≡ false = ap (λ n. bytes_eq n name) same ∙ differ in
          rw t (others-keep gone name held h differ (sym (ap (λ (b : Bool). cond b (Some g) (named name held)) not) ∙ is)))
      | inr f ↦
          rw f
          (elim (cases_Bool (bytes_eq g.name name)) [
            | inl t ↦
                ap (λ (b : Bool). cond b (Some g) (named name (others gone held))) t
                ∙ sym (ap (λ (b : Bool). cond b (Some g) (named name held)) t) ∙ is
            | inr not ↦
                ap (λ (b : Bool). cond b (Some g) (named name (others gone held))) not
                ∙ others-keep gone name held h differ (sym (ap (λ (b : Bool). cond b (Some g) (named name held)) not) ∙ is)
          ])
    ]

same-itself : (a b : Block) → a ≡ b → same_block b a ≡ true
same-itself a b same = subst (λ x. same_block x a ≡ true) same (rw (eq-eqb a.first a.first refl) (eq-eqb a.order a.order refl))

unmapped : (block : Block) (mappings : List Mapping) → list_any (λ (m : Mapping). same_block m.block block) mappings ≡ false → AllByRecursion (λ (m : Mapping). same_block m.block block ≡ false) mappings
unmapped block [] none = tt
unmapped block (m ∷ mappings) none =
    let rest : Bool = list_any (λ (n : Mapping). same_block n.block block) mappings in
    elim (cases_Bool (same_block m.block block)) [
      | inl t ↦ (let no : true ≡ false = sym (ap (λ (b : Bool). b || rest) t) ∙ none in cc)
      | inr f ↦ (f, unmapped block mappings (sym (ap (λ (b : Bool). b || rest) f) ∙ none))
    ]

-- a name whose block isn't mapped may go
gone-stands : (name : List ℕ) (own : Own) (h : Holding) → block_named own name ≡ Some h → is_mapped own h.block ≡ false → MappingsNamed own → MappingsNamed (without_block name own)
gone-stands name own h has free stands = all-with (IsNamed own.blocks) (λ (m : Mapping). same_block m.block h.block ≡ false) (IsNamed (others name own.blocks)) one own.mappings stands (unmapped h.block own.mappings free) where
  one : (m : Mapping) → IsNamed own.blocks m → same_block m.block h.block ≡ false → IsNamed (others name own.blocks) m
  one m is apart =
      elim (cases_Bool (bytes_eq name is.name)) [
        | inl t ↦
            (let same : name ≡ is.name = (bytes_eq-Decides name is.name).0 t in
            let both : Some h ≡ Some is.holding = sym has ∙ ap (λ n. named n own.blocks) same ∙ is.found in
            let holding : h ≡ is.holding = cc in
            let block : h.block ≡ m.block = ap (λ (x : Holding). x.block) holding ∙ is.block in
            let no : true ≡ false = sym (same-itself h.block m.block block) ∙ apart in cc)
        | inr differ ↦ still-named own.blocks (others name own.blocks) m is (record { holding = is.holding; found = others-keep name is.name own.blocks is.holding differ is.found; block = refl })
      ]

-- ---- what the commands may rest on

-- the command isn't refused, and this is its step
abbrev IsUnrefused : Boot → ℕ → Own → List Moved → Command → List ModuleCall → Step → Type 0
IsUnrefused boot cpu own there c calls s = (refusal_of boot own c ≡ None) × (unrefused_step boot cpu own there c calls ≡ Some s)

record IsUnmapped (own : Own) (name : List ℕ) : Type 0 where
  pub holding : Holding
  pub found : block_named own name ≡ Some holding
  pub free : is_mapped own holding.block ≡ false

fresh-name : (boot : Boot) (own : Own) (name : List ℕ) (order : ℕ) → refusal_of boot own (command.Alloc name order) ≡ None → block_named own name ≡ None
fresh-name boot own name order none = by_held (block_named own name) (refuse-none reply.Taken (is_some (block_named own name)) None none).0 where
  by_held : (held : Option Holding) → is_some held ≡ false → held ≡ None
  by_held None is = refl
  by_held (Some h) is = cc

given-up : (own : Own) (name : List ℕ) (conditions : Holding → Option Reply) → unknown_or (block_named own name) (λ h. unless_private h.sharing (refuse reply.Mapped (is_mapped own h.block) (conditions h))) ≡ None → IsUnmapped own name
given-up own name conditions none = by_held (block_named own name) refl none where
  by_held : (held : Option Holding) → block_named own name ≡ held → unknown_or held (λ h. unless_private h.sharing (refuse reply.Mapped (is_mapped own h.block) (conditions h))) ≡ None → IsUnmapped own name
  by_held None is none = cc
  by_held (Some h) is none = record { holding = h; found = is; free = (refuse-none reply.Mapped (is_mapped own h.block) (conditions h) (private-none h.sharing _ none)).0 }

-- a run that a look finds has the bytes that were asked for
found-len : (boot : Boot) (entries : List Entry) (area : ℕ) (request : Request) (run : SlotRun) → run_found boot entries area request ≡ Some run → run.len ≡ request.len
unfolding run_found
found-len boot entries area request run is = by_slot (choose (is_used (live_runs entries)) (area_slots boot) (hint_of boot entries) request.need request.align) is where
  by_slot : (slot : Option ℕ) → option_map (run_for area request) slot ≡ Some run → run.len ≡ request.len
  by_slot None is = cc
  by_slot (Some first) is =
      let same : run_for area request first ≡ run = cc in
      sym (ap (λ (r : SlotRun). r.len) same)

-- the block that a look maps, whose bytes the run's are
record IsMappedFrom (own : Own) (name : List ℕ) (off : ℕ) (run : SlotRun) : Type 0 where
  pub holding : Holding
  pub found : block_named own name ≡ Some holding
  pub within : off + run.len ≤ block_bytes holding.block

mapped-from : (boot : Boot) (cpu : ℕ) (own : Own) (there : List Moved) (mapping name : List ℕ) (off len mask : ℕ) (direction : Direction) (calls : List ModuleCall) (s : Step) (area : ℕ) (run : SlotRun)
    → IsUnrefused boot cpu own there (command.Map mapping name off len direction mask) calls s → s.event ≡ event.Looked area (Some run) → IsMappedFrom own name off run
mapped-from boot cpu own there mapping name off len mask direction calls s area run is looked = by_held (block_named own name) refl (refuse-none reply.Taken _ _ is.0).1 is.1 where
  run-same : (a b : ℕ) (found : Option SlotRun) (r : SlotRun) → event.Looked a found ≡ event.Looked b (Some r) → found ≡ Some r
  run-same a b found r is = cc

  by_held : (held : Option Holding) → block_named own name ≡ held → unknown_or held (λ h. map_refusal boot h off len mask) ≡ None
      → option_and_then (λ (h : Holding). look_step boot (entries_of there) cpu own.looks (request_of (PAGE_BYTES * h.block.first + off) len mask)) held ≡ Some s → IsMappedFrom own name off run
  by_held None has none step = cc
  by_held (Some h) has none step =
      let entries = entries_of there in
      let request = request_of (PAGE_BYTES * h.block.first + off) len mask in
      let at = area_looked_in boot cpu own.looks in
      let looking : event.Looked at (run_found boot entries at request) ≡ s.event = ap (λ (t : Step). t.event) (some-same _ s step) in
      let same = run-same at area (run_found boot entries at request) run (looking ∙ looked) in
      let len_is : run.len ≡ len = found-len boot entries at request run same in
      record { holding = h; found = has; within = subst (λ n. off + n ≤ block_bytes h.block) (sym len_is) (map-within boot h off len mask none) }

-- ---- the commands

alloc-stands : (name : List ℕ) (e : Event) (own : Own) → ((block : Block) → e ≡ event.Got block → block_named own name ≡ None) → MappingsNamed own → MappingsNamed (after_alloc name e own)
alloc-stands name (event.Got block) own fresh stands =
    let new : Holding = record { name = name; block = block; sharing = PrivateBlock; bytes = zeros } in
    all-named own.blocks (new ∷ own.blocks) own.mappings (got-keeps new own.blocks (fresh block refl)) stands
alloc-stands name _ own fresh stands = stands

free-stands : (name : List ℕ) (e : Event) (own : Own) → ((block : Block) → e ≡ event.Freed block → IsUnmapped own name) → MappingsNamed own → MappingsNamed (after_free name e own)
free-stands name (event.Freed block) own free stands = let f = free block refl in gone-stands name own f.holding f.found f.free stands
free-stands name _ own free stands = stands

named-bytes : (held : Option Holding) (off : ℕ) (more : List ℕ) (own : Own) → MappingsNamed own → MappingsNamed (option_map_or (λ (h : Holding). with_bytes_at h.block off more own) held own)
named-bytes None off more own stands = stands
named-bytes (Some h) off more own stands = bytes-stand h.block off more own stands

write-stands : (name : List ℕ) (off : ℕ) (more : List ℕ) (r : Option Reply) (own : Own) → MappingsNamed own → MappingsNamed (after_write name off more r own)
write-stands name off more None own stands = stands
write-stands name off more (Some reply.Done) own stands = named-bytes (block_named own name) off more own stands
write-stands name off more (Some _) own stands = stands

shared-stands : (e : Event) (own : Own) → MappingsNamed own → MappingsNamed (after_share e own)
shared-stands (event.ConvertEnd block calls end.Converted) own stands = share-stands block SharedBlock (record own { converting = None }) stands
shared-stands (event.ConvertEnd block calls end.Refused) own stands = stands
shared-stands (event.ConvertEnd block calls (end.Half page)) own stands = share-stands block HalfBlock (record own { converting = None }) stands
shared-stands _ own stands = stands

private-stands : (e : Event) (own : Own) → MappingsNamed own → MappingsNamed (after_private e own)
private-stands (event.ConvertEnd block calls end.Converted) own stands =
    zeros-stand block (with_sharing block PrivateBlock (record own { converting = None })) (share-stands block PrivateBlock (record own { converting = None }) stands)
private-stands (event.ConvertEnd block calls end.Refused) own stands = stands
private-stands (event.ConvertEnd block calls (end.Half page)) own stands = share-stands block HalfBlock (record own { converting = None }) stands
private-stands _ own stands = stands

given-stands : (name : List ℕ) (e : Event) (own : Own) → ((e ≡ event.Own → ⊥) → IsUnmapped own name) → MappingsNamed own → MappingsNamed (after_giveback name e own)
given-stands name (event.ConvertEnd block calls end.Converted) own free stands = let f = free (λ no. cc) in gone-stands name own f.holding f.found f.free stands
given-stands name (event.ConvertEnd block calls end.Refused) own free stands = stands
given-stands name (event.ConvertEnd block calls (end.Half page)) own free stands = stands
given-stands name _ own free stands = stands

map-stands : (mapping name : List ℕ) (off : ℕ) (direction : Direction) (e : Event) (own : Own) → ((area : ℕ) (run : SlotRun) → e ≡ event.Looked area (Some run) → IsMappedFrom own name off run) → MappingsNamed own → MappingsNamed (after_map mapping name off direction e own)
map-stands mapping name off direction (event.Looked area (Some run)) own from stands =
    let is = from area run refl in
    let new : Mapping = record { name = mapping; run = run; block = is.holding.block; off = off; direction = direction } in
    let here : IsNamed own.blocks new = record { name = name; holding = is.holding; found = is.found; block = refl; within = is.within } in
    let P : Option Holding → Type 0 = λ held. MappingsNamed (option_map_or (λ (h : Holding). record own { mappings = record { name = mapping; run = run; block = h.block; off = off; direction = direction } ∷ own.mappings }) held own) in
    subst P (sym is.found) (here, stands)
map-stands mapping name off direction (event.Looked area None) own from stands = stands
map-stands mapping name off direction _ own from stands = stands

copied-stands : (held : Option Mapping) (off : ℕ) (more : List ℕ) (own : Own) → MappingsNamed own → MappingsNamed (option_map_or (λ (m : Mapping). with_bytes_at m.block (m.off + off) more own) held own)
copied-stands None off more own stands = stands
copied-stands (Some m) off more own stands = bytes-stand m.block (m.off + off) more own stands

sync-stands : (mapping : List ℕ) (more : List ℕ) (e : Event) (own : Own) → MappingsNamed own → MappingsNamed (after_sync mapping more e own)
sync-stands mapping more (event.CopiedOut run off len) own stands = copied-stands (mapping_named own mapping) off more own stands
sync-stands mapping more _ own stands = stands

released-stands : (mapping : List ℕ) (own : Own) → MappingsNamed own → MappingsNamed (without_mapping mapping own)
released-stands mapping own stands = all-filter (IsNamed own.blocks) (λ (m : Mapping). not (bytes_eq m.name mapping)) own.mappings stands

unmap-stands : (mapping more : List ℕ) (e : Event) (own : Own) → MappingsNamed own → MappingsNamed (after_unmap mapping more e own)
unmap-stands mapping more (event.Released run true) own stands = released-stands mapping (copied_out mapping 0 more own) (copied-stands (mapping_named own mapping) 0 more own stands)
unmap-stands mapping more (event.Released run false) own stands = released-stands mapping own stands
unmap-stands mapping more _ own stands = stands

module _ (boot : Boot) (cpu : ℕ) (own : Own) (there : List Moved) (calls : List ModuleCall) (m : Moved) (stands : MappingsNamed own) where
  -- a command whose event isn't its own is unrefused
  abbrev Facts : Command → Type 0
  Facts c = (m.entry.event ≡ event.Own → ⊥) → IsUnrefused boot cpu own there c calls (step_told m.entry)

  not-own : (e : Event) → (e ≡ event.Own → ⊥) → m.entry.event ≡ e → m.entry.event ≡ event.Own → ⊥
  not-own e other is own = other (sym is ∙ own)

  told-stands : (c : Command) → Facts c → MappingsNamed (told (Some c) m own)
  told-stands (command.Alloc name order) facts = alloc-stands name m.entry.event own (λ block is. fresh-name boot own name order (facts (not-own (event.Got block) (λ no. cc) is)).0) stands
  told-stands (command.Free name) facts = free-stands name m.entry.event own (λ block is. given-up own name (λ h. None) (facts (not-own (event.Freed block) (λ no. cc) is)).0) stands
  told-stands (command.Write name off hex) facts = write-stands name off hex m.entry.reply own stands
  told-stands (command.Fill name off len byte) facts = write-stands name off (repeat len (byte ∷ [])) m.entry.reply own stands
  told-stands (command.Share name) facts = shared-stands m.entry.event own stands
  told-stands (command.Private name) facts = private-stands m.entry.event own stands
  told-stands (command.Giveback name) facts = given-stands name m.entry.event own (λ other. given-up own name (λ h. give_refusal boot h.block) (facts other).0) stands
  told-stands (command.Map mapping name off len direction mask) facts =
      map-stands mapping name off direction m.entry.event own
      (λ area run is. mapped-from boot cpu own there mapping name off len mask direction calls (step_told m.entry) area run (facts (not-own (event.Looked area (Some run)) (λ no. cc) is)) is) stands
  told-stands (command.SyncCpu mapping off len) facts = sync-stands mapping m.bytes m.entry.event own stands
  told-stands (command.Unmap mapping skip) facts = unmap-stands mapping m.bytes m.entry.event own stands
  told-stands _ facts = stands

ended-stands : (r : Option Reply) (own : Own) → MappingsNamed own → MappingsNamed (ended r own)
ended-stands None own stands = stands
ended-stands (Some r) own stands = stands

-- they stand after a step of a command
pub step-named : (boot : Boot) (cpu : ℕ) (own : Own) (there : List Moved) (c : Command) (calls : List ModuleCall) (m : Moved) → step_of boot cpu own there c calls ≡ Some (step_told m.entry) → MappingsNamed own → MappingsNamed (ended m.entry.reply (told (Some c) m own))
step-named boot cpu own there c calls m step stands =
    ended-stands m.entry.reply (told (Some c) m own)
    (told-stands boot cpu own there calls m stands c (λ other. unrefused (refusal_of boot own c) (unrefused_step boot cpu own there c calls) (step_told m.entry) other step))

-- ---- histories

module _ (boot : Boot) (scripts : List (List Command)) where
  own-follows : (history : List Moved) (entry : Entry) → Follows boot scripts history entry → MappingsNamed (own_after scripts history entry.cpu.0)
      → MappingsNamed (own_step (script_of scripts entry.cpu.0) (own_after scripts history entry.cpu.0) (with_bytes boot scripts history entry))
  own-follows history entry f stands =
      let m = with_bytes boot scripts history entry in
      let own = own_after scripts history entry.cpu.0 in
      let c = command-of boot scripts history entry f in
      subst (λ (o : Option Command). MappingsNamed (ended entry.reply (told o m own))) (sym c.its)
      (step-named boot entry.cpu.0 own (at_place entry.place history) c.command (calls_in entry.event) m c.step stands)

  mapped-push : (history : List Moved) (entry : Entry) → Follows boot scripts history entry → ((cpu : ℕ) → MappingsNamed (own_after scripts history cpu)) → (cpu : ℕ) → MappingsNamed (own_after scripts (history ++ with_bytes boot scripts history entry ∷ []) cpu)
  mapped-push history entry f stands cpu =
      let m = with_bytes boot scripts history entry in
      elim (cases_Bool (entry.cpu.0 == cpu)) [
        | inl t ↦
            (let same : entry.cpu.0 ≡ cpu = eqb-true entry.cpu.0 cpu t in
            subst (λ c. MappingsNamed (own_after scripts (history ++ m ∷ []) c)) same
            (subst MappingsNamed (sym (own-grows (script_of scripts entry.cpu.0) entry.cpu.0 history m (eq-eqb entry.cpu.0 entry.cpu.0 refl))) (own-follows history entry f (stands entry.cpu.0))))
        | inr f ↦ subst MappingsNamed (sym (own-same (script_of scripts cpu) cpu history m f)) (stands cpu)
      ]

  mapped-after : (history : List Moved) (entries : List Entry) → ((cpu : ℕ) → MappingsNamed (own_after scripts history cpu)) → LegalAfter boot scripts history entries → (cpu : ℕ) → MappingsNamed (own_after scripts (moved_after boot scripts history entries) cpu)
  mapped-after history [] stands legal = stands
  mapped-after history (entry ∷ entries) stands legal = mapped-after (history ++ with_bytes boot scripts history entry ∷ []) entries (mapped-push history entry legal.0 stands) legal.2

  nothing-mapped : (cpu : ℕ) → MappingsNamed (own_after scripts [] cpu)
  unfolding own_of
  nothing-mapped cpu = tt

-- ---- the block of a mapping

-- what is found by its name is found by its block
found-block : (block : Block) (name : List ℕ) (held : List Holding) (h : Holding) → named name held ≡ Some h → h.block ≡ block → (g : Holding) × (find (λ (x : Holding). same_block x.block block) held ≡ Some g)
found-block block name [] h is same = cc
found-block block name (g ∷ held) h is same =
    elim (cases_Bool (same_block g.block block)) [
      | inl t ↦ (g, ap (λ (b : Bool). cond b (Some g) (find (λ (x : Holding). same_block x.block block) held)) t)
      | inr not ↦
          elim (cases_Bool (bytes_eq g.name name)) [
            | inl t ↦
                (let here : Some g ≡ Some h = sym (ap (λ (b : Bool). cond b (Some g) (named name held)) t) ∙ is in
                let one : g ≡ h = cc in
                let at : g.block ≡ block = ap (λ (x : Holding). x.block) one ∙ same in
                let no : true ≡ false = sym (same-itself block g.block (sym at)) ∙ not in cc)
            | inr f ↦
                (let there = found-block block name held h (sym (ap (λ (b : Bool). cond b (Some g) (named name held)) f) ∙ is) same in
                (there.0, ap (λ (b : Bool). cond b (Some g) (find (λ (x : Holding). same_block x.block block) held)) not ∙ there.1))
          ]
    ]

pub named-held : (own : Own) (m : Mapping) → IsNamed own.blocks m → IsOfHeldBlock own m
named-held own m is =
    let found = found-block m.block is.name own.blocks is.holding is.found is.block in
    record { holding = found.0; held = found.1; within = is.within }

pub legal-mapped : (boot : Boot) (scripts : List (List Command)) (entries : List Entry) → Legal boot scripts entries → EachMappedHeld scripts (with_moved boot scripts entries)
legal-mapped boot scripts entries legal cpu =
    let own = own_after scripts (with_moved boot scripts entries) cpu in
    all-map (IsNamed own.blocks) (IsOfHeldBlock own) (named-held own) own.mappings (mapped-after boot scripts [] entries (nothing-mapped boot scripts) legal cpu)
