-- A page has one owner: the blocks that processors have are apart.
use Rattle.std.proofs.Common.{◌≡◌, ◌≢◌, ℕ, ◌+◌, Bool, true, false, ◌&&◌, Option, None, Some, List, [], ◌∷◌, ◌++◌, map, filter, refl, sym, ◌∙◌, ap, subst, inl, inr, cond, eqb-true, eq-eqb, ne_eqb}
use Rattle.std.specs.Prelude.{not, find, bytes_eq, ◌==◌, slice_get}
use Rattle.std.specs.List.{AllByRecursion, repeat}
use Rattle.std.specs.Option.{option_map_or}
use Rattle.std.proofs.lemmas.Bool.{cases_Bool, and_parts}
use Rattle.std.proofs.lemmas.List.Sums.{fold-append}
use Rattle.std.proofs.lemmas.Slice.Eq.{bytes_eq-Decides}
use mathlib.Core.Path.{fun_ext}
use Rattle.guest_base.specs.Blocks.{pick}
use Rattle.guest_base.specs.declared.memory.Block.{Block}
use Rattle.guest_base.specs.declared.transfer.Direction.{Direction}
use Rattle.event_core.specs.declared.boot.Boot.{Boot}
use Rattle.event_core.specs.declared.command.Command.{Command}
use Rattle.event_core.specs.declared.command.Command.TheVariants as command
use Rattle.event_core.specs.declared.entry.Entry.{Entry}
use Rattle.event_core.specs.declared.entry.Place.TheVariants as place
use Rattle.event_core.specs.declared.event.Event.{Event}
use Rattle.event_core.specs.declared.event.Event.TheVariants as event
use Rattle.event_core.specs.declared.reply.Reply.{Reply}
use Rattle.event_core.specs.declared.reply.Reply.TheVariants as reply
use Rattle.event_core.specs.Absent.{in_block}
use Rattle.event_core.specs.Blocks.{block_state, is_loose, owned_after, is_owned, free_page}
use Rattle.event_core.specs.Cut.{cut}
use Rattle.event_core.specs.Holdings.{Holding, Mapping, Own, block_named, mapping_named, same_block}
use Rattle.event_core.specs.Legal.{Follows, LegalAfter, Legal, with_bytes, with_moved, moved_after, at_place, place_of, same_place, bare}
use Rattle.event_core.specs.Moved.{Moved, entries_of}
use Rattle.event_core.specs.Own.{told, ended, own_step, own_of, script_of, after_alloc, after_free, after_write, after_map, after_sync, after_unmap, with_bytes_at, write_if}
use Rattle.event_core.proofs.SoundLemmas.{same_place-Memory}
use Rattle.event_laws.proofs.TurnLemmas.{all-map}
use Rattle.block_laws.specs.Apart.{AreApart, own_after, NamesApart}
use Rattle.block_laws.specs.Unconverting.{ConvertsNothing, ConvertNothing}
use Rattle.event_core.proofs.CommandLemmas.{command-of}
use Rattle.block_laws.proofs.EventFacts.{IsUnconverting, IsOfArea, is-unconverting}
use Rattle.block_laws.proofs.GrowFacts.{memory_of, memory-grows, memory-same, own-grows, own-same}
use Rattle.block_laws.proofs.HeldFacts.{picked-free}
use Rattle.block_laws.proofs.RowFacts.{RowsHave, follows-row, follows-unconverting}

-- ---- blocks that are apart

pub apart-swap : (a b : Block) → AreApart a b → AreApart b a
apart-swap a b apart page inside =
    elim (cases_Bool (in_block page a)) [
      | inr f ↦ f
      | inl t ↦ (let no : true ≡ false = sym inside ∙ apart page t in cc)
    ]

abbrev ApartFrom : Block → List Block → Type 0
ApartFrom block blocks = AllByRecursion (AreApart block) blocks

abbrev EachApart : List Block → Type 0
EachApart [] = Unit {0}
EachApart (b ∷ bs) = ApartFrom b bs × EachApart bs

-- each page of a block is owned
abbrev IsOwned : List Entry → Block → Type 0
IsOwned memory block = (page : ℕ) → in_block page block ≡ true → is_owned memory page ≡ true

abbrev pub blocks_in : List Holding → List Block
blocks_in held = map (λ (h : Holding). h.block) held

-- What stands of the blocks that processors have, each with a list of its own.
record OwnersStand (memory : List Entry) (blocks : ℕ → List Block) : Type 0 where
  pub owned : (cpu : ℕ) → AllByRecursion (IsOwned memory) (blocks cpu)
  pub own : (cpu : ℕ) → EachApart (blocks cpu)
  pub others : (cpu other : ℕ) → cpu ≢ other → AllByRecursion (λ b. ApartFrom b (blocks other)) (blocks cpu)

-- what isn't owned is apart from what is
unowned-apart : (memory : List Entry) (block : Block) (blocks : List Block) → ((page : ℕ) → in_block page block ≡ true → is_owned memory page ≡ false) → AllByRecursion (IsOwned memory) blocks → ApartFrom block blocks
unowned-apart memory block [] none all = tt
unowned-apart memory block (b ∷ bs) none all = (
  λ page inside. elim (cases_Bool (in_block page b)) [
    | inr f ↦ f
    | inl t ↦ (let no : true ≡ false = sym (all.0 page t) ∙ none page inside in cc)
  ],
  unowned-apart memory block bs none all.1,
)

-- ---- free by name

abbrev pub left : List ℕ → List Holding → List Holding
left name held = filter (λ (h : Holding). not (bytes_eq h.name name)) held

left-all : (P : Block → Type 0) (name : List ℕ) (held : List Holding) → AllByRecursion P (blocks_in held) → AllByRecursion P (blocks_in (left name held))
left-all P name [] all = tt
left-all P name (h ∷ held) all =
    elim (cases_Bool (bytes_eq h.name name)) [
      | inl t ↦ rw t (left-all P name held all.1)
      | inr f ↦ rw f (all.0, left-all P name held all.1)
    ]

left-each : (name : List ℕ) (held : List Holding) → EachApart (blocks_in held) → EachApart (blocks_in (left name held))
left-each name [] each = tt
left-each name (h ∷ held) each =
    elim (cases_Bool (bytes_eq h.name name)) [
      | inl t ↦ rw t (left-each name held each.1)
      | inr f ↦ rw f (left-all (AreApart h.block) name held each.0, left-each name held each.1)
    ]

find-block : (P : Block → Type 0) (name : List ℕ) (held : List Holding) (h : Holding) → AllByRecursion P (blocks_in held) → find (λ (g : Holding). bytes_eq g.name name) held ≡ Some h → P h.block
find-block P name [] h all is = cc
find-block P name (g ∷ held) h all is =
    elim (cases_Bool (bytes_eq g.name name)) [
      | inl t ↦
          (let here : Some g ≡ Some h = sym (ap (λ (b : Bool). cond b (Some g) (find (λ (x : Holding). bytes_eq x.name name) held)) t) ∙ is in
          let same : g ≡ h = cc in
          subst (λ (x : Holding). P x.block) same all.0)
      | inr f ↦ find-block P name held h all.1 (sym (ap (λ (b : Bool). cond b (Some g) (find (λ (x : Holding). bytes_eq x.name name) held)) f) ∙ is)
    ]

-- the block of a name is apart from those that are left without it
left-apart : (name : List ℕ) (held : List Holding) (h : Holding) → EachApart (blocks_in held) → find (λ (g : Holding). bytes_eq g.name name) held ≡ Some h → ApartFrom h.block (blocks_in (left name held))
left-apart name [] h each is = tt
left-apart name (g ∷ held) h each is =
    elim (cases_Bool (bytes_eq g.name name)) [
      | inl t ↦
          (let here : Some g ≡ Some h = sym (ap (λ (b : Bool). cond b (Some g) (find (λ (x : Holding). bytes_eq x.name name) held)) t) ∙ is in
          let same : g ≡ h = cc in
          rw t (subst (λ (x : Holding). ApartFrom x.block (blocks_in (left name held))) same (left-all (AreApart g.block) name held each.0)))
      | inr f ↦
          (let there = sym (ap (λ (b : Bool). cond b (Some g) (find (λ (x : Holding). bytes_eq x.name name) held)) f) ∙ is in
          rw f (apart-swap g.block h.block (find-block (AreApart g.block) name held h each.0 there), left-apart name held h each.1 there))
    ]

-- blocks of two names of one processor are apart
pub names-apart : (name of : List ℕ) (held : List Holding) (h k : Holding) → name ≢ of → EachApart (blocks_in held) → find (λ (g : Holding). bytes_eq g.name name) held ≡ Some h → find (λ (g : Holding). bytes_eq g.name of) held ≡ Some k → AreApart h.block k.block
names-apart name of [] h k differ each first second = cc
names-apart name of (g ∷ held) h k differ each first second =
    elim (cases_Bool (bytes_eq g.name name)) [
      | inl t ↦
          (let here : Some g ≡ Some h = sym (ap (λ (b : Bool). cond b (Some g) (find (λ (x : Holding). bytes_eq x.name name) held)) t) ∙ first in
          let same : g ≡ h = cc in
          elim (cases_Bool (bytes_eq g.name of)) [
            | inl u ↦ absurd (differ (sym ((bytes_eq-Decides g.name name).0 t) ∙ (bytes_eq-Decides g.name of).0 u))
            | inr v ↦ subst (λ (x : Holding). AreApart x.block k.block) same (find-block (AreApart g.block) of held k each.0 (sym (ap (λ (b : Bool). cond b (Some g) (find (λ (x : Holding). bytes_eq x.name of) held)) v) ∙ second))
          ])
      | inr f ↦
          (let there = sym (ap (λ (b : Bool). cond b (Some g) (find (λ (x : Holding). bytes_eq x.name name) held)) f) ∙ first in
          elim (cases_Bool (bytes_eq g.name of)) [
            | inl u ↦
                (let here : Some g ≡ Some k = sym (ap (λ (b : Bool). cond b (Some g) (find (λ (x : Holding). bytes_eq x.name of) held)) u) ∙ second in
                let same : g ≡ k = cc in
                apart-swap k.block h.block (subst (λ (x : Holding). AreApart x.block h.block) same (find-block (AreApart g.block) name held h each.0 there)))
            | inr v ↦ names-apart name of held h k differ each.1 there (sym (ap (λ (b : Bool). cond b (Some g) (find (λ (x : Holding). bytes_eq x.name of) held)) v) ∙ second)
          ])
    ]

-- ---- what an event changes

-- an event that gets, frees and gives back nothing
abbrev pub IsQuiet : Event → Type 0
IsQuiet (event.Got block) = ⊥
IsQuiet (event.Freed block) = ⊥
IsQuiet (event.ConvertEnd block calls end) = ⊥
IsQuiet _ = Unit {0}

-- it changes no owner
quiet-owned : (e : Event) → IsQuiet e → (page : ℕ) (owned : Bool) → owned_after page owned e ≡ owned
quiet-owned (event.Got block) is page owned = absurd is
quiet-owned (event.Freed block) is page owned = absurd is
quiet-owned (event.ConvertEnd block calls end) is page owned = absurd is
quiet-owned _ is page owned = refl

-- the blocks of a processor before and after an event of its own
pub data Change (memory : List Entry) (before after : List Block) (e : Event) : Type 0 where
  Same : before ≡ after → IsQuiet e → Change memory before after e
  Gets : (block : Block) → e ≡ event.Got block → after ≡ block ∷ before → ((page : ℕ) → in_block page block ≡ true → is_owned memory page ≡ false) → Change memory before after e
  Frees : (held : List Holding) (name : List ℕ) (h : Holding) → e ≡ event.Freed h.block → before ≡ blocks_in held → after ≡ blocks_in (left name held) → find (λ (g : Holding). bytes_eq g.name name) held ≡ Some h → Change memory before after e

pub is_owned-push : (memory : List Entry) (entry : Entry) (page : ℕ) → is_owned (memory ++ entry ∷ []) page ≡ owned_after page (is_owned memory page) entry.event
unfolding is_owned
is_owned-push memory entry page = fold-append (λ owned (e : Entry). owned_after page owned e.event) false memory (entry ∷ [])

-- the lists after an event of a processor
abbrev with_list : (ℕ → List Block) → ℕ → List Block → ℕ → List Block
with_list blocks cpu after c = cond (cpu == c) after (blocks c)

owned-got : (page : ℕ) (owned : Bool) (block : Block) → owned ≡ true → owned_after page owned (event.Got block) ≡ true
owned-got page owned block is = either (in_block page block) is where
  either : (b : Bool) → owned ≡ true → cond b true owned ≡ true
  either true is = refl
  either false is = is

owned-freed : (page : ℕ) (owned : Bool) (block : Block) → in_block page block ≡ false → owned ≡ true → owned_after page owned (event.Freed block) ≡ true
owned-freed page owned block out is = ap (λ (b : Bool). cond b false owned) out ∙ is

own-got : (page : ℕ) (owned : Bool) (block : Block) → in_block page block ≡ true → owned_after page owned (event.Got block) ≡ true
own-got page owned block inside = ap (λ (b : Bool). cond b true owned) inside

apart-each : (block : Block) (blocks : List Block) (memory : List Entry) (entry : Entry) → entry.event ≡ event.Freed block → ApartFrom block blocks → AllByRecursion (IsOwned memory) blocks → AllByRecursion (IsOwned (memory ++ entry ∷ [])) blocks
apart-each block [] memory entry is apart all = tt
apart-each block (b ∷ bs) memory entry is apart all = (
  λ page inside.
      is_owned-push memory entry page ∙ ap (owned_after page (is_owned memory page)) is
      ∙ owned-freed page (is_owned memory page) block (apart-swap block b apart.0 page inside) (all.0 page inside),
  apart-each block bs memory entry is apart.1 all.1,
)

-- what was owned stays so after an event that frees nothing
still-owned : (memory : List Entry) (entry : Entry) (blocks : List Block) → ((page : ℕ) → is_owned memory page ≡ true → is_owned (memory ++ entry ∷ []) page ≡ true) → AllByRecursion (IsOwned memory) blocks → AllByRecursion (IsOwned (memory ++ entry ∷ [])) blocks
still-owned memory entry blocks keeps all = all-map (IsOwned memory) (IsOwned (memory ++ entry ∷ [])) (λ b owned page inside. keeps page (owned page inside)) blocks all

-- what holds of a processor's list after an event of one
at-list : (P : List Block → Type 0) (blocks : ℕ → List Block) (cpu : ℕ) (after : List Block) (c : ℕ) → (cpu ≡ c → P after) → (cpu ≢ c → P (blocks c)) → P (with_list blocks cpu after c)
at-list P blocks cpu after c mine other =
    elim (cases_Bool (cpu == c)) [
      | inl t ↦ rw t (mine (eqb-true cpu c t))
      | inr f ↦ rw f (other (λ same. (let no : true ≡ false = sym (eq-eqb cpu c same) ∙ f in cc)))
    ]

-- each of the blocks is apart from a list with one more
more-apart : (block : Block) (blocks others : List Block) → ApartFrom block blocks → AllByRecursion (λ b. ApartFrom b others) blocks → AllByRecursion (λ b. ApartFrom b (block ∷ others)) blocks
more-apart block [] others apart all = tt
more-apart block (b ∷ bs) others apart all = ((apart-swap block b apart.0, all.0), more-apart block bs others apart.1 all.1)

less-apart : (blocks : List Block) (name : List ℕ) (held : List Holding) → AllByRecursion (λ b. ApartFrom b (blocks_in held)) blocks → AllByRecursion (λ b. ApartFrom b (blocks_in (left name held))) blocks
less-apart [] name held all = tt
less-apart (b ∷ bs) name held all = (left-all (AreApart b) name held all.0, less-apart bs name held all.1)

module _ (memory : List Entry) (entry : Entry) (blocks : ℕ → List Block) (cpu : ℕ) (stands : OwnersStand memory blocks) where
  got-keeps : (block : Block) → entry.event ≡ event.Got block → (page : ℕ) → is_owned memory page ≡ true → is_owned (memory ++ entry ∷ []) page ≡ true
  got-keeps block is page owned = is_owned-push memory entry page ∙ ap (owned_after page (is_owned memory page)) is ∙ owned-got page (is_owned memory page) block owned

  push-gets : (block : Block) → entry.event ≡ event.Got block → ((page : ℕ) → in_block page block ≡ true → is_owned memory page ≡ false) → OwnersStand (memory ++ entry ∷ []) (with_list blocks cpu (block ∷ blocks cpu))
  push-gets block is none =
      let apart = λ (c : ℕ). unowned-apart memory block (blocks c) none (stands.owned c) in
      let kept = λ (c : ℕ). still-owned memory entry (blocks c) (got-keeps block is) (stands.owned c) in
      record {
        owned = λ c. at-list (AllByRecursion (IsOwned (memory ++ entry ∷ []))) blocks cpu (block ∷ blocks cpu) c
            (λ same. ((λ page inside. is_owned-push memory entry page ∙ ap (owned_after page (is_owned memory page)) is ∙ own-got page (is_owned memory page) block inside), kept cpu))
            (λ differ. kept c);
        own = λ c. at-list EachApart blocks cpu (block ∷ blocks cpu) c (λ same. (apart cpu, stands.own cpu)) (λ differ. stands.own c);
        others = λ c d differ.
            at-list (λ bs. AllByRecursion (λ b. ApartFrom b (with_list blocks cpu (block ∷ blocks cpu) d)) bs) blocks cpu (block ∷ blocks cpu) c
            (λ mine. at-list (λ ds. AllByRecursion (λ b. ApartFrom b ds) (block ∷ blocks cpu)) blocks cpu (block ∷ blocks cpu) d
            (λ both. absurd (differ (sym mine ∙ both)))
            (λ not. (apart d, stands.others cpu d not)))
            (λ not_mine. at-list (λ ds. AllByRecursion (λ b. ApartFrom b ds) (blocks c)) blocks cpu (block ∷ blocks cpu) d
            (λ its. more-apart block (blocks c) (blocks cpu) (apart c) (stands.others c cpu (λ same. not_mine (sym same))))
            (λ not. stands.others c d differ));
      }

  push-frees : (held : List Holding) (name : List ℕ) (h : Holding) → entry.event ≡ event.Freed h.block → blocks cpu ≡ blocks_in held → find (λ (g : Holding). bytes_eq g.name name) held ≡ Some h → OwnersStand (memory ++ entry ∷ []) (with_list blocks cpu (blocks_in (left name held)))
  push-frees held name h is begun found =
      let after : List Block = blocks_in (left name held) in
      let own = subst EachApart begun (stands.own cpu) in
      let owned = subst (AllByRecursion (IsOwned memory)) begun (stands.owned cpu) in
      let others = λ (d : ℕ) (not : cpu ≢ d). subst (AllByRecursion (λ b. ApartFrom b (blocks d))) begun (stands.others cpu d not) in
      record {
        owned = λ c. at-list (AllByRecursion (IsOwned (memory ++ entry ∷ []))) blocks cpu after c
            (λ same. apart-each h.block after memory entry is (left-apart name held h own found) (left-all (IsOwned memory) name held owned))
            (λ differ. apart-each h.block (blocks c) memory entry is (find-block (λ b. ApartFrom b (blocks c)) name held h (others c differ) found) (stands.owned c));
        own = λ c. at-list EachApart blocks cpu after c (λ same. left-each name held own) (λ differ. stands.own c);
        others = λ c d differ.
            at-list (λ bs. AllByRecursion (λ b. ApartFrom b (with_list blocks cpu after d)) bs) blocks cpu after c
            (λ mine. at-list (λ ds. AllByRecursion (λ b. ApartFrom b ds) after) blocks cpu after d
            (λ both. absurd (differ (sym mine ∙ both)))
            (λ not. left-all (λ b. ApartFrom b (blocks d)) name held (others d not)))
            (λ not_mine. at-list (λ ds. AllByRecursion (λ b. ApartFrom b ds) (blocks c)) blocks cpu after d
            (λ its. less-apart (blocks c) name held (subst (λ ds. AllByRecursion (λ b. ApartFrom b ds) (blocks c)) begun (stands.others c cpu (λ same. not_mine (sym same)))))
            (λ not. stands.others c d differ));
      }

  push-same : (after : List Block) → blocks cpu ≡ after → IsQuiet entry.event → OwnersStand (memory ++ entry ∷ []) (with_list blocks cpu after)
  push-same after begun quiet =
      let all : blocks ≡ with_list blocks cpu after = fun_ext (λ c. at-list (λ bs. blocks c ≡ bs) blocks cpu after c (λ same. ap blocks (sym same) ∙ begun) (λ differ. refl)) in
      subst (OwnersStand (memory ++ entry ∷ [])) all
      (record {
        owned = λ c. still-owned memory entry (blocks c) (λ page owned. is_owned-push memory entry page ∙ quiet-owned entry.event quiet page (is_owned memory page) ∙ owned) (stands.owned c);
        own = stands.own;
        others = stands.others;
      })

  owners-push : (after : List Block) → Change memory (blocks cpu) after entry.event → OwnersStand (memory ++ entry ∷ []) (with_list blocks cpu after)
  owners-push after (Same begun quiet) = push-same after begun quiet
  owners-push after (Gets block is now none) = subst (λ bs. OwnersStand (memory ++ entry ∷ []) (with_list blocks cpu bs)) (sym now) (push-gets block is none)
  owners-push after (Frees held name h is begun now found) = subst (λ bs. OwnersStand (memory ++ entry ∷ []) (with_list blocks cpu bs)) (sym now) (push-frees held name h is begun found)

-- ---- the change that a command makes

-- a processor gets a picked block by an allocation, and frees a block that it has by its name
abbrev pub OwnFits : Boot → List Entry → Own → Command → Event → Type 0
OwnFits boot memory own c (event.Got block) = (name : List ℕ) × (order : ℕ) × (c ≡ command.Alloc name order) × (pick (free_page boot memory) order ≡ Some block)
OwnFits boot memory own c (event.Freed block) = (name : List ℕ) × (h : Holding) × (c ≡ command.Free name) × (block_named own name ≡ Some h) × (h.block ≡ block)
OwnFits boot memory own c _ = Unit {0}

pub free-unowned : (boot : Boot) (memory : List Entry) (page : ℕ) → free_page boot memory page ≡ true → is_owned memory page ≡ false
unfolding free_page
free-unowned boot memory page free = by_block (find (in_block page) (cut boot)) free where
  not-true : (b : Bool) → not b ≡ true → b ≡ false
  not-true true h = cc
  not-true false h = refl

  by_block : (found : Option Block) → elim found as (λ _. Bool) [ None ↦ false | Some block ↦ is_loose (block_state boot memory block) && not (is_owned memory page) ] ≡ true → is_owned memory page ≡ false
  by_block None is = cc
  by_block (Some block) is = not-true (is_owned memory page) (and_parts (is_loose (block_state boot memory block)) (not (is_owned memory page)) is).1

write-blocks : (block : Block) (at : ℕ) (more : List ℕ) (held : List Holding) → blocks_in held ≡ blocks_in (map (write_if block at more) held)
write-blocks block at more [] = refl
write-blocks block at more (h ∷ held) =
    elim (cases_Bool (same_block h.block block)) [
      | inl t ↦ rw t (ap (λ bs. h.block ∷ bs) (write-blocks block at more held))
      | inr f ↦ rw f (ap (λ bs. h.block ∷ bs) (write-blocks block at more held))
    ]

named-blocks : (held : Option Holding) (off : ℕ) (more : List ℕ) (own : Own) → blocks_in own.blocks ≡ blocks_in (option_map_or (λ (h : Holding). with_bytes_at h.block off more own) held own).blocks
named-blocks None off more own = refl
named-blocks (Some h) off more own = write-blocks h.block off more own.blocks

written-blocks : (name : List ℕ) (off : ℕ) (more : List ℕ) (r : Option Reply) (own : Own) → blocks_in own.blocks ≡ blocks_in (after_write name off more r own).blocks
written-blocks name off more None own = refl
written-blocks name off more (Some reply.Done) own = named-blocks (block_named own name) off more own
written-blocks name off more (Some _) own = refl

map-blocks : (mapping name : List ℕ) (off : ℕ) (direction : Direction) (e : Event) (own : Own) → blocks_in own.blocks ≡ blocks_in (after_map mapping name off direction e own).blocks
map-blocks mapping name off direction (event.Looked area (Some run)) own = by_held (block_named own name) where
  by_held : (held : Option Holding) → blocks_in own.blocks ≡ blocks_in (option_map_or (λ (h : Holding). record own { mappings = record { name = mapping; run = run; block = h.block; off = off; direction = direction } ∷ own.mappings }) held own).blocks
  by_held None = refl
  by_held (Some h) = refl
map-blocks mapping name off direction (event.Looked area None) own = refl
map-blocks mapping name off direction _ own = refl

copied-blocks : (held : Option Mapping) (off : ℕ) (more : List ℕ) (own : Own) → blocks_in own.blocks ≡ blocks_in (option_map_or (λ (m : Mapping). with_bytes_at m.block (m.off + off) more own) held own).blocks
copied-blocks None off more own = refl
copied-blocks (Some m) off more own = write-blocks m.block (m.off + off) more own.blocks

sync-blocks : (mapping : List ℕ) (more : List ℕ) (e : Event) (own : Own) → blocks_in own.blocks ≡ blocks_in (after_sync mapping more e own).blocks
sync-blocks mapping more (event.CopiedOut run off len) own = copied-blocks (mapping_named own mapping) off more own
sync-blocks mapping more _ own = refl

unmap-blocks : (mapping more : List ℕ) (e : Event) (own : Own) → blocks_in own.blocks ≡ blocks_in (after_unmap mapping more e own).blocks
unmap-blocks mapping more (event.Released run true) own = copied-blocks (mapping_named own mapping) 0 more own
unmap-blocks mapping more (event.Released run false) own = refl
unmap-blocks mapping more _ own = refl

ended-blocks : (r : Option Reply) (own : Own) → (ended r own).blocks ≡ own.blocks
ended-blocks None own = refl
ended-blocks (Some r) own = refl

module _ (boot : Boot) (memory : List Entry) (own : Own) where
  -- a command that neither allocates nor frees
  quiet-other : (c : Command) (e : Event) → ((name : List ℕ) (order : ℕ) → c ≡ command.Alloc name order → ⊥) → ((name : List ℕ) → c ≡ command.Free name → ⊥) → IsUnconverting e → OwnFits boot memory own c e → IsQuiet e
  quiet-other c (event.Got block) alloc free is fits = absurd (alloc fits.0 fits.1 fits.2)
  quiet-other c (event.Freed block) alloc free is fits = absurd (free fits.0 fits.2)
  quiet-other c (event.ConvertEnd block calls end) alloc free is fits = absurd is
  quiet-other c _ alloc free is fits = tt

  other-change : (c : Command) (e : Event) (after : List Block) → ((name : List ℕ) (order : ℕ) → c ≡ command.Alloc name order → ⊥) → ((name : List ℕ) → c ≡ command.Free name → ⊥) → IsUnconverting e → OwnFits boot memory own c e → blocks_in own.blocks ≡ after → Change memory (blocks_in own.blocks) after e
  other-change c e after alloc free is fits same = Same same (quiet-other c e alloc free is fits)

  alloc-change : (name : List ℕ) (order : ℕ) (e : Event) → IsUnconverting e → OwnFits boot memory own (command.Alloc name order) e → Change memory (blocks_in own.blocks) (blocks_in (after_alloc name e own).blocks) e
  alloc-change name order (event.Got block) is fits = Gets block refl refl (λ page inside. free-unowned boot memory page (picked-free (free_page boot memory) fits.1 block fits.3 page inside))
  alloc-change name order (event.Freed block) is fits = let no = fits.2 in cc
  alloc-change name order (event.ConvertEnd block calls end) is fits = absurd is
  alloc-change name order _ is fits = Same refl tt

  free-change : (name : List ℕ) (e : Event) → IsUnconverting e → OwnFits boot memory own (command.Free name) e → Change memory (blocks_in own.blocks) (blocks_in (after_free name e own).blocks) e
  free-change name (event.Freed block) is fits =
      let names : name ≡ fits.0 = free-name name fits.0 fits.2 in
      Frees own.blocks name fits.1 (ap event.Freed (sym fits.4)) refl refl (ap (block_named own) names ∙ fits.3)
    where
      free-name : (a b : List ℕ) → command.Free a ≡ command.Free b → a ≡ b
      free-name a b h = cc
  free-change name (event.Got block) is fits = let no = fits.2 in cc
  free-change name (event.ConvertEnd block calls end) is fits = absurd is
  free-change name _ is fits = Same refl tt

  told-change : (c : Command) (m : Moved) → ConvertsNothing c → IsUnconverting m.entry.event → OwnFits boot memory own c m.entry.event → Change memory (blocks_in own.blocks) (blocks_in (told (Some c) m own).blocks) m.entry.event
  told-change (command.Alloc name order) m is at fits = alloc-change name order m.entry.event at fits
  told-change (command.Free name) m is at fits = free-change name m.entry.event at fits
  told-change (command.Write name off hex) m is at fits = other-change (command.Write name off hex) m.entry.event _ (λ n o no. cc) (λ n no. cc) at fits (written-blocks name off hex m.entry.reply own)
  told-change (command.Fill name off len byte) m is at fits = other-change (command.Fill name off len byte) m.entry.event _ (λ n o no. cc) (λ n no. cc) at fits (written-blocks name off (repeat len (byte ∷ [])) m.entry.reply own)
  told-change (command.Share name) m is at fits = absurd is
  told-change (command.Private name) m is at fits = absurd is
  told-change (command.Giveback name) m is at fits = absurd is
  told-change (command.Map mapping name off len direction mask) m is at fits =
      other-change (command.Map mapping name off len direction mask) m.entry.event _ (λ n o no. cc) (λ n no. cc) at fits (map-blocks mapping name off direction m.entry.event own)
  told-change (command.SyncCpu mapping off len) m is at fits = other-change (command.SyncCpu mapping off len) m.entry.event _ (λ n o no. cc) (λ n no. cc) at fits (sync-blocks mapping m.bytes m.entry.event own)
  told-change (command.Unmap mapping skip) m is at fits = other-change (command.Unmap mapping skip) m.entry.event _ (λ n o no. cc) (λ n no. cc) at fits (unmap-blocks mapping m.bytes m.entry.event own)
  told-change c m is at fits = other-change c m.entry.event (blocks_in own.blocks) (λ n o no. cc) (λ n no. cc) at fits refl

  pub step-change : (script : List Command) (c : Command) (m : Moved) → slice_get script m.entry.cmd ≡ Some c → ConvertsNothing c → IsUnconverting m.entry.event → OwnFits boot memory own c m.entry.event → Change memory (blocks_in own.blocks) (blocks_in (own_step script own m).blocks) m.entry.event
  step-change script c m its is at fits =
      let now : blocks_in (own_step script own m).blocks ≡ blocks_in (told (Some c) m own).blocks =
      ap blocks_in (ended-blocks m.entry.reply (told (slice_get script m.entry.cmd) m own)) ∙ ap (λ o. blocks_in (told o m own).blocks) its
      in
      subst (λ bs. Change memory (blocks_in own.blocks) bs m.entry.event) (sym now) (told-change c m is at fits)

-- ---- histories

area-own : (boot : Boot) (memory : List Entry) (own : Own) (c : Command) (e : Event) → IsOfArea e → OwnFits boot memory own c e
area-own boot memory own c (event.Got block) is = absurd is
area-own boot memory own c (event.Freed block) is = absurd is
area-own boot memory own c _ is = tt

-- the rows' events are such
pub own-rows : (boot : Boot) (memory : List Entry) (cpu : ℕ) (own : Own) (c : Command) → RowsHave (OwnFits boot memory own c) boot memory cpu own c
own-rows boot memory cpu own c = record {
  quiet = tt;
  asked = λ found. tt;
  claimed = λ block units none lowest. tt;
  reported = λ claim calls is. tt;
  got = λ name order block its is. (name, order, its, is);
  none = tt;
  freed = λ name h its has. (name, h, its, has, refl);
  touched = λ page found at. tt;
  area = area-own boot memory own c;
}

-- the blocks that each processor has after a history
abbrev blocks_of : List (List Command) → List Moved → ℕ → List Block
blocks_of scripts history cpu = blocks_in (own_after scripts history cpu).blocks

-- an event that isn't the memory's gets and frees nothing
pub quiet-elsewhere : (boot : Boot) (e : Event) → IsUnconverting e → same_place place.Memory (place_of boot e) ≡ false → IsQuiet e
quiet-elsewhere boot (event.Got block) is out = cc
quiet-elsewhere boot (event.Freed block) is out = cc
quiet-elsewhere boot (event.ConvertEnd block calls end) is out = absurd is
quiet-elsewhere boot _ is out = tt

quiet-fits : (boot : Boot) (memory : List Entry) (own : Own) (c : Command) (e : Event) → IsQuiet e → OwnFits boot memory own c e
quiet-fits boot memory own c (event.Got block) is = absurd is
quiet-fits boot memory own c (event.Freed block) is = absurd is
quiet-fits boot memory own c _ is = tt

quiet-changes-none : (memory : List Entry) (before after : List Block) (e : Event) → IsQuiet e → Change memory before after e → before ≡ after
quiet-changes-none memory before after e is (Same begun quiet) = begun
quiet-changes-none memory before after e is (Gets block got now none) = absurd (subst IsQuiet got is)
quiet-changes-none memory before after e is (Frees held name h freed begun now found) = absurd (subst IsQuiet freed is)

module _ (boot : Boot) (scripts : List (List Command)) (all : ConvertNothing scripts) where
  module _ (history : List Moved) (entry : Entry) (f : Follows boot scripts history entry) where
    -- the lists of the processors after the entry
    lists-grow : with_list (blocks_of scripts history) entry.cpu.0 (blocks_in (own_step (script_of scripts entry.cpu.0) (own_after scripts history entry.cpu.0) (with_bytes boot scripts history entry)).blocks) ≡ blocks_of scripts (history ++ with_bytes boot scripts history entry ∷ [])
    lists-grow =
        let moved = with_bytes boot scripts history entry in
        let after : List Block = blocks_in (own_step (script_of scripts entry.cpu.0) (own_after scripts history entry.cpu.0) moved).blocks in
        fun_ext
        (λ d. at-list (λ bs. bs ≡ blocks_of scripts (history ++ moved ∷ []) d) (blocks_of scripts history) entry.cpu.0 after d
        (λ same.
        let grown : after ≡ blocks_of scripts (history ++ moved ∷ []) entry.cpu.0 = ap (λ (o : Own). blocks_in o.blocks) (sym (own-grows (script_of scripts entry.cpu.0) entry.cpu.0 history moved (eq-eqb entry.cpu.0 entry.cpu.0 refl))) in
        grown ∙ ap (blocks_of scripts (history ++ moved ∷ [])) same)
        (λ differ. ap (λ (o : Own). blocks_in o.blocks) (sym (own-same (script_of scripts d) d history moved (ne_eqb entry.cpu.0 d differ)))))

    own-fits : OwnFits boot (entries_of (at_place entry.place history)) (own_after scripts history entry.cpu.0) (command-of boot scripts history entry f).command entry.event
    own-fits =
        let own = own_after scripts history entry.cpu.0 in
        let c = (command-of boot scripts history entry f).command in
        follows-row (OwnFits boot (entries_of (at_place entry.place history)) own c) boot scripts history entry all f (own-rows boot (entries_of (at_place entry.place history)) entry.cpu.0 own c)

    change : (memory : List Entry) → OwnFits boot memory (own_after scripts history entry.cpu.0) (command-of boot scripts history entry f).command entry.event
        → Change memory (blocks_of scripts history entry.cpu.0) (blocks_in (own_step (script_of scripts entry.cpu.0) (own_after scripts history entry.cpu.0) (with_bytes boot scripts history entry)).blocks) entry.event
    change memory fits =
        let found = command-of boot scripts history entry f in
        step-change boot memory (own_after scripts history entry.cpu.0) (script_of scripts entry.cpu.0) found.command (with_bytes boot scripts history entry) found.its
        (is-unconverting scripts entry.cpu.0 entry.cmd found.command all found.its) (follows-unconverting boot scripts history entry all f) fits

    owners-follow : OwnersStand (memory_of history) (blocks_of scripts history) → OwnersStand (memory_of (history ++ with_bytes boot scripts history entry ∷ [])) (blocks_of scripts (history ++ with_bytes boot scripts history entry ∷ []))
    owners-follow stands =
        let moved = with_bytes boot scripts history entry in
        let after : List Block = blocks_in (own_step (script_of scripts entry.cpu.0) (own_after scripts history entry.cpu.0) moved).blocks in
        elim (cases_Bool (same_place place.Memory entry.place)) [
          | inl t ↦
              (let at : entry.place ≡ place.Memory = same_place-Memory entry.place t in
              let fits = subst (λ p. OwnFits boot (entries_of (at_place p history)) (own_after scripts history entry.cpu.0) (command-of boot scripts history entry f).command entry.event) at own-fits in
              subst (λ es. OwnersStand es (blocks_of scripts (history ++ moved ∷ []))) (sym (memory-grows history moved t))
              (subst (OwnersStand (memory_of history ++ (bare moved).entry ∷ [])) lists-grow
              (owners-push (memory_of history) (bare moved).entry (blocks_of scripts history) entry.cpu.0 stands after (change (memory_of history) fits))))
          | inr out ↦
              (let is = quiet-elsewhere boot entry.event (follows-unconverting boot scripts history entry all f) (ap (same_place place.Memory) (sym f.over.place) ∙ out) in
              let fits = quiet-fits boot (memory_of history) (own_after scripts history entry.cpu.0) (command-of boot scripts history entry f).command entry.event is in
              let same : blocks_of scripts history entry.cpu.0 ≡ after = quiet-changes-none (memory_of history) (blocks_of scripts history entry.cpu.0) after entry.event is (change (memory_of history) fits) in
              let lists : blocks_of scripts history ≡ with_list (blocks_of scripts history) entry.cpu.0 after =
              fun_ext (λ d. at-list (λ bs. blocks_of scripts history d ≡ bs) (blocks_of scripts history) entry.cpu.0 after d (λ here. ap (blocks_of scripts history) (sym here) ∙ same) (λ differ. refl))
              in
              subst (λ es. OwnersStand es (blocks_of scripts (history ++ moved ∷ []))) (sym (memory-same history moved out))
              (subst (OwnersStand (memory_of history)) (lists ∙ lists-grow) stands))
        ]

  owners-after : (history : List Moved) (entries : List Entry) → OwnersStand (memory_of history) (blocks_of scripts history) → LegalAfter boot scripts history entries → OwnersStand (memory_of (moved_after boot scripts history entries)) (blocks_of scripts (moved_after boot scripts history entries))
  owners-after history [] stands legal = stands
  owners-after history (entry ∷ entries) stands legal = owners-after (history ++ with_bytes boot scripts history entry ∷ []) entries (owners-follow history entry legal.0 stands) legal.2

  none-first : (cpu : ℕ) → blocks_of scripts [] cpu ≡ []
  unfolding own_of
  none-first cpu = refl

  owners-first : OwnersStand (memory_of []) (blocks_of scripts [])
  owners-first = record {
    owned = λ cpu. subst (AllByRecursion (IsOwned (memory_of []))) (sym (none-first cpu)) tt;
    own = λ cpu. subst EachApart (sym (none-first cpu)) tt;
    others = λ cpu other differ. subst (AllByRecursion (λ b. ApartFrom b (blocks_of scripts [] other))) (sym (none-first cpu)) tt;
  }

-- blocks of two processors are apart
processors-apart : (scripts : List (List Command)) (history : List Moved) → OwnersStand (memory_of history) (blocks_of scripts history) → (cpu other : ℕ) (name of : List ℕ) (h k : Holding) → cpu ≢ other → block_named (own_after scripts history cpu) name ≡ Some h → block_named (own_after scripts history other) of ≡ Some k → AreApart h.block k.block
processors-apart scripts history stands cpu other name of h k differ first second =
    find-block (AreApart h.block) of (own_after scripts history other).blocks k
    (find-block (λ b. ApartFrom b (blocks_of scripts history other)) name (own_after scripts history cpu).blocks h (stands.others cpu other differ) first) second

pub blocks-apart : (boot : Boot) (scripts : List (List Command)) (entries : List Entry) → ConvertNothing scripts → Legal boot scripts entries → NamesApart scripts (with_moved boot scripts entries)
blocks-apart boot scripts entries all legal cpu other name of h k differ first second =
    let history = with_moved boot scripts entries in
    let stands = owners-after boot scripts all [] entries (owners-first boot scripts all) legal in
    elim (cases_Bool (cpu == other)) [
      | inr f ↦ processors-apart scripts history stands cpu other name of h k (λ same. (let no : true ≡ false = sym (eq-eqb cpu other same) ∙ f in cc)) first second
      | inl t ↦
          (let same : cpu ≡ other = eqb-true cpu other t in
          elim differ [
            | inl apart ↦ absurd (apart same)
            | inr names ↦ names-apart name of (own_after scripts history cpu).blocks h k names (stands.own cpu) first (ap (λ p. block_named (own_after scripts history p) of) same ∙ second)
          ])
    ]
