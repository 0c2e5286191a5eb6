use Rattle.std.proofs.Common.{◌≡◌, ℕ, ◌+◌, ◌*◌, ◌/◌, ◌-◌, ◌≤◌, ◌==◌, Bool, true, false, Option, None, Some, List, [], ◌∷◌, ◌++◌, max, Ok, All, length, find, bytes_eq, cond, not, nat_lt, refl, sym, ap, subst, ◌∙◌, inl, inr, arith}
use Rattle.std.specs.Option.{ForSome, IsSome, option_map}
use Rattle.std.proofs.lemmas.Bool.{cases_Bool}
use Rattle.std.proofs.lemmas.List.Elements.{All-head, All-tail}
use Rattle.std.proofs.lemmas.Option.{same_Some}
use Rattle.guest_base.specs.declared.limits.TheConstants.{SLOT_BYTES}
use Rattle.guest_base.specs.declared.transfer.SlotRun.{SlotRun}
use Rattle.event_core.specs.declared.boot.Boot.{Boot}
use Rattle.event_core.specs.declared.command.Command.{Command}
use Rattle.event_core.specs.declared.command.Command.TheVariants as command
use Rattle.event_core.specs.declared.entry.Turn.{Turn}
use Rattle.event_core.specs.declared.event.Event.{Event}
use Rattle.event_core.specs.declared.reply.Reply.{Reply}
use Rattle.event_core.specs.declared.reply.Reply.TheVariants as reply
use Rattle.event_core.specs.Bytes.{row_of}
use Rattle.event_core.specs.Holdings.{Mapping, Own, mapping_named}
use Rattle.event_core.specs.Legal.{greatest_stamp}
use Rattle.event_core.specs.Moved.{Moved}
use Rattle.event_core.specs.Next.{unrefused_step}
use Rattle.event_core.specs.Own.{told}
use Rattle.event_core.specs.Pool.{area_of_offset}
use Rattle.event_core.specs.PoolBytes.{pool_byte}
use Rattle.event_core.specs.Refusals.{pool_refusal, refuse}
use Rattle.dma_map.specs.Kept.{live_of}
use Rattle.dma_map.specs.Pools.{HasPool, IsLayout}
use Rattle.dma_map.specs.declared.kept.Live.{Live}
use Rattle.dma_map.specs.declared.pool.Layout.{Layout}
use Rattle.dma_map.proofs.AreaLemmas.{lies-in}
use Rattle.pool_laws.specs.Live.{is_live, live_of as runs_of}
use Rattle.io_areas.specs.Value.{AreaValue, Appends, HasSizeOf, IsMine, LiesIn, entry_by}
use Rattle.held_blocks.specs.Holdings.{HoldingsValue, own_in as own_held}
use Rattle.held_blocks.proofs.UnrefusedLemmas.{unrefused-host-read, unrefused-host-write}
use Rattle.guest_steps.specs.Seen.{need_of_copy, need_of_mapping}
use Rattle.guest_steps.specs.Steps.{AreaRoomAlone}
use Rattle.guest_steps.specs.declared.processor.Need.TheVariants as need
use Rattle.guest_cpu.specs.declared.access.Access.{Access}
use Rattle.guest_cpu.specs.Accessing.{AccessedBy, MayAccess, MayAccessWith, entry_in, moved_for}

-- A command's step in an area: what it finds there, and what it makes.

-- ---- an area in which room was taken

pub mine-still : (area between : AreaValue) (cpu : ℕ) (run : SlotRun) → AreaRoomAlone area between → IsMine area cpu run → IsMine between cpu run
mine-still area between cpu run alone mine = ap (λ (ms : List Moved). is_live run (runs_of cpu ms)) alone.moved ∙ mine

pub size-still : (boot : Boot) (area between : AreaValue) → AreaRoomAlone area between → HasSizeOf boot area → HasSizeOf boot between
size-still boot area between alone size = size ∙ sym alone.slots

lies-still : (area between : AreaValue) (off len : ℕ) → AreaRoomAlone area between → LiesIn area off len → LiesIn between off len
lies-still area between off len alone lies =
    let number = alone.number in
    let slots = alone.slots in
    record { low = rw (number, slots) lies.low; high = rw (number, slots) lies.high }

appends-over : (area between after : AreaValue) (turn turned : Turn) (event : Event) (bytes : List ℕ) → AreaRoomAlone area between → Appends between after turn turned event bytes → Appends area after turn turned event bytes
appends-over area between after turn turned event bytes alone appends =
    let behind : AreaValue → List Moved = λ a. a.moved ++ entry_by a turn event bytes ∷ [] in
    let turned_by : List Moved → Turn = λ ms. record turn { clock = max turn.clock (greatest_stamp ms) + 1 } in
    record {
      number = appends.number ∙ alone.number;
      slots = appends.slots ∙ alone.slots;
      moved = appends.moved ∙ ap (λ (n : ℕ). behind (record between { number = n })) alone.number ∙ ap (λ (ms : List Moved). behind (record area { moved = ms })) alone.moved;
      clock = appends.clock ∙ ap turned_by alone.moved;
      room = appends.room;
    }

-- the bytes that were read of the pool
pub row-still : (boot : Boot) (area between : AreaValue) (at len n : ℕ) (out : List ℕ) → AreaRoomAlone area between → HasSizeOf boot area → n ≡ len
    → (HasSizeOf boot between → out ≡ row_of (pool_byte boot between.moved) at n) → out ≡ row_of (pool_byte boot area.moved) at len
row-still boot area between at len n out alone size long read =
    read (size-still boot area between alone size)
    ∙ ap (λ (ms : List Moved). row_of (pool_byte boot ms) at n) alone.moved
    ∙ ap (λ (k : ℕ). row_of (pool_byte boot area.moved) at k) long

-- ---- what was made

-- what the row of a command says of a step
pub record Tells (boot : Boot) (own now : Own) (area : AreaValue) (turn turned : Turn) (c : Command) (event : Event) (reply : Option Reply) (bytes : List ℕ) : Type 0 where
  pub step : unrefused_step boot turn.cpu.0 own area.moved c [] ≡ Some (record { event = event; reply = reply })
  pub moves : bytes ≡ moved_for boot own area.moved c event
  pub holds : now ≡ told (Some c) (entry_in area.number turned event reply bytes) own

-- a step was made, behind room that was taken for it
pub access-made : (held now : HoldingsValue) (area between after : AreaValue) (turn turned : Turn) (c : Command) (event : Event) (reply : Option Reply) (bytes : List ℕ) (a : Access)
    → a ≡ record { event = event; reply = reply; bytes = bytes } → now.layout ≡ held.layout → AreaRoomAlone area between → Appends between after turn turned event bytes
    → ((boot : Boot) → HasPool boot held.layout → MayAccess boot (own_held held) area turn c → Tells boot (own_held held) (own_held now) area turn turned c event reply bytes)
    → AccessedBy held now area after turn turned c (Ok a)
access-made held now area between after turn turned c event reply bytes a is layout alone appends tells =
    let R : Access → Type 0 = λ x. AccessedBy held now area after turn turned c (Ok x) in
    subst R (sym is) (record {
      made = λ boot pool may.
          (let t = tells boot pool may in
          record { step = t.step; moves = t.moves; appends = appends-over area between after turn turned event bytes alone appends; holds = t.holds });
      layout = layout;
      refused = tt;
    })

-- ---- the mapping of a name

-- a live mapping of the processor in the area has the name
pub record IsHere (own : Own) (area : AreaValue) (cpu : ℕ) (mapping : List ℕ) (l : Live) : Type 0 where
  pub m : Mapping
  pub named : mapping_named own mapping ≡ Some m
  pub live : live_of m ≡ l
  pub mine : IsMine area cpu l.run

found-has : (P : Mapping → Type 0) (test : Mapping → Bool) (ms : List Mapping) (m : Mapping) → All P ms → find test ms ≡ Some m → P m
found-has P test [] m all is = absurd (grind (arith, is))
found-has P test (x ∷ xs) m all is =
    elim (cases_Bool (test x)) [
      | inl t ↦ subst P (same_Some _ _ (rw t at is)) (All-head P x xs all)
      | inr f ↦ found-has P test xs m (All-tail P x xs all) (rw f at is)
    ]

-- the processor's mappings in an area are live
abbrev pub AreMine : Own → AreaValue → ℕ → Type 0
AreMine own area cpu = All (λ (m : Mapping). m.run.area ≡ area.number → IsMine area cpu m.run) own.mappings

same-area : (a b : ℕ) → need.Area a ≡ need.Area b → a ≡ b
same-area a b is = cc

asked : (b : Bool) (a n : ℕ) → cond b (need.Area a) need.Own ≡ need.Area n → (b ≡ true) × (a ≡ n)
asked true a n is = (refl, same-area a n is)
asked false a n is = absurd (let no : need.Own ≡ need.Area n = is in cc)

here-by : (own : Own) (area : AreaValue) (cpu : ℕ) (mapping : List ℕ) (l : Live) (m : Mapping) → mapping_named own mapping ≡ Some m → live_of m ≡ l → m.run.area ≡ area.number → AreMine own area cpu → IsHere own area cpu mapping l
here-by own area cpu mapping l m named live here mine =
    let M : Live → Type 0 = λ x. IsMine area cpu x.run in
    let P : Mapping → Type 0 = λ x. x.run.area ≡ area.number → IsMine area cpu x.run in
    record { m = m; named = named; live = live; mine = subst M live (found-has P (λ (x : Mapping). bytes_eq x.name mapping) own.mappings m mine named here) }

-- a command about a mapping needs its area
pub mapping-here : (own : Own) (area : AreaValue) (cpu : ℕ) (mapping : List ℕ) (l : Live) → option_map live_of (mapping_named own mapping) ≡ Some l → need_of_mapping (mapping_named own mapping) ≡ need.Area area.number → AreMine own area cpu → IsHere own area cpu mapping l
mapping-here own area cpu mapping l live needs mine = of (mapping_named own mapping) refl live needs
  where
    of : (o : Option Mapping) → mapping_named own mapping ≡ o → option_map live_of o ≡ Some l → need_of_mapping o ≡ need.Area area.number → IsHere own area cpu mapping l
    of None named live needs = absurd (grind (arith, live))
    of (Some m) named live needs = here-by own area cpu mapping l m named (same_Some _ _ live) (same-area m.run.area area.number needs) mine

-- and a copy where the mapping's direction asks for it
pub copy-here : (own : Own) (area : AreaValue) (cpu : ℕ) (mapping : List ℕ) (l : Live) (asks : Mapping → Bool) → option_map live_of (mapping_named own mapping) ≡ Some l → need_of_copy (mapping_named own mapping) asks ≡ need.Area area.number → AreMine own area cpu
    → (h : IsHere own area cpu mapping l) × (asks h.m ≡ true)
unfolding here-by
copy-here own area cpu mapping l asks live needs mine = of (mapping_named own mapping) refl live needs
  where
    of : (o : Option Mapping) → mapping_named own mapping ≡ o → option_map live_of o ≡ Some l → need_of_copy o asks ≡ need.Area area.number → (h : IsHere own area cpu mapping l) × (asks h.m ≡ true)
    of None named live needs = absurd (grind (arith, live))
    of (Some m) named live needs =
        let a = asked (asks m) m.run.area area.number needs in
        (here-by own area cpu mapping l m named (same_Some _ _ live) a.1 mine, a.0)

-- ---- a range of the pool

told-none : (r : Reply) → Some r ≡ None → ⊥
told-none r is = grind (arith, is)

ends-inside : (boot : Boot) (off len : ℕ) → pool_refusal boot off len ≡ None → (off + len ≤ SLOT_BYTES * boot.slots) × (area_of_offset boot off ≡ area_of_offset boot (off + len - 1))
ends-inside boot off len is =
    let a : ℕ = area_of_offset boot off in
    let b : ℕ = area_of_offset boot (off + len - 1) in
    elim (cases_Bool (nat_lt (SLOT_BYTES * boot.slots) (off + len))) [
      | inl t ↦ absurd (told-none reply.Range (rw t at is))
      | inr f ↦
          let p : refuse reply.Range (not (a == b)) None ≡ None = rw f at is in
          (grind (arith, f), elim (cases_Bool (a == b)) [ inl t ↦ grind (arith, t) | inr g ↦ absurd (told-none reply.Range (rw g at p)) ])
    ]

-- a range that isn't refused lies in the area that it needs
host-lies : (boot : Boot) (layout : Option Layout) (area : AreaValue) (off len : ℕ) → HasPool boot layout → ForSome layout IsLayout → HasSizeOf boot area → IsSome boot.pool
    → pool_refusal boot off len ≡ None → need.Area (area_of_offset boot off) ≡ need.Area area.number → LiesIn area off len
host-lies boot None area off len has laid_out size pool fine needs = absurd (grind (arith, has, pool))
host-lies boot (Some layout) area off len has laid_out size pool fine needs =
    let laid = laid_out layout refl in
    let inside = ends-inside boot off len fine in
    let each : ℕ = layout.slots / layout.areas in
    let of_boot : boot.slots / boot.areas ≡ each = ap (λ (n : ℕ). n / boot.areas) has.slots ∙ ap (λ (n : ℕ). layout.slots / n) has.areas in
    let slots : area.slots ≡ each = sym size ∙ of_boot in
    let number : area.number ≡ off / (2048 * each) = sym (same-area _ _ needs) ∙ ap (λ (n : ℕ). off / (2048 * n)) of_boot in
    let same : off / (2048 * each) ≡ (off + len - 1) / (2048 * each) = sym (ap (λ (n : ℕ). off / (2048 * n)) of_boot) ∙ inside.1 ∙ ap (λ (n : ℕ). (off + len - 1) / (2048 * n)) of_boot in
    let all = has.slots in
    let ends = inside.0 in
    let lies = lies-in layout off len laid (omega (arith, ends, all)) same in
    record { low = rw (number, slots) lies.low; high = rw (number, slots) lies.high }

-- the host's accesses lie in the area
pub read-inside : (held : HoldingsValue) (area between : AreaValue) (turn : Turn) (off len n : ℕ) → MayAccessWith held area turn (command.HostRead off len) → AreaRoomAlone area between → n ≡ len → LiesIn between off n
read-inside held area between turn off len n may alone long =
    let m = may.4 in
    let fine = unrefused-host-read may.0 (own_held held) off len m.fine in
    subst (LiesIn between off) (sym long) (lies-still area between off len alone (host-lies may.0 held.layout area off len may.1 may.2 m.size fine.0 fine.2 m.need))

pub write-inside : (held : HoldingsValue) (area between : AreaValue) (turn : Turn) (off : ℕ) (hex : List ℕ) (n : ℕ) → MayAccessWith held area turn (command.HostWrite off hex) → AreaRoomAlone area between → n ≡ length hex → LiesIn between off n
write-inside held area between turn off hex n may alone long =
    let m = may.4 in
    let fine = unrefused-host-write may.0 (own_held held) off hex m.fine in
    subst (LiesIn between off) (sym long) (lies-still area between off (length hex) alone (host-lies may.0 held.layout area off (length hex) may.1 may.2 m.size fine.0 fine.1 m.need))
