use Rattle.std.proofs.Common.{◌≡◌, ℕ, ◌+◌, ◌-◌, ◌≤◌, not, Bool, true, false, Option, None, Some, List, [], ◌∷◌, refl, sym, ◌∙◌, ap, subst}
use Rattle.std.specs.Prelude.{length, nat_le, nat_lt, is_none, ◌*◌, ◌==◌, if◌then◌else◌}
use Rattle.guest_base.specs.Requests.{too_long}
use Rattle.guest_base.specs.declared.limits.TheConstants.{PAGE_BYTES, SLOT_BYTES}
use Rattle.std.specs.List.{repeat}
use Rattle.std.specs.Option.{ForSome, IsSome, IsSomeAnd, option_and_then, option_map}
use Rattle.event_core.specs.declared.boot.Boot.{Boot}
use Rattle.event_core.specs.declared.command.Command.{Command}
use Rattle.event_core.specs.declared.command.Command.TheVariants as command
use Rattle.event_core.specs.declared.entry.Entry.{Entry}
use Rattle.event_core.specs.declared.event.Event.{Event}
use Rattle.event_core.specs.declared.event.Event.TheVariants as event
use Rattle.event_core.specs.declared.reply.Reply.{Reply}
use Rattle.event_core.specs.declared.reply.Reply.TheVariants as reply
use Rattle.event_core.specs.Bytes.{row_of}
use Rattle.event_core.specs.Holdings.{Holding, HalfBlock, Mapping, Own, PrivateBlock, SharedBlock, Sharing, asks_in, asks_out, block_bytes, block_named, is_mapped, mapping_named}
use Rattle.event_core.specs.Moved.{Moved, entries_of}
use Rattle.event_core.specs.Next.{Step, copy_step, load_step, refused_or, replied_by, step_of, stray_step, unrefused_step}
use Rattle.event_core.specs.Own.{after_write}
use Rattle.event_core.specs.OwnRows.{is_inside}
use Rattle.event_core.specs.Pool.{area_of_offset}
use Rattle.event_core.specs.Refusals.{map_refusal, memory_range_refusal, past_end, pool_refusal, refusal_of, refuse, unknown_or, unless_private}
use Rattle.block_laws.specs.Unconverting.{ConvertsNothing}
use Rattle.held_blocks.specs.Holdings.{HoldingsValue, Leaves}
use Rattle.held_blocks.proofs.UnrefusedLemmas.{unrefused-load}
use Rattle.guest_steps.specs.Replies.{is_module}
use Rattle.guest_steps.specs.Seen.{need_for, need_of_copy, need_of_load, need_unless_refused, need_unrefused}
use Rattle.guest_steps.specs.declared.processor.Need.{Need}
use Rattle.guest_steps.specs.declared.processor.Need.TheVariants as need
use Rattle.guest_cpu.specs.Alone.{alone_reply, own_written, refusal_or, reply_alone}

-- What a command that ends by the processor alone is answered, and what it changes.

-- a boot, where any will do
abbrev pub any_boot : Boot
any_boot = record { ram = []; hosts = []; base = 0; unit = 2097152; bits = []; cpus = 1; slots = 0; areas = 1; pool = None; calls = [] }

-- ---- loads

is-some : (P : Holding → Type 0) (o : Option Holding) → IsSomeAnd o P → IsSome o
is-some P None has = absurd has
is-some P (Some h) has = refl

-- a load that isn't refused has a block
pub known-load : (boot : Boot) (own : Own) (name : List ℕ) (off : ℕ) → refusal_of boot own (command.Load name off) ≡ None → IsSome (block_named own name)
known-load boot own name off fine = is-some (λ (h : Holding). off + 1 ≤ block_bytes h.block) (block_named own name) (unrefused-load boot own name off fine)

inside-by : (b : Bool) → (if b then need.Own else need.Memory) ≡ need.Own → b ≡ true
inside-by true is = refl
inside-by false is = absurd (let no : need.Memory ≡ need.Own = is in cc)

outside-by : (b : Bool) → (if b then need.Own else need.Memory) ≡ need.Memory → b ≡ false
outside-by true is = absurd (let no : need.Own ≡ need.Memory = is in cc)
outside-by false is = refl

-- a load that needs the processor alone ends in its block
pub load-inside : (held : Option Holding) (off : ℕ) (h : Holding) → held ≡ Some h → need_of_load held off ≡ need.Own → is_inside h.block off ≡ true
load-inside held off h is asks =
    let N : Option Holding → Type 0 = λ o. need_of_load o off ≡ need.Own in
    inside-by (is_inside h.block off) (subst N is asks)

-- and one that needs the memory ends past it
pub load-outside : (held : Option Holding) (off : ℕ) (h : Holding) → held ≡ Some h → need_of_load held off ≡ need.Memory → is_inside h.block off ≡ false
load-outside held off h is asks =
    let N : Option Holding → Type 0 = λ o. need_of_load o off ≡ need.Memory in
    outside-by (is_inside h.block off) (subst N is asks)

inside-step : (boot : Boot) (memory : List Entry) (h : Holding) (off : ℕ) → is_inside h.block off ≡ true → load_step boot memory h off ≡ replied_by event.Own (reply.Loaded (row_of h.bytes off 8) None)
inside-step boot memory h off inside = ap by inside
  where
    by : Bool → Option Step
    by b = elim b as (λ _. Option Step) [ true ↦ replied_by event.Own (reply.Loaded (row_of h.bytes off 8) None) | false ↦ stray_step boot memory h off ]

-- ---- writes

-- a write to a block that is held leaves the layout
pub layout-stays : (P : Holding → Type 0) (o : Option Holding) (old new : HoldingsValue) (left : Holding → Own) → IsSomeAnd o P → ForSome o (λ (h : Holding). Leaves old new (left h)) → new.layout ≡ old.layout
layout-stays P None old new left has told = absurd has
layout-stays P (Some h) old new left has told = (told h refl).layout

-- ---- the step

-- what is told of a named block is the step's reply
told-step : (held : Option Holding) (tell : Holding → Reply) (told : Reply) → option_map tell held ≡ Some told → option_and_then (λ (h : Holding). replied_by event.Own (tell h)) held ≡ replied_by event.Own told
told-step None tell told is = absurd (let no : None ≡ Some told = is in cc)
told-step (Some h) tell told is = ap (option_and_then (λ (r : Reply). replied_by event.Own r)) is

load-alone : (boot : Boot) (memory : List Entry) (held : Option Holding) (off : ℕ) (told : Reply) → need_of_load held off ≡ need.Own → option_map (λ (h : Holding). reply.Loaded (row_of h.bytes off 8) None) held ≡ Some told
    → option_and_then (λ (h : Holding). load_step boot memory h off) held ≡ replied_by event.Own told
load-alone boot memory None off told asks is = absurd (let no : None ≡ Some told = is in cc)
load-alone boot memory (Some h) off told asks is =
    inside-step boot memory h off (inside-by (is_inside h.block off) asks) ∙ ap (option_and_then (λ (r : Reply). replied_by event.Own r)) is

-- a copy that its mapping doesn't ask for
copy-alone : (held : Option Mapping) (asks_for : Mapping → Bool) (copy : Mapping → Event) (told : Reply) → need_of_copy held asks_for ≡ need.Own → (let done : Option Reply = Some reply.Done in done ≡ Some told)
    → option_and_then (λ (m : Mapping). copy_step (asks_for m) (copy m)) held ≡ replied_by event.Own told
copy-alone None asks_for copy told asks is = absurd (let no : need.Memory ≡ need.Own = asks in cc)
copy-alone (Some m) asks_for copy told asks is = by_asked (asks_for m) asks
  where
    by_asked : (b : Bool) → (if b then need.Area m.run.area else need.Own) ≡ need.Own → copy_step b (copy m) ≡ replied_by event.Own told
    by_asked true other = absurd (let bad : need.Area m.run.area ≡ need.Own = other in cc)
    by_asked false done = ap (option_and_then (λ (r : Reply). replied_by event.Own r)) is

unrefused-alone : (boot : Boot) (cpu : ℕ) (own : Own) (there : List Moved) (c : Command) (told : Reply) → need_unrefused boot cpu own c ≡ need.Own → reply_alone own c ≡ Some told
    → unrefused_step boot cpu own there c [] ≡ Some (record { event = event.Own; reply = Some told })
unrefused-alone boot cpu own there (command.Read name off len) told asks is = told-step (block_named own name) (λ (h : Holding). reply.Hex (row_of h.bytes off len)) told is
unrefused-alone boot cpu own there (command.Write name off hex) told asks is = ap (option_and_then (λ (r : Reply). replied_by event.Own r)) is
unrefused-alone boot cpu own there (command.Fill name off len byte) told asks is = ap (option_and_then (λ (r : Reply). replied_by event.Own r)) is
unrefused-alone boot cpu own there (command.Load name off) told asks is = load-alone boot (entries_of there) (block_named own name) off told asks is
unrefused-alone boot cpu own there (command.SyncDev mapping off len) told asks is = copy-alone (mapping_named own mapping) (λ (m : Mapping). asks_in m.direction) (λ (m : Mapping). event.CopiedIn m.run off len) told asks is
unrefused-alone boot cpu own there (command.SyncCpu mapping off len) told asks is = copy-alone (mapping_named own mapping) (λ (m : Mapping). asks_out m.direction) (λ (m : Mapping). event.CopiedOut m.run off len) told asks is
unrefused-alone boot cpu own there _ told asks is = absurd (let no : None ≡ Some told = is in cc)

alone-by : (r told_is : Option Reply) (n : Need) (step : Option Step) (told : Reply) → need_unless_refused r n ≡ need.Own → refusal_or r told_is ≡ Some told
    → (n ≡ need.Own → told_is ≡ Some told → step ≡ Some (record { event = event.Own; reply = Some told }))
    → refused_or r step ≡ Some (record { event = event.Own; reply = Some told })
alone-by (Some refusal) told_is n step told asks is unrefused = ap (option_and_then (λ (x : Reply). replied_by event.Own x)) is
alone-by None told_is n step told asks is unrefused = unrefused asks is

-- a command that ends by the processor alone steps so, whatever the memory
pub alone-step : (boot : Boot) (cpu : ℕ) (own : Own) (there : List Moved) (c : Command) (told : Reply) → need_for boot cpu own (Some c) ≡ need.Own → alone_reply boot own c ≡ Some told
    → step_of boot cpu own there c [] ≡ Some (record { event = event.Own; reply = Some told })
alone-step boot cpu own there c told asks is =
    alone-by (refusal_of boot own c) (reply_alone own c) (need_unrefused boot cpu own c) (unrefused_step boot cpu own there c []) told asks is
    (λ n t. unrefused-alone boot cpu own there c told n t)

-- ---- refusals

-- a refusal doesn't say that the module failed, and no byte is written by it
pub record IsRefusal (r : Reply) : Type 0 where
  pub sound : is_module (Some r) ≡ false
  pub writes : (name : List ℕ) (off : ℕ) (more : List ℕ) (own : Own) → after_write name off more (Some r) own ≡ own

abbrev pub Refuses : Option Reply → Type 0
Refuses None = Unit {0}
Refuses (Some r) = IsRefusal r

if-refused : (r : Reply) (b : Bool) (others : Option Reply) → IsRefusal r → Refuses others → Refuses (refuse r b others)
if-refused r true others first rest = first
if-refused r false others first rest = rest

zero-is : IsRefusal reply.Zero
zero-is = record { sound = refl; writes = λ name off more own. refl }

range-is : IsRefusal reply.Range
range-is = record { sound = refl; writes = λ name off more own. refl }

taken-is : IsRefusal reply.Taken
taken-is = record { sound = refl; writes = λ name off more own. refl }

mapped-is : IsRefusal reply.Mapped
mapped-is = record { sound = refl; writes = λ name off more own. refl }

long-is : IsRefusal reply.TooLong
long-is = record { sound = refl; writes = λ name off more own. refl }

no-pool-is : IsRefusal reply.NoPool
no-pool-is = record { sound = refl; writes = λ name off more own. refl }

range-refused : (start len : ℕ) → Refuses (memory_range_refusal start len)
range-refused start len = if-refused reply.Zero (len == 0) _ zero-is (if-refused reply.Range _ None range-is tt)

bytes-refused : (size off len : ℕ) → Refuses (past_end size off len)
bytes-refused size off len = if-refused reply.Range (nat_lt size _) None range-is tt

span-refused : (size off len : ℕ) → Refuses (refuse reply.Zero (len == 0) (past_end size off len))
span-refused size off len = if-refused reply.Zero (len == 0) _ zero-is (bytes-refused size off len)

private-refused : (sharing : Sharing) (others : Option Reply) → Refuses others → Refuses (unless_private sharing others)
private-refused PrivateBlock others rest = rest
private-refused SharedBlock others rest = record { sound = refl; writes = λ name off more own. refl }
private-refused HalfBlock others rest = record { sound = refl; writes = λ name off more own. refl }

named-refused : (held : Option Holding) (conditions : Holding → Option Reply) → ((h : Holding) → Refuses (conditions h)) → Refuses (unknown_or held (λ h. unless_private h.sharing (conditions h)))
named-refused None conditions each = record { sound = refl; writes = λ name off more own. refl }
named-refused (Some h) conditions each = private-refused h.sharing (conditions h) (each h)

mapped-refused : (held : Option Mapping) (conditions : Mapping → Option Reply) → ((m : Mapping) → Refuses (conditions m)) → Refuses (unknown_or held conditions)
mapped-refused None conditions each = record { sound = refl; writes = λ name off more own. refl }
mapped-refused (Some m) conditions each = each m

pool-refused : (boot : Boot) (off len : ℕ) → Refuses (pool_refusal boot off len)
pool-refused boot off len =
    let apart : Bool = not (area_of_offset boot off == area_of_offset boot (off + len - 1)) in
    if-refused reply.Range (nat_lt (SLOT_BYTES * boot.slots) (off + len)) (refuse reply.Range apart None) range-is (if-refused reply.Range apart None range-is tt)

map-refused : (empty past long none : Bool) → Refuses (refuse reply.Zero empty (refuse reply.Range past (refuse reply.TooLong long (refuse reply.NoPool none None))))
map-refused empty past long none =
    if-refused reply.Zero empty (refuse reply.Range past (refuse reply.TooLong long (refuse reply.NoPool none None))) zero-is (
    if-refused reply.Range past (refuse reply.TooLong long (refuse reply.NoPool none None)) range-is (if-refused reply.TooLong long (refuse reply.NoPool none None) long-is (if-refused reply.NoPool none None no-pool-is tt))
    )

refused : (boot : Boot) (own : Own) (c : Command) → ConvertsNothing c → Refuses (refusal_of boot own c)
refused boot own (command.Alloc name order) unconverting = if-refused reply.Taken _ None taken-is tt
refused boot own (command.Free name) unconverting = named-refused (block_named own name) (λ h. refuse reply.Mapped (is_mapped own h.block) None) (λ h. if-refused reply.Mapped _ None mapped-is tt)
refused boot own (command.Accept start len) unconverting = range-refused start len
refused boot own (command.Query start len) unconverting = range-refused start len
refused boot own (command.Read name off len) unconverting = named-refused (block_named own name) (λ h. refuse reply.Zero (len == 0) (past_end (block_bytes h.block) off len)) (λ h. span-refused (block_bytes h.block) off len)
refused boot own (command.Write name off hex) unconverting = named-refused (block_named own name) (λ h. past_end (block_bytes h.block) off (length hex)) (λ h. bytes-refused (block_bytes h.block) off (length hex))
refused boot own (command.Fill name off len byte) unconverting = named-refused (block_named own name) (λ h. refuse reply.Zero (len == 0) (past_end (block_bytes h.block) off len)) (λ h. span-refused (block_bytes h.block) off len)
refused boot own (command.Load name off) unconverting = named-refused (block_named own name) (λ h. refuse reply.Range (nat_le (block_bytes h.block) off) None) (λ h. if-refused reply.Range _ None range-is tt)
refused boot own (command.Map mapping name off len direction mask) unconverting = if-refused reply.Taken _ (unknown_or (block_named own name) (λ h. map_refusal boot h off len mask)) taken-is (
    named-refused (block_named own name) (λ h. refuse reply.Zero (len == 0) (refuse reply.Range (nat_lt (block_bytes h.block) (off + len)) (refuse reply.TooLong (too_long (PAGE_BYTES * h.block.first + off) len mask) (refuse reply.NoPool (is_none boot.pool) None))))
    (λ h. map-refused (len == 0) (nat_lt (block_bytes h.block) (off + len)) (too_long (PAGE_BYTES * h.block.first + off) len mask) (is_none boot.pool))
    )
refused boot own (command.SyncDev mapping off len) unconverting = mapped-refused (mapping_named own mapping) (λ m. refuse reply.Zero (len == 0) (past_end m.run.len off len)) (λ m. span-refused m.run.len off len)
refused boot own (command.SyncCpu mapping off len) unconverting = mapped-refused (mapping_named own mapping) (λ m. refuse reply.Zero (len == 0) (past_end m.run.len off len)) (λ m. span-refused m.run.len off len)
refused boot own (command.Unmap mapping skip) unconverting = mapped-refused (mapping_named own mapping) (λ m. None) (λ m. tt)
refused boot own (command.DRead mapping off len) unconverting = mapped-refused (mapping_named own mapping) (λ m. refuse reply.Zero (len == 0) (past_end m.run.len off len)) (λ m. span-refused m.run.len off len)
refused boot own (command.DWrite mapping off hex) unconverting = mapped-refused (mapping_named own mapping) (λ m. past_end m.run.len off (length hex)) (λ m. bytes-refused m.run.len off (length hex))
refused boot own (command.HostRead off len) unconverting = if-refused reply.NoPool _ _ no-pool-is (if-refused reply.Zero (len == 0) _ zero-is (pool-refused boot off len))
refused boot own (command.HostWrite off hex) unconverting = if-refused reply.NoPool _ _ no-pool-is (pool-refused boot off (length hex))
refused boot own _ unconverting = absurd unconverting

is-refusal : (o : Option Reply) (r : Reply) → Refuses o → o ≡ Some r → IsRefusal r
is-refusal o r each is = let R : Option Reply → Type 0 = λ x. Refuses x in subst R is each

pub refusal-is : (boot : Boot) (own : Own) (c : Command) (r : Reply) → ConvertsNothing c → refusal_of boot own c ≡ Some r → IsRefusal r
refusal-is boot own c r unconverting is = is-refusal (refusal_of boot own c) r (refused boot own c unconverting) is

-- a refused command changes nothing
pub refusal-leaves : (boot : Boot) (own : Own) (c : Command) (r : Reply) → ConvertsNothing c → refusal_of boot own c ≡ Some r → own_written c (Some r) own ≡ own
refusal-leaves boot own (command.Write name off hex) r unconverting is = (refusal-is boot own (command.Write name off hex) r unconverting is).writes name off hex own
refusal-leaves boot own (command.Fill name off len byte) r unconverting is = (refusal-is boot own (command.Fill name off len byte) r unconverting is).writes name off (repeat len (byte ∷ [])) own
refusal-leaves boot own _ r unconverting is = refl

-- ---- no such reply says that the module failed

told-sound : (held : Option Holding) (tell : Holding → Reply) (r : Reply) → ((h : Holding) → is_module (Some (tell h)) ≡ false) → option_map tell held ≡ Some r → is_module (Some r) ≡ false
told-sound None tell r each is = absurd (let no : None ≡ Some r = is in cc)
told-sound (Some h) tell r each is = ap is_module (sym is) ∙ each h

unrefused-sound : (own : Own) (c : Command) (r : Reply) → reply_alone own c ≡ Some r → is_module (Some r) ≡ false
unrefused-sound own (command.Read name off len) r is = told-sound (block_named own name) (λ (h : Holding). reply.Hex (row_of h.bytes off len)) r (λ h. refl) is
unrefused-sound own (command.Write name off hex) r is = ap is_module (sym is)
unrefused-sound own (command.Fill name off len byte) r is = ap is_module (sym is)
unrefused-sound own (command.Load name off) r is = told-sound (block_named own name) (λ (h : Holding). reply.Loaded (row_of h.bytes off 8) None) r (λ h. refl) is
unrefused-sound own (command.SyncDev mapping off len) r is = ap is_module (sym is)
unrefused-sound own (command.SyncCpu mapping off len) r is = ap is_module (sym is)
unrefused-sound own _ r is = absurd (let no : None ≡ Some r = is in cc)

sound-by : (refusal told_is : Option Reply) (r : Reply) → Refuses refusal → (told_is ≡ Some r → is_module (Some r) ≡ false) → refusal_or refusal told_is ≡ Some r → is_module (Some r) ≡ false
sound-by (Some x) told_is r refuses told is = ap is_module (sym is) ∙ refuses.sound
sound-by None told_is r refuses told is = told is

pub alone-sound : (boot : Boot) (own : Own) (c : Command) (r : Reply) → ConvertsNothing c → alone_reply boot own c ≡ Some r → is_module (Some r) ≡ false
alone-sound boot own c r unconverting is =
    sound-by (refusal_of boot own c) (reply_alone own c) r (refused boot own c unconverting) (λ told. unrefused-sound own c r told) is
