-- The replies of refusals, and what a command that isn't refused may rest on.
use Rattle.std.proofs.Common.{◌≡◌, ℕ, ◌+◌, ◌≤◌, Bool, true, false, Option, None, Some, refl, ap, subst, arith}
use Rattle.std.specs.Prelude.{◌==◌, IfSome, nat_lt}
use Rattle.std.specs.Option.{option_map}
use Rattle.std.proofs.lemmas.Bool.Decides.{nat_tests}
use Rattle.event_core.specs.declared.boot.Boot.{Boot}
use Rattle.event_core.specs.declared.command.Command.{Command}
use Rattle.event_core.specs.declared.command.Command.TheVariants as command
use Rattle.event_core.specs.declared.event.Event.TheVariants as event
use Rattle.event_core.specs.declared.reply.Reply.{Reply}
use Rattle.event_core.specs.declared.reply.Reply.TheVariants as reply
use Rattle.event_core.specs.Holdings.{Sharing, PrivateBlock, SharedBlock, HalfBlock, Holding, Own, block_named, mapping_named, block_bytes}
use Rattle.event_core.specs.Next.{Step, refused_or}
use Rattle.event_core.specs.Refusals.{refuse, unknown_or, unless_private, if_private, past_end, pool_refusal, memory_range_refusal, map_refusal, refusal_of}

-- ---- the replies

abbrev pub IsRefusal : Reply → Type 0
IsRefusal reply.Unknown = Unit {0}
IsRefusal reply.Taken = Unit {0}
IsRefusal reply.Range = Unit {0}
IsRefusal reply.IsShared = Unit {0}
IsRefusal reply.IsPrivate = Unit {0}
IsRefusal reply.Half = Unit {0}
IsRefusal reply.Mapped = Unit {0}
IsRefusal reply.TooLong = Unit {0}
IsRefusal reply.Zero = Unit {0}
IsRefusal reply.NoPool = Unit {0}
IsRefusal reply.Small = Unit {0}
IsRefusal reply.NoUnit = Unit {0}
IsRefusal _ = ⊥

pub record AreRefusals (refusal : Option Reply) : Type 0 where
  pub each : IfSome refusal IsRefusal

no-refusal : AreRefusals None
no-refusal = record { each = tt }

refuse-is : (r : Reply) (b : Bool) (others : Option Reply) → IsRefusal r → AreRefusals others → AreRefusals (refuse r b others)
refuse-is r true others is rest = record { each = is }
refuse-is r false others is rest = rest

unknown-is : {A : Type 0} (held : Option A) (conditions : A → Option Reply) → ((a : A) → AreRefusals (conditions a)) → AreRefusals (unknown_or held conditions)
unknown-is None conditions each = record { each = tt }
unknown-is (Some a) conditions each = each a

private-is : (sharing : Sharing) (others : Option Reply) → AreRefusals others → AreRefusals (unless_private sharing others)
private-is PrivateBlock others rest = rest
private-is SharedBlock others rest = record { each = tt }
private-is HalfBlock others rest = record { each = tt }

if-private-is : (sharing : Sharing) → AreRefusals (if_private sharing)
if-private-is PrivateBlock = record { each = tt }
if-private-is SharedBlock = no-refusal
if-private-is HalfBlock = no-refusal

past-is : (size off len : ℕ) → AreRefusals (past_end size off len)
past-is size off len = refuse-is reply.Range _ None tt no-refusal

range-is : (start len : ℕ) → AreRefusals (memory_range_refusal start len)
range-is start len = refuse-is reply.Zero _ _ tt (refuse-is reply.Range _ None tt no-refusal)

pool-is : (boot : Boot) (off len : ℕ) → AreRefusals (pool_refusal boot off len)
pool-is boot off len = refuse-is reply.Range _ _ tt (refuse-is reply.Range _ None tt no-refusal)

-- a command is refused by one of these
pub refusal-is : (boot : Boot) (own : Own) (c : Command) → AreRefusals (refusal_of boot own c)
refusal-is boot own (command.Alloc name order) = refuse-is reply.Taken _ None tt no-refusal
refusal-is boot own (command.Free name) = unknown-is (block_named own name) _ (λ h. private-is h.sharing _ (refuse-is reply.Mapped _ None tt no-refusal))
refusal-is boot own (command.Accept start len) = range-is start len
refusal-is boot own (command.Query start len) = range-is start len
refusal-is boot own (command.Read name off len) = unknown-is (block_named own name) _ (λ h. private-is h.sharing _ (refuse-is reply.Zero _ _ tt (past-is (block_bytes h.block) off len)))
refusal-is boot own (command.Write name off hex) = unknown-is (block_named own name) _ (λ h. private-is h.sharing _ (past-is (block_bytes h.block) off _))
refusal-is boot own (command.Fill name off len byte) = unknown-is (block_named own name) _ (λ h. private-is h.sharing _ (refuse-is reply.Zero _ _ tt (past-is (block_bytes h.block) off len)))
refusal-is boot own (command.Load name off) = unknown-is (block_named own name) _ (λ h. private-is h.sharing _ (refuse-is reply.Range _ None tt no-refusal))
refusal-is boot own (command.Share name) = unknown-is (block_named own name) _ (λ h. private-is h.sharing _ (refuse-is reply.Mapped _ None tt no-refusal))
refusal-is boot own (command.Private name) = unknown-is (block_named own name) _ (λ h. if-private-is h.sharing)
refusal-is boot own (command.Giveback name) =
    unknown-is (block_named own name) _ (λ h. private-is h.sharing _ (refuse-is reply.Mapped _ _ tt (refuse-is reply.Small _ _ tt (refuse-is reply.NoUnit _ None tt no-refusal))))
refusal-is boot own (command.Map mapping name off len direction mask) =
    refuse-is reply.Taken _ _ tt
    (unknown-is (block_named own name) _
    (λ h. private-is h.sharing _
    (refuse-is reply.Zero _ _ tt (refuse-is reply.Range _ _ tt (refuse-is reply.TooLong _ _ tt (refuse-is reply.NoPool _ None tt no-refusal))))))
refusal-is boot own (command.SyncDev mapping off len) = unknown-is (mapping_named own mapping) _ (λ m. refuse-is reply.Zero _ _ tt (past-is m.run.len off len))
refusal-is boot own (command.SyncCpu mapping off len) = unknown-is (mapping_named own mapping) _ (λ m. refuse-is reply.Zero _ _ tt (past-is m.run.len off len))
refusal-is boot own (command.Unmap mapping skip) = unknown-is (mapping_named own mapping) _ (λ m. no-refusal)
refusal-is boot own (command.DRead mapping off len) = unknown-is (mapping_named own mapping) _ (λ m. refuse-is reply.Zero _ _ tt (past-is m.run.len off len))
refusal-is boot own (command.DWrite mapping off hex) = unknown-is (mapping_named own mapping) _ (λ m. past-is m.run.len off _)
refusal-is boot own (command.HostRead off len) = refuse-is reply.NoPool _ _ tt (refuse-is reply.Zero _ _ tt (pool-is boot off len))
refusal-is boot own (command.HostWrite off hex) = refuse-is reply.NoPool _ _ tt (pool-is boot off _)

-- ---- steps

-- a step whose reply is none of these isn't refused
pub not-refused : (refusal : Option Reply) (step : Option Step) (s : Step) (told : Reply) → AreRefusals refusal → (IsRefusal told → ⊥) → refused_or refusal step ≡ Some s → s.reply ≡ Some told → step ≡ Some s
not-refused None step s told are other is replies = is
not-refused (Some r) step s told are other is replies =
    let said : Some (Some r) ≡ Some s.reply = ap (option_map (λ (t : Step). t.reply)) is in
    let same : r ≡ told = cc in
    absurd (other (subst IsRefusal same are.each))

-- nor is a step whose event isn't the processor's own
pub unrefused : (refusal : Option Reply) (step : Option Step) (s : Step) → (s.event ≡ event.Own → ⊥) → refused_or refusal step ≡ Some s → (refusal ≡ None) × (step ≡ Some s)
unrefused None step s other is = (refl, is)
unrefused (Some r) step s other is =
    let said : Some event.Own ≡ Some s.event = ap (option_map (λ (t : Step). t.event)) is in
    let own : s.event ≡ event.Own = cc in
    absurd (other own)

-- ---- what isn't refused

pub refuse-none : (r : Reply) (b : Bool) (others : Option Reply) → refuse r b others ≡ None → (b ≡ false) × (others ≡ None)
refuse-none r true others h = cc
refuse-none r false others h = (refl, h)

pub private-none : (sharing : Sharing) (others : Option Reply) → unless_private sharing others ≡ None → others ≡ None
private-none PrivateBlock others h = h
private-none SharedBlock others h = cc
private-none HalfBlock others h = cc

-- a range lies in what it is a range of
pub within-end : (size off len : ℕ) → past_end size off len ≡ None → off + len ≤ size
within-end size off len h =
    let out = (refuse-none reply.Range (nat_lt size (off + len)) None h).0 in
    grind (arith, nat_tests, out)

-- what is mapped lies in its block
pub map-within : (boot : Boot) (h : Holding) (off len mask : ℕ) → map_refusal boot h off len mask ≡ None → off + len ≤ block_bytes h.block
map-within boot h off len mask none =
    let some = (refuse-none reply.Zero (len == 0) _ (private-none h.sharing _ none)).1 in
    let out = (refuse-none reply.Range (nat_lt (block_bytes h.block) (off + len)) _ some).0 in
    grind (arith, nat_tests, out)
