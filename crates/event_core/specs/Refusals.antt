use Rattle.std.specs.Prelude.{ℕ, Option, None, Some, Bool, not, ◌+◌, ◌-◌, ◌*◌, ◌^◌, ◌==◌, nat_lt, nat_le, is_some, is_none, length, if◌then◌else◌}
use Rattle.guest_base.specs.declared.limits.TheConstants.{ADDRESS_END, SLOT_BYTES, PAGE_BYTES}
use Rattle.guest_base.specs.Requests.{too_long}
use Rattle.guest_base.specs.declared.memory.Block.{Block}
use Rattle.event_core.specs.declared.boot.Boot.{Boot}
use Rattle.event_core.specs.declared.command.Command.{Command}
use Rattle.event_core.specs.declared.command.Command.TheVariants.{Alloc, Free, Accept, Query, Read, Write, Fill, Load, Share, Private, Giveback, Map, SyncDev, SyncCpu, Unmap, DRead, DWrite, HostRead, HostWrite}
use Rattle.event_core.specs.declared.reply.Reply.{Reply}
use Rattle.event_core.specs.declared.reply.Reply.TheVariants.{Unknown, Taken, Range, IsShared, IsPrivate, Half, Mapped, TooLong, Zero, NoPool, Small, NoUnit}
use Rattle.event_core.specs.Holdings.{Sharing, PrivateBlock, SharedBlock, HalfBlock, Holding, Own, block_named, mapping_named, is_mapped, block_bytes}
use Rattle.event_core.specs.Pool.{area_of_offset}
use Rattle.event_core.specs.Units.{in_units}

-- The refusals of a command, the first one that holds (own rule).

-- this reply where its condition holds, else what the conditions behind it say
abbrev pub refuse : Reply → Bool → Option Reply → Option Reply
refuse reply condition others = if condition then Some reply else others

-- a range of memory has a byte and ends within 2^40
abbrev pub memory_range_refusal : ℕ → ℕ → Option Reply
memory_range_refusal start len = refuse Zero (len == 0) (refuse Range (nat_lt ADDRESS_END (start + len)) None)

-- the processor has no block, or no mapping, of the name; else what its conditions say
abbrev pub unknown_or : {A : Type 0} → Option A → (A → Option Reply) → Option Reply
unknown_or None conditions = Some Unknown
unknown_or (Some held) conditions = conditions held

-- a block that isn't private is shared or half; else what the conditions behind say
abbrev pub unless_private : Sharing → Option Reply → Option Reply
unless_private PrivateBlock others = others
unless_private SharedBlock others = Some IsShared
unless_private HalfBlock others = Some Half

abbrev pub if_private : Sharing → Option Reply
if_private PrivateBlock = Some IsPrivate
if_private SharedBlock = None
if_private HalfBlock = None

-- a range passes the end of what it lies in, of this many bytes
abbrev pub past_end : ℕ → ℕ → ℕ → Option Reply
past_end size off len = refuse Range (nat_lt size (off + len)) None

-- a host's access passes the end of the pool or lies in more than one area
abbrev pub pool_refusal : Boot → ℕ → ℕ → Option Reply
pool_refusal boot off len =
    refuse Range (nat_lt (SLOT_BYTES * boot.slots) (off + len))
    (refuse Range (not (area_of_offset boot off == area_of_offset boot (off + len - 1))) None)

-- a block that is given back is a whole block of order 10, and each of its pages lies in a unit of the bitmap
abbrev pub give_refusal : Boot → Block → Option Reply
give_refusal boot block = refuse Small (not (block.order == 10)) (refuse NoUnit (not (in_units boot block.first (2 ^ block.order))) None)

-- the first refusal of a mapping of a block's bytes
abbrev pub map_refusal : Boot → Holding → ℕ → ℕ → ℕ → Option Reply
map_refusal boot h off len mask =
    unless_private h.sharing
    (refuse Zero (len == 0)
    (refuse Range (nat_lt (block_bytes h.block) (off + len))
    (refuse TooLong (too_long (PAGE_BYTES * h.block.first + off) len mask) (refuse NoPool (is_none boot.pool) None))))

-- the first refusal of a command of a processor that has this
abbrev pub refusal_of : Boot → Own → Command → Option Reply
refusal_of boot own (Alloc name order) = refuse Taken (is_some (block_named own name)) None
refusal_of boot own (Free name) = unknown_or (block_named own name) (λ h. unless_private h.sharing (refuse Mapped (is_mapped own h.block) None))
refusal_of boot own (Accept start len) = memory_range_refusal start len
refusal_of boot own (Query start len) = memory_range_refusal start len
refusal_of boot own (Read name off len) = unknown_or (block_named own name) (λ h. unless_private h.sharing (refuse Zero (len == 0) (past_end (block_bytes h.block) off len)))
refusal_of boot own (Write name off hex) = unknown_or (block_named own name) (λ h. unless_private h.sharing (past_end (block_bytes h.block) off (length hex)))
refusal_of boot own (Fill name off len byte) = unknown_or (block_named own name) (λ h. unless_private h.sharing (refuse Zero (len == 0) (past_end (block_bytes h.block) off len)))
refusal_of boot own (Load name off) = unknown_or (block_named own name) (λ h. unless_private h.sharing (refuse Range (nat_le (block_bytes h.block) off) None))
refusal_of boot own (Share name) = unknown_or (block_named own name) (λ h. unless_private h.sharing (refuse Mapped (is_mapped own h.block) None))
refusal_of boot own (Private name) = unknown_or (block_named own name) (λ h. if_private h.sharing)
refusal_of boot own (Giveback name) = unknown_or (block_named own name) (λ h. unless_private h.sharing (refuse Mapped (is_mapped own h.block) (give_refusal boot h.block)))
refusal_of boot own (Map mapping name off len direction mask) = refuse Taken (is_some (mapping_named own mapping)) (unknown_or (block_named own name) (λ h. map_refusal boot h off len mask))
refusal_of boot own (SyncDev mapping off len) = unknown_or (mapping_named own mapping) (λ m. refuse Zero (len == 0) (past_end m.run.len off len))
refusal_of boot own (SyncCpu mapping off len) = unknown_or (mapping_named own mapping) (λ m. refuse Zero (len == 0) (past_end m.run.len off len))
refusal_of boot own (Unmap mapping skip) = unknown_or (mapping_named own mapping) (λ m. None)
refusal_of boot own (DRead mapping off len) = unknown_or (mapping_named own mapping) (λ m. refuse Zero (len == 0) (past_end m.run.len off len))
refusal_of boot own (DWrite mapping off hex) = unknown_or (mapping_named own mapping) (λ m. past_end m.run.len off (length hex))
refusal_of boot own (HostRead off len) = refuse NoPool (is_none boot.pool) (refuse Zero (len == 0) (pool_refusal boot off len))
refusal_of boot own (HostWrite off hex) = refuse NoPool (is_none boot.pool) (pool_refusal boot off (length hex))
