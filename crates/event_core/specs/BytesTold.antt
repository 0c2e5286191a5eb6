use Rattle.std.specs.Prelude.{ℕ, List, None, Some, ◌≡◌}
use Rattle.event_core.specs.declared.boot.Boot.{Boot}
use Rattle.event_core.specs.declared.command.Command.{Command}
use Rattle.event_core.specs.declared.command.Command.TheVariants as command
use Rattle.event_core.specs.declared.entry.Entry.{Entry}
use Rattle.event_core.specs.declared.reply.Found.{Found}
use Rattle.event_core.specs.declared.reply.Reply.TheVariants.{Hex, Loaded}
use Rattle.event_core.specs.Bytes.{row_of}
use Rattle.event_core.specs.Holdings.{Holding, Mapping, block_named, mapping_named}
use Rattle.event_core.specs.OwnRows.{strayed_bytes}
use Rattle.event_core.specs.Pool.{pool_place}
use Rattle.event_core.specs.PoolBytes.{pool_byte}
use Rattle.event_core.specs.Before.{own_before, place_before, StandsAt}

-- Each byte that a reply tells is the one that was last written: by the processor or by a copy out of the pool for a block, and by
-- the device, the host or a copy into the pool for a pool's byte; or else zero.
pub record BytesTold (boot : Boot) (scripts : List (List Command)) (entries : List Entry) : Type 0 where
  pub read : (before : List Entry) (entry : Entry) (name bytes : List ℕ) (off len : ℕ) (h : Holding)
      → StandsAt scripts entries before entry (command.Read name off len) → entry.reply ≡ Some (Hex bytes)
      → block_named (own_before boot scripts before entry) name ≡ Some h → bytes ≡ row_of h.bytes off len
  pub loaded : (before : List Entry) (entry : Entry) (name bytes : List ℕ) (off : ℕ) (h : Holding)
      → StandsAt scripts entries before entry (command.Load name off) → entry.reply ≡ Some (Loaded bytes None)
      → block_named (own_before boot scripts before entry) name ≡ Some h → bytes ≡ row_of h.bytes off 8
  pub strayed : (before : List Entry) (entry : Entry) (name bytes : List ℕ) (off : ℕ) (found : Found) (h : Holding)
      → StandsAt scripts entries before entry (command.Load name off) → entry.reply ≡ Some (Loaded bytes (Some found))
      → block_named (own_before boot scripts before entry) name ≡ Some h → bytes ≡ strayed_bytes h off
  pub device : (before : List Entry) (entry : Entry) (mapping bytes : List ℕ) (off len : ℕ) (m : Mapping)
      → StandsAt scripts entries before entry (command.DRead mapping off len) → entry.reply ≡ Some (Hex bytes)
      → mapping_named (own_before boot scripts before entry) mapping ≡ Some m
      → bytes ≡ row_of (pool_byte boot (place_before boot scripts before entry)) (pool_place boot m.run off) len
  pub host : (before : List Entry) (entry : Entry) (bytes : List ℕ) (off len : ℕ)
      → StandsAt scripts entries before entry (command.HostRead off len) → entry.reply ≡ Some (Hex bytes)
      → bytes ≡ row_of (pool_byte boot (place_before boot scripts before entry)) off len
