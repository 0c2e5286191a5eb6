use Rattle.std.specs.Prelude.{ℕ, List, [], ◌+◌, Option, None, Some, true, fold, slice_get}
use Rattle.std.specs.Option.{option_map_or}
use Rattle.event_core.specs.declared.boot.Boot.{Boot}
use Rattle.event_core.specs.declared.command.Command.{Command}
use Rattle.event_core.specs.declared.command.Command.TheVariants.{Map, SyncDev, DWrite, HostWrite}
use Rattle.event_core.specs.declared.event.Event.{Event}
use Rattle.event_core.specs.declared.event.Event.TheVariants.{Looked, CopiedIn, CopiedOut, Released, DeviceRead, DeviceWrote, HostRead, HostWrote}
use Rattle.event_core.specs.declared.entry.Entry.{Entry}
use Rattle.event_core.specs.Bytes.{row_of, written, zeros}
use Rattle.event_core.specs.Holdings.{Holding, Mapping, Own, block_named, mapping_named, holding_of}
use Rattle.event_core.specs.Moved.{Moved}
use Rattle.event_core.specs.Pool.{pool_place}

-- The bytes of the pool, and the bytes that an entry moves into it or out of it (after swiotlb.c; the pool is zero at first, an own
-- rule).

-- the place at which an event writes into the pool
abbrev pub writes_at : Boot → Event → Option ℕ
writes_at boot (Looked area (Some run)) = Some (pool_place boot run 0)
writes_at boot (CopiedIn run off len) = Some (pool_place boot run off)
writes_at boot (DeviceWrote run off len) = Some (pool_place boot run off)
writes_at boot (HostWrote off len) = Some off
writes_at boot _ = None

-- the pool's bytes after the entries of an area: each is that of the last entry that wrote it, and zero where there is none
abbrev pub pool_step : Boot → (ℕ → ℕ) → Moved → ℕ → ℕ
pool_step boot pool m = option_map_or (λ at. written pool at m.bytes) (writes_at boot m.entry.event) pool

unfoldable pub pool_byte : Boot → List Moved → ℕ → ℕ
pool_byte boot there = fold (pool_step boot) zeros there

-- the bytes that a command gives to the pool: those of its buffer, as the block's bytes are now, or its own
abbrev pub buffer_bytes : Own → List ℕ → ℕ → ℕ → List ℕ
buffer_bytes own name off len = option_map_or (λ (h : Holding). row_of h.bytes off len) (block_named own name) []

abbrev pub block_bytes_of : Own → Mapping → ℕ → ℕ → List ℕ
block_bytes_of own m off len = option_map_or (λ (h : Holding). row_of h.bytes (m.off + off) len) (holding_of own m) []

abbrev pub given_bytes : Own → Option Command → List ℕ
given_bytes own (Some (Map mapping name off len direction mask)) = buffer_bytes own name off len
given_bytes own (Some (SyncDev mapping off len)) = option_map_or (λ (m : Mapping). block_bytes_of own m off len) (mapping_named own mapping) []
given_bytes own (Some (DWrite mapping off hex)) = hex
given_bytes own (Some (HostWrite off hex)) = hex
given_bytes own _ = []

-- the bytes that an event takes out of the pool
abbrev pub taken_bytes : Boot → List Moved → Event → List ℕ
taken_bytes boot there (CopiedOut run off len) = row_of (pool_byte boot there) (pool_place boot run off) len
taken_bytes boot there (Released run true) = row_of (pool_byte boot there) (pool_place boot run 0) run.len
taken_bytes boot there (DeviceRead run off len) = row_of (pool_byte boot there) (pool_place boot run off) len
taken_bytes boot there (HostRead off len) = row_of (pool_byte boot there) off len
taken_bytes boot there _ = []

-- the bytes that an entry moves, of a processor with this script that has this, after the entries of its place
unfoldable pub bytes_moved : Boot → List Command → Own → List Moved → Entry → List ℕ
bytes_moved boot script own there entry =
    elim (writes_at boot entry.event) as (λ _. List ℕ) [
      | Some at ↦ given_bytes own (slice_get script entry.cmd)
      | None ↦ taken_bytes boot there entry.event
    ]
