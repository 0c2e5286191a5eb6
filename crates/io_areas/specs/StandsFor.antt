use Rattle.std.specs.Prelude.{ℕ, List, ◌≡◌, ◌+◌, ◌*◌, ◌<◌, ◌≤◌, fold, length, slice_index}
use Rattle.guest_base.specs.declared.limits.TheConstants.{SLOT_BYTES, MAX_SLOTS, MAX_AREAS}
use Rattle.event_core.specs.declared.boot.Boot.{Boot}
use Rattle.event_core.specs.declared.entry.Entry.{Entry}
use Rattle.event_core.specs.Moved.{Moved, entries_of}
use Rattle.event_core.specs.Pool.{area_slots, hint_step, is_used}
use Rattle.event_core.specs.PoolBytes.{pool_byte}
use Rattle.pool_laws.specs.Live.{MappingsStand, live_in}
use Rattle.io_slots.specs.SlotUse.{SlotUse, slot_count, is_used as is_taken}

-- What an area keeps stands for its entries.

-- where the next search begins, after entries
abbrev pub hint_behind : ℕ → List Entry → ℕ
hint_behind slots entries = fold (λ hint (e : Entry). hint_step slots hint e.event) 0 entries

-- the slots that are kept are those after the entries: the used ones and the hint
pub record SlotsStand (slots : ℕ) (moved : List Moved) (kept : SlotUse) : Type 0 where
  pub count : slot_count kept ≡ slots
  pub used : (slot : ℕ) → slot < slots → is_taken kept slot ≡ is_used (live_in moved) slot
  pub hint : kept.hint ≡ hint_behind slots (entries_of moved)

-- the bytes that are kept are those of the pool at the area's places, for each boot whose areas
-- have as many slots
pub record BytesStand (number slots : ℕ) (moved : List Moved) (kept : List ℕ) : Type 0 where
  pub count : length kept ≡ SLOT_BYTES * slots
  pub same : (boot : Boot) → area_slots boot ≡ slots → (at : ℕ) → at < SLOT_BYTES * slots
      → slice_index kept at ≡ pool_byte boot moved (SLOT_BYTES * (number * slots) + at)

-- all that an area keeps
pub record StandsFor (number slots : ℕ) (taken : SlotUse) (bytes : List ℕ) (moved : List Moved)
    : Type 0 where
  pub number_small : number < MAX_AREAS
  pub slots_few : slots ≤ MAX_SLOTS
  pub mappings : MappingsStand number slots moved
  pub slots_stand : SlotsStand slots moved taken
  pub bytes_stand : BytesStand number slots moved bytes
