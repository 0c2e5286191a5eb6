-- What an area keeps after one more entry.
use Rattle.std.proofs.Common.{◌≡◌, ℕ, ◌+◌, ◌*◌, ◌<◌, ◌≤◌, ◌&&◌, ◌||◌, Bool, true, false, not, Some, List, [], ◌∷◌, ◌++◌, sym, ◌∙◌, ap, subst, arith, length}
use Rattle.std.proofs.Math.ListN.{replicate}
use Rattle.guest_base.specs.declared.limits.TheConstants.{SLOT_BYTES, MAX_SLOTS, MAX_AREAS}
use Rattle.guest_base.specs.declared.transfer.SlotRun.{SlotRun}
use Rattle.guest_base.specs.Parts.{with_part}
use Rattle.guest_base.specs.Ranges.{in_range}
use Rattle.guest_base.specs.Slots.{hint_after}
use Rattle.event_core.specs.declared.boot.Boot.{Boot}
use Rattle.event_core.specs.declared.event.Event.TheVariants.{Looked, Released}
use Rattle.event_core.specs.Moved.{Moved}
use Rattle.event_core.specs.Pool.{area_slots, is_used, pool_place}
use Rattle.event_core.specs.PoolBytes.{writes_at}
use Rattle.pool_laws.specs.Live.{IsInArea, is_live, live_in, live_of}
use Rattle.pool_laws.proofs.LiveLemmas.{stand-first, stand-still, stand-with, stand-released}
use Rattle.io_slots.specs.SlotUse.{SlotUse, slot_count, is_used as is_taken}
use Rattle.io_areas.specs.StandsFor.{StandsFor}
use Rattle.io_areas.specs.Steps.{LeavesMappings, WritesNone, place_in}
use Rattle.io_areas.proofs.ByteLemmas.{bytes-first, bytes-still, bytes-written}
use Rattle.io_areas.proofs.SlotLemmas.{slots-first, slots-still, slots-taken, slots-freed}

pub area-first : (number slots : ℕ) (taken : SlotUse) (bytes : List ℕ) (moved : List Moved) → moved ≡ [] → number < MAX_AREAS → slots ≤ MAX_SLOTS
    → slot_count taken ≡ slots → taken.hint ≡ 0 → ((slot : ℕ) → slot < slots → is_taken taken slot ≡ false)
    → bytes ≡ replicate (SLOT_BYTES * slots) 0 → StandsFor number slots taken bytes moved
area-first number slots taken bytes moved none small few count hint free zeros =
    subst (StandsFor number slots taken bytes) (sym none)
    (record {
      number_small = small;
      slots_few = few;
      mappings = stand-first number slots;
      slots_stand = slots-first slots taken count hint free;
      bytes_stand = bytes-first number slots bytes zeros;
    })

-- an event that leaves the mappings and writes no byte
pub area-still : (number slots : ℕ) (taken : SlotUse) (bytes : List ℕ) (moved moved' : List Moved) (m : Moved) → moved' ≡ moved ++ m ∷ [] → LeavesMappings m.entry.event → WritesNone m.entry.event
    → StandsFor number slots taken bytes moved → StandsFor number slots taken bytes moved'
area-still number slots taken bytes moved moved' m more leaves none stand =
    subst (StandsFor number slots taken bytes) (sym more)
    (record {
      number_small = stand.number_small;
      slots_few = stand.slots_few;
      mappings = stand-still number slots moved m leaves.live stand.mappings;
      slots_stand = slots-still slots moved m taken leaves stand.slots_stand;
      bytes_stand = bytes-still number slots moved m bytes none stand.bytes_stand;
    })

-- an event that leaves the mappings and writes its bytes into the area
pub area-written : (number slots at : ℕ) (taken : SlotUse) (bytes bytes' : List ℕ) (moved moved' : List Moved) (m : Moved) → moved' ≡ moved ++ m ∷ [] → bytes' ≡ with_part bytes at m.bytes → LeavesMappings m.entry.event
    → at + length m.bytes ≤ SLOT_BYTES * slots → ((boot : Boot) → area_slots boot ≡ slots → writes_at boot m.entry.event ≡ Some (SLOT_BYTES * (number * slots) + at))
    → StandsFor number slots taken bytes moved → StandsFor number slots taken bytes' moved'
area-written number slots at taken bytes bytes' moved moved' m more same leaves fits writes stand =
    let B : List ℕ → Type 0 = λ bs. StandsFor number slots taken bs moved' in
    subst B (sym same)
    (subst (StandsFor number slots taken (with_part bytes at m.bytes)) (sym more)
    (record {
      number_small = stand.number_small;
      slots_few = stand.slots_few;
      mappings = stand-still number slots moved m leaves.live stand.mappings;
      slots_stand = slots-still slots moved m taken leaves stand.slots_stand;
      bytes_stand = bytes-written number slots at moved m bytes fits writes stand.bytes_stand;
    }))

-- where a mapping's bytes stand in the pool, and in the area
pub place-in-pool : (boot : Boot) (number slots : ℕ) (run : SlotRun) (i : ℕ) → run.area ≡ number → area_slots boot ≡ slots → pool_place boot run i ≡ SLOT_BYTES * (number * slots) + place_in run i
place-in-pool boot number slots run i area size =
    ap (λ n. (n * area_slots boot + run.first) * SLOT_BYTES + run.offset + i) area
    ∙ ap (λ n. (number * n + run.first) * SLOT_BYTES + run.offset + i) size
    ∙ apart (number * slots)
  where
    apart : (before : ℕ) → (before + run.first) * SLOT_BYTES + run.offset + i ≡ SLOT_BYTES * before + place_in run i
    apart before = omega arith

-- and they end in the area
pub ends-in-area : (number slots : ℕ) (run : SlotRun) → IsInArea number slots run → place_in run run.len ≤ SLOT_BYTES * slots
ends-in-area number slots run inside =
    let slots-fit = inside.inside in
    let bytes-fit = inside.bytes in
    omega (arith, slots-fit, bytes-fit)

-- a look that found free slots
pub area-taken : (number slots : ℕ) (taken taken' : SlotUse) (bytes bytes' : List ℕ) (moved moved' : List Moved) (m : Moved) (run : SlotRun) → moved' ≡ moved ++ m ∷ [] → m.entry.event ≡ Looked number (Some run)
    → bytes' ≡ with_part bytes (place_in run 0) m.bytes → length m.bytes ≡ run.len → IsInArea number slots run → ((slot : ℕ) → in_range run.first run.count slot ≡ true → is_used (live_in moved) slot ≡ false)
    → slot_count taken' ≡ slot_count taken → ((k : ℕ) → is_taken taken' k ≡ (in_range run.first run.count k || is_taken taken k)) → taken'.hint ≡ hint_after (slot_count taken) run.first run.count
    → StandsFor number slots taken bytes moved → StandsFor number slots taken' bytes' moved'
area-taken number slots taken taken' bytes bytes' moved moved' m run more event same long inside free count used hint stand =
    let B : List ℕ → Type 0 = λ bs. StandsFor number slots taken' bs moved' in
    let ends = ends-in-area number slots run inside in
    subst B (sym same)
    (subst (StandsFor number slots taken' (with_part bytes (place_in run 0) m.bytes)) (sym more)
    (record {
      number_small = stand.number_small;
      slots_few = stand.slots_few;
      mappings = stand-with number slots moved m run event inside free stand.mappings;
      slots_stand = slots-taken slots number moved m run taken taken' event count used hint stand.slots_stand;
      bytes_stand =
          bytes-written number slots (place_in run 0) moved m bytes (omega (arith, ends, long))
          (λ boot size. ap (writes_at boot) event ∙ ap (λ n. Some n) (place-in-pool boot number slots run 0 inside.area size))
          stand.bytes_stand;
    }))

-- the end of a processor's own mapping
pub area-freed : (number slots : ℕ) (taken taken' : SlotUse) (bytes : List ℕ) (moved moved' : List Moved) (m : Moved) (run : SlotRun) (copied : Bool) → moved' ≡ moved ++ m ∷ [] → m.entry.event ≡ Released run copied
    → is_live run (live_of m.entry.cpu.0 moved) ≡ true
    → slot_count taken' ≡ slot_count taken → ((k : ℕ) → is_taken taken' k ≡ (not (in_range run.first run.count k) && is_taken taken k)) → taken'.hint ≡ taken.hint
    → StandsFor number slots taken bytes moved → StandsFor number slots taken' bytes moved'
area-freed number slots taken taken' bytes moved moved' m run copied more event mine count used hint stand =
    subst (StandsFor number slots taken' bytes) (sym more)
    (record {
      number_small = stand.number_small;
      slots_few = stand.slots_few;
      mappings = stand-released number slots moved m run copied event mine stand.mappings;
      slots_stand = slots-freed number slots moved m run copied taken taken' stand.mappings event mine count used hint stand.slots_stand;
      bytes_stand = bytes-still number slots moved m bytes (λ boot. ap (writes_at boot) event) stand.bytes_stand;
    })
