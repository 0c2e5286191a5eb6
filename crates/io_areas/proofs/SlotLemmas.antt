-- The slots of an area, as they are kept and as its entries make them.
use Rattle.std.proofs.Common.{◌≡◌, ℕ, ◌<◌, ◌&&◌, ◌||◌, Bool, true, false, not, Some, List, [], ◌∷◌, ◌++◌, refl, sym, ◌∙◌, ap, arith}
use Rattle.std.specs.Option.{option_map}
use Rattle.std.proofs.lemmas.List.Sums.{fold-append}
use Rattle.guest_base.specs.declared.transfer.Request.{Request}
use Rattle.guest_base.specs.declared.transfer.SlotRun.{SlotRun}
use Rattle.guest_base.specs.Ranges.{in_range}
use Rattle.guest_base.specs.Slots.{choose, hint_after}
use Rattle.guest_base.proofs.RangeLemmas.{in_range-elim}
use Rattle.event_core.specs.declared.boot.Boot.{Boot}
use Rattle.event_core.specs.declared.entry.Entry.{Entry}
use Rattle.event_core.specs.declared.event.Event.TheVariants.{Looked, Released}
use Rattle.event_core.specs.Moved.{Moved, entries_of}
use Rattle.event_core.specs.Pool.{area_slots, hint_of, hint_step, is_used, live_runs, run_for, run_found}
use Rattle.event_core.proofs.SoundLemmas.{entries_of-push}
use Rattle.pool_laws.specs.Live.{IsInArea, MappingsStand, is_live, live_in, live_of}
use Rattle.pool_laws.proofs.LiveLemmas.{choose-fits, fits-free, live-in-push, run-found-by, used-found, used-released}
use Rattle.io_slots.specs.SlotUse.{SlotUse, slot_count, is_used as is_taken}
use Rattle.io_areas.specs.StandsFor.{SlotsStand, hint_behind}
use Rattle.io_areas.specs.Steps.{LeavesMappings}
use Rattle.io_areas.specs.Value.{IsRequest}

hint-push : (slots : ℕ) (moved : List Moved) (m : Moved) → hint_behind slots (entries_of (moved ++ m ∷ [])) ≡ hint_step slots (hint_behind slots (entries_of moved)) m.entry.event
hint-push slots moved m =
    ap (hint_behind slots) (entries_of-push moved m) ∙ fold-append (λ hint (e : Entry). hint_step slots hint e.event) 0 (entries_of moved) (m.entry ∷ [])

none-used : (slot : ℕ) → is_used (live_in []) slot ≡ false
unfolding live_runs
none-used slot = refl

pub slots-first : (slots : ℕ) (taken : SlotUse) → slot_count taken ≡ slots → taken.hint ≡ 0 → ((slot : ℕ) → slot < slots → is_taken taken slot ≡ false) → SlotsStand slots [] taken
slots-first slots taken count hint free = record {
  count = count;
  used = λ slot low. free slot low ∙ sym (none-used slot);
  hint = hint;
}

-- an event that begins no mapping and ends none
pub slots-still : (slots : ℕ) (moved : List Moved) (m : Moved) (taken : SlotUse) → LeavesMappings m.entry.event → SlotsStand slots moved taken → SlotsStand slots (moved ++ m ∷ []) taken
slots-still slots moved m taken leaves stand = record {
  count = stand.count;
  used = λ slot low. stand.used slot low ∙ sym (ap (λ live. is_used live slot) (live-in-push moved m ∙ leaves.live (live_in moved)));
  hint = stand.hint ∙ sym (hint-push slots moved m ∙ leaves.hint slots (hint_behind slots (entries_of moved)));
}

-- a look that found slots
pub slots-taken : (slots number : ℕ) (moved : List Moved) (m : Moved) (run : SlotRun) (taken taken' : SlotUse) → m.entry.event ≡ Looked number (Some run)
    → slot_count taken' ≡ slot_count taken → ((k : ℕ) → is_taken taken' k ≡ (in_range run.first run.count k || is_taken taken k)) → taken'.hint ≡ hint_after (slot_count taken) run.first run.count
    → SlotsStand slots moved taken → SlotsStand slots (moved ++ m ∷ []) taken'
slots-taken slots number moved m run taken taken' event count used hint stand = record {
  count = count ∙ stand.count;
  used = λ slot low. used slot ∙ ap (λ b. in_range run.first run.count slot || b) (stand.used slot low) ∙ sym (used-found moved m number run slot event);
  hint =
      hint ∙ ap (λ n. hint_after n run.first run.count) stand.count
      ∙ sym (hint-push slots moved m ∙ ap (hint_step slots (hint_behind slots (entries_of moved))) event);
}

-- the end of a processor's own mapping
pub slots-freed : (number slots : ℕ) (moved : List Moved) (m : Moved) (run : SlotRun) (copied : Bool) (taken taken' : SlotUse) → MappingsStand number slots moved → m.entry.event ≡ Released run copied → is_live run (live_of m.entry.cpu.0 moved) ≡ true
    → slot_count taken' ≡ slot_count taken → ((k : ℕ) → is_taken taken' k ≡ (not (in_range run.first run.count k) && is_taken taken k)) → taken'.hint ≡ taken.hint
    → SlotsStand slots moved taken → SlotsStand slots (moved ++ m ∷ []) taken'
slots-freed number slots moved m run copied taken taken' mappings event mine count used hint stand = record {
  count = count ∙ stand.count;
  used =
      λ slot low.
      used slot ∙ ap (λ b. not (in_range run.first run.count slot) && b) (stand.used slot low)
      ∙ sym (used-released number slots moved m run copied slot mappings event mine);
  hint = hint ∙ stand.hint ∙ sym (hint-push slots moved m ∙ ap (hint_step slots (hint_behind slots (entries_of moved))) event);
}

-- ---- the search

hint-of-size : (boot : Boot) (slots : ℕ) (entries : List Entry) → area_slots boot ≡ slots → hint_of boot entries ≡ hint_behind slots entries
unfolding hint_of
hint-of-size boot slots entries size = ap (λ n. hint_behind n entries) size

-- it finds what a look of these entries finds
pub found-by : (boot : Boot) (number slots : ℕ) (moved : List Moved) (taken : SlotUse) (request : Request) → area_slots boot ≡ slots → SlotsStand slots moved taken
    → run_found boot (entries_of moved) number request ≡ option_map (run_for number request) (choose (is_taken taken) (slot_count taken) taken.hint request.need request.align)
found-by boot number slots moved taken request size stand =
    let count : area_slots boot ≡ slot_count taken = size ∙ sym stand.count in
    let hint : hint_of boot (entries_of moved) ≡ taken.hint = hint-of-size boot slots (entries_of moved) size ∙ sym stand.hint in
    run-found-by boot (entries_of moved) number request (is_taken taken) (λ slot low. stand.used slot (omega (arith, low, size)))
    ∙ ap (λ n. option_map (run_for number request) (choose (is_taken taken) n (hint_of boot (entries_of moved)) request.need request.align)) count
    ∙ ap (λ n. option_map (run_for number request) (choose (is_taken taken) (slot_count taken) n request.need request.align)) hint

-- slots that it finds lie in the area and are free
pub record IsPlace (number slots : ℕ) (moved : List Moved) (run : SlotRun) : Type 0 where
  pub area : IsInArea number slots run
  pub free : (slot : ℕ) → in_range run.first run.count slot ≡ true → is_used (live_in moved) slot ≡ false

pub found-place : (number slots first : ℕ) (moved : List Moved) (taken : SlotUse) (request : Request) → SlotsStand slots moved taken → IsRequest request
    → choose (is_taken taken) (slot_count taken) taken.hint request.need request.align ≡ Some first → IsPlace number slots moved (run_for number request first)
found-place number slots first moved taken request stand asked is =
    let fits = fits-free (is_taken taken) (slot_count taken) request.need request.align first (choose-fits (is_taken taken) (slot_count taken) taken.hint request.need request.align first is) in
    let count = stand.count in
    let inside = fits.inside in
    record {
      area = record {
        area = refl;
        some = asked.some;
        inside = omega (arith, count, inside);
        segment = fits.segment;
        bytes = asked.bytes;
      };
      free =
          λ slot within.
          let ends = in_range-elim first request.need slot within in
          let high = ends.1 in
          sym (stand.used slot (omega (arith, count, inside, high))) ∙ fits.free slot within;
    }
