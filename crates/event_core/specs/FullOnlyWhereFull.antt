use Rattle.std.specs.Prelude.{ℕ, List, [], ◌∷◌, ◌++◌, None, Some, Bool, false, ◌≡◌, ◌+◌, ◌*◌, ◌<◌, ◌==◌, ◌&&◌, count_by}
use Rattle.guest_base.specs.declared.limits.TheConstants.{PAGE_BYTES}
use Rattle.guest_base.specs.Requests.{request_of}
use Rattle.guest_base.specs.Slots.{fits_at}
use Rattle.guest_base.specs.declared.transfer.Request.{Request}
use Rattle.event_core.specs.declared.boot.Boot.{Boot}
use Rattle.event_core.specs.declared.command.Command.{Command}
use Rattle.event_core.specs.declared.command.Command.TheVariants as command
use Rattle.event_core.specs.declared.event.Event.{Event}
use Rattle.event_core.specs.declared.event.Event.TheVariants.{Looked}
use Rattle.event_core.specs.declared.entry.Entry.{Entry}
use Rattle.event_core.specs.declared.reply.Reply.TheVariants.{Full}
use Rattle.event_core.specs.Holdings.{Holding, block_named}
use Rattle.event_core.specs.Moved.{entries_of}
use Rattle.event_core.specs.Pool.{live_runs, is_used, area_slots}
use Rattle.event_core.specs.Before.{own_before, place_before, StandsAt}

-- an event is a look in an area that found no slots
abbrev pub found_none : ℕ → Event → Bool
found_none area (Looked looked None) = looked == area
found_none area _ = false

-- the entry is another one's command's, and such a look
abbrev pub is_empty_look : Entry → ℕ → Entry → Bool
is_empty_look entry area e = (e.cpu.0 == entry.cpu.0) && ((e.cmd == entry.cmd) && found_none area e.event)

-- the entry's command has looked in each area once up to this entry, and found no slots in any
abbrev pub LookedEverywhere : Boot → List Entry → Entry → Type 0
LookedEverywhere boot before entry = (area : ℕ) → area < boot.areas → count_by (is_empty_look entry area) (before ++ entry ∷ []) ≡ 1

-- no slots of the area fit the request, after these entries of the area
abbrev pub NothingFits : Boot → List Entry → Request → Type 0
NothingFits boot there request = (first : ℕ) → fits_at (is_used (live_runs there)) (area_slots boot) request.need request.align first ≡ false

-- A mapping is refused as full exactly where its command looked once in each area and found no slots in any; and a look finds none
-- only where nothing fits.
pub record FullOnlyWhereFull (boot : Boot) (scripts : List (List Command)) (entries : List Entry) : Type 0 where
  pub only : (before later : List Entry) (entry : Entry) → entries ≡ before ++ entry ∷ later → entry.reply ≡ Some Full → LookedEverywhere boot before entry
  pub always : (before later : List Entry) (entry : Entry) (area : ℕ) → entries ≡ before ++ entry ∷ later → entry.event ≡ Looked area None → LookedEverywhere boot before entry → entry.reply ≡ Some Full
  pub empty : (before : List Entry) (entry : Entry) (mapping name : List ℕ) (off len mask area : ℕ) (direction : _) (h : Holding)
      → StandsAt scripts entries before entry (command.Map mapping name off len direction mask) → entry.event ≡ Looked area None
      → block_named (own_before boot scripts before entry) name ≡ Some h
      → NothingFits boot (entries_of (place_before boot scripts before entry)) (request_of (PAGE_BYTES * h.block.first + off) len mask)
