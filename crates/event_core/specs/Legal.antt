use Rattle.std.specs.Prelude.{ℕ, List, [], ◌∷◌, ◌++◌, None, Some, Bool, true, false, ◌≡◌, ◌⊎◌, ◌+◌, ◌<◌, ◌==◌, All, filter, fold, max, map, length, slice_get}
use Rattle.event_core.specs.declared.boot.Boot.{Boot}
use Rattle.event_core.specs.declared.command.Command.{Command}
use Rattle.event_core.specs.declared.event.Event.{Event}
use Rattle.event_core.specs.declared.event.Event.TheVariants as event
use Rattle.event_core.specs.declared.entry.Place.{Place}
use Rattle.event_core.specs.declared.entry.Place.TheVariants as place
use Rattle.event_core.specs.declared.entry.Entry.{Entry}
use Rattle.event_core.specs.Calls.{calls_in, calls_of}
use Rattle.event_core.specs.MemoryRows.{AcceptsUnits}
use Rattle.event_core.specs.Moved.{Moved, entries_of, made_by}
use Rattle.event_core.specs.ConvertRows.{Converts}
use Rattle.event_core.specs.Pool.{area_of_offset}
use Rattle.event_core.specs.PoolBytes.{bytes_moved}
use Rattle.event_core.specs.Own.{replied, script_of, own_of}
use Rattle.event_core.specs.Next.{next_step}

-- Which histories are right. An entry is judged over two lists alone: those of its processor, and the bare ones of its place.

-- an entry without its reply
abbrev pub bare : Moved → Moved
bare m = record m { entry = record m.entry { reply = None } }

-- two places are one
abbrev pub same_place : Place → Place → Bool
same_place place.Memory place.Memory = true
same_place (place.Area a) (place.Area b) = a == b
same_place place.Own place.Own = true
same_place _ _ = false

-- the bare entries of the memory, or of an area; an own event has no list of its place
abbrev pub at_place : Place → List Moved → List Moved
at_place place.Memory history = map bare (filter (λ (m : Moved). same_place place.Memory m.entry.place) history)
at_place (place.Area a) history = map bare (filter (λ (m : Moved). same_place (place.Area a) m.entry.place) history)
at_place place.Own history = []

-- where an event takes place
abbrev pub place_of : Boot → Event → Place
place_of boot event.Own = place.Own
place_of boot (event.Claim block units run) = place.Memory
place_of boot (event.Report run calls stopped next) = place.Memory
place_of boot (event.Got block) = place.Memory
place_of boot event.NoBlock = place.Memory
place_of boot (event.Freed block) = place.Memory
place_of boot (event.Asked found) = place.Memory
place_of boot (event.Touched page found) = place.Memory
place_of boot (event.ConvertBegin block to) = place.Memory
place_of boot (event.ConvertEnd block calls end) = place.Memory
place_of boot (event.Looked area run) = place.Area area
place_of boot (event.CopiedIn run off len) = place.Area run.area
place_of boot (event.CopiedOut run off len) = place.Area run.area
place_of boot (event.Released run copied) = place.Area run.area
place_of boot (event.DeviceRead run off len) = place.Area run.area
place_of boot (event.DeviceWrote run off len) = place.Area run.area
place_of boot (event.HostRead off len) = place.Area (area_of_offset boot off)
place_of boot (event.HostWrote off len) = place.Area (area_of_offset boot off)

-- the module's answers in an event are those of the steps that it stands for
abbrev pub CallsFit : Boot → List Entry → Event → Type 0
CallsFit boot memory (event.Report run calls stopped next) = AcceptsUnits boot (calls_of boot memory) run calls
CallsFit boot memory (event.ConvertEnd block calls end) = Converts boot memory block calls
CallsFit boot memory _ = Unit {0}

-- an entry follows its processor's entries and those of its place
pub record FollowsOver (boot : Boot) (scripts : List (List Command)) (own there : List Moved) (entry : Entry) : Type 0 where
  pub number : entry.cmd ≡ replied own
  pub step : next_step boot scripts entry.cpu.0 own there (calls_in entry.event) ≡ Some (record { event = entry.event; reply = entry.reply })
  pub calls : CallsFit boot (entries_of there) entry.event
  pub place : entry.place ≡ place_of boot entry.event

-- the greatest stamp, 0 where there is no entry
abbrev pub greatest_stamp : List Moved → ℕ
greatest_stamp history = fold (λ greatest (m : Moved). max greatest m.entry.stamp) 0 history

-- the stamp of an entry: 1 more than the greatest among the earlier entries of its processor and of its place
abbrev pub stamp_of : List Moved → List Moved → ℕ
stamp_of own there = max (greatest_stamp own) (greatest_stamp there) + 1

-- an entry follows a history
pub record Follows (boot : Boot) (scripts : List (List Command)) (history : List Moved) (entry : Entry) : Type 0 where
  pub over : FollowsOver boot scripts (made_by entry.cpu.0 history) (at_place entry.place history) entry
  pub stamp : entry.stamp ≡ stamp_of (made_by entry.cpu.0 history) (at_place entry.place history)

-- an entry with the bytes that it moves into or out of the pool, after a history
abbrev pub with_bytes : Boot → List (List Command) → List Moved → Entry → Moved
with_bytes boot scripts history entry =
    let script = script_of scripts entry.cpu.0 in
    record {
      entry = entry;
      bytes = bytes_moved boot script (own_of script (made_by entry.cpu.0 history)) (at_place entry.place history) entry;
    }

-- entries with the bytes that they move, after a history
abbrev pub moved_after : Boot → List (List Command) → List Moved → List Entry → List Moved
moved_after boot scripts history [] = history
moved_after boot scripts history (entry ∷ entries) = moved_after boot scripts (history ++ with_bytes boot scripts history entry ∷ []) entries

abbrev pub with_moved : Boot → List (List Command) → List Entry → List Moved
with_moved boot scripts entries = moved_after boot scripts [] entries

-- an entry comes before another by stamp, and of one stamp by processor
abbrev pub ComesBefore : Entry → Entry → Type 0
ComesBefore a b = (a.stamp < b.stamp) ⊎ ((a.stamp ≡ b.stamp) × (a.cpu.0 < b.cpu.0))

-- each entry follows those before it, and comes behind them
abbrev pub LegalAfter : Boot → List (List Command) → List Moved → List Entry → Type 0
LegalAfter boot scripts history [] = Unit {0}
LegalAfter boot scripts history (entry ∷ entries) =
    Follows boot scripts history entry
    × All (λ (m : Moved). ComesBefore m.entry entry) history
    × LegalAfter boot scripts (history ++ with_bytes boot scripts history entry ∷ []) entries

abbrev pub Legal : Boot → List (List Command) → List Entry → Type 0
Legal boot scripts entries = LegalAfter boot scripts [] entries

-- a legal history in which every command of every script has its reply
pub record Whole (boot : Boot) (scripts : List (List Command)) (entries : List Entry) : Type 0 where
  pub legal : Legal boot scripts entries
  pub all : (cpu : ℕ) (script : List Command) → slice_get scripts cpu ≡ Some script → replied (made_by cpu (with_moved boot scripts entries)) ≡ length script
