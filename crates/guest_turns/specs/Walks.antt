use Rattle.std.specs.Prelude.{ℕ, List, [], ◌++◌, Bool, true, false, Result, Ok, OnErr, ◌≡◌, ◌⊎◌, ◌+◌, ◌<◌, ◌^◌, set, sum_by}
use Rattle.std.specs.declared.alloc.AllocError.{AllocError}
use Rattle.event_core.specs.declared.boot.Boot.{Boot}
use Rattle.event_core.specs.declared.entry.Entry.{Entry}
use Rattle.event_core.specs.declared.entry.Place.{Place}
use Rattle.event_core.specs.Legal.{at_place, with_moved}
use Rattle.event_core.specs.Moved.{made_by}
use Rattle.event_core.specs.Turns.{TakenIn}
use Rattle.io_areas.specs.Value.{AreaValue}
use Rattle.guest_steps.specs.Ground.{Ground, HasArea, there_in}
use Rattle.guest_steps.specs.declared.processor.Need.TheVariants.{Finished}
use Rattle.guest_steps.specs.Seen.{Seen, need_of, steps_left, steps_waiting}
use Rattle.guest_steps.specs.Running.{AllStand, EachLater, StaysLater}
use Rattle.guest_steps.specs.Standing.{Stands, moved_at, scripts_of}
use Rattle.guest_steps.specs.Steps.{AllRoomAlone, IsBlocked, MakesIn, stamp_before, stamp_in, ticket_of}

-- What turns make of processors (own rule).

-- ---- one turn of a processor

-- no stamp is used up: those before a step lie below 2^64, whatever the step needs
pub record StampsLeft (c : Seen) (base : Ground) : Type 0 where
  pub memory : stamp_before c base.memory < 2 ^ 64
  pub areas : (area : AreaValue) → HasArea base area → stamp_in c area < 2 ^ 64

-- the processor makes no entry: it is finished or blocked
abbrev pub Rests : Seen → List Entry → Type 0
Rests c memory = (need_of c ≡ Finished) ⊎ IsBlocked c memory

-- the processor has made nothing since, and the same pages are out with it
pub record StaysAs (old new : Seen) : Type 0 where
  pub boot : new.boot ≡ old.boot
  pub number : new.number ≡ old.number
  pub script : new.script ≡ old.script
  pub moved : new.moved ≡ old.moved
  pub taken : ticket_of new.out ≡ ticket_of old.out

-- a turn in which no entry was made
pub record Waits (old new : Seen) (before after : Ground) : Type 0 where
  pub stays : StaysAs old new
  pub room : AllRoomAlone before after

-- a turn in which an entry was made, behind the work for the pages that were out
pub record MakesTurn (old new : Seen) (before after : Ground) : Type 0 where
  pub worked : Seen
  pub stays : StaysAs old worked
  pub stands : Stands worked before
  pub makes : MakesIn worked new before after

-- What one turn of a processor does: it makes an entry where it says so, and none where it doesn't
-- or where memory ran out.
pub record OneTurn {T : Type 0} (seen : T → Seen) (stands : T → Ground → Type 0)
    (NeverFails : T → Type 0) (made : Result Bool AllocError) (old new : T)
    (before after : Ground) : Type 0 where
  pub stand : stands new after
  pub later : StaysLater seen NeverFails old new
  pub event : made ≡ Ok true → MakesTurn (seen old) (seen new) before after
  pub none : made ≡ Ok false → Waits (seen old) (seen new) before after
      × Rests (seen new) after.memory.entries
  pub refused : OnErr made (Waits (seen old) (seen new) before after)

-- ---- turns of all processors

-- all stand again, and are the same as they were
pub record GoOn {T : Type 0} (seen : T → Seen) (stands : T → Ground → Type 0)
    (NeverFails : T → Type 0) (old new : List T) (before after : Ground) : Type 0 where
  pub stand : AllStand seen stands before.memory.boot new after
  pub later : (first : List T) → EachLater seen NeverFails first old
      → EachLater seen NeverFails first new

-- The entries so far, in the order in which they were taken in these turns. Each processor made
-- its own of them, and each place has those that take place there, with the bytes that they moved.
pub record Walked (boot : Boot) (all : List Seen) (base : Ground) (turns : List ℕ)
    : Type 0 where
  pub taken : List Entry
  pub made : (cpu : ℕ) → made_by cpu (with_moved boot (scripts_of all) taken) ≡ moved_at all cpu
  pub there : (place : Place)
      → at_place place (with_moved boot (scripts_of all) taken) ≡ there_in base place
  pub walk : TakenIn boot (scripts_of all) [] turns taken

-- these turns were taken in between
abbrev pub WalksOn : List ℕ → List Seen → List Seen → Ground → Ground → Type 0
WalksOn more old new before after =
    (turns : List ℕ) → Walked before.memory.boot old before turns
    → Walked before.memory.boot new after (turns ++ more)

-- the steps that are left to all processors, at most, and with those for the blocks of the memory
-- that aren't accepted yet
abbrev pub all_steps : List Seen → ℕ
all_steps all = sum_by steps_left all

abbrev pub waiting_in : Ground → ℕ
waiting_in base = steps_waiting base.memory.boot base.memory.entries

abbrev pub all_left : List Seen → Ground → ℕ
all_left all base = all_steps all + waiting_in base

-- in its turn this processor made no entry
pub record RestsAt (cpu : ℕ) (old new : List Seen) (before after : Ground) : Type 0 where
  pub boot : after.memory.boot ≡ before.memory.boot
  pub entries : after.memory.entries ≡ before.memory.entries
  pub now : Seen
  pub others : new ≡ set old cpu now
  pub rests : Rests now after.memory.entries
  pub left : all_steps new ≡ all_steps old
