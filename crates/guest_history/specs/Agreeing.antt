use Rattle.std.specs.Prelude.{ℕ, List, [], Some, ◌≡◌, slice_get, unwrap_or, length}
use Rattle.event_core.specs.declared.command.Command.{Command}
use Rattle.event_core.specs.declared.entry.Place.{Place}
use Rattle.event_core.specs.declared.entry.Place.TheVariants.{Memory, Area}
use Rattle.event_core.specs.declared.entry.Entry.{Entry}
use Rattle.event_core.specs.Moved.{Moved, entries_of, made_by}
use Rattle.event_core.specs.Own.{replied}
use Rattle.event_core.specs.Legal.{at_place}
use Rattle.event_core.specs.Splits.{Lists}
use Rattle.event_core.specs.Locally.{Rising}

-- The lists of processors and of locks that agree, before there is one history of them (own rule).

-- lists of entries are those of the processors, in the order of their numbers; a number without a
-- list has made no entry
abbrev pub AreMadeBy : List (List Entry) → Lists → Type 0
AreMadeBy made lists = (cpu : ℕ) → entries_of (lists.by_cpu cpu) ≡ unwrap_or (slice_get made cpu) []

-- the list of a place rises, and has of each processor what that processor's list has at the place
pub record AgreesAt (lists : Lists) (place : Place) (there : List Moved) : Type 0 where
  pub rises : Rising (entries_of there)
  pub same : (cpu : ℕ) → made_by cpu there ≡ at_place place (lists.by_cpu cpu)

-- so does the list of each lock
pub record Agree (lists : Lists) : Type 0 where
  pub memory : AgreesAt lists Memory lists.by_memory
  pub areas : (area : ℕ) → AgreesAt lists (Area area) (lists.by_area area)

-- every command of every script has its reply
abbrev pub AllReplied : List (List Command) → Lists → Type 0
AllReplied scripts lists =
    (cpu : ℕ) (script : List Command) → slice_get scripts cpu ≡ Some script →
    replied (lists.by_cpu cpu) ≡ length script
