use Rattle.std.specs.Prelude.{ℕ, List, [], ◌∷◌, ◌++◌, ◌≡◌, AllPairs}
use Rattle.event_core.specs.declared.boot.Boot.{Boot}
use Rattle.event_core.specs.declared.command.Command.{Command}
use Rattle.event_core.specs.declared.entry.Place.{Place}
use Rattle.event_core.specs.declared.entry.Place.TheVariants.{Memory, Area, Own}
use Rattle.event_core.specs.declared.entry.Entry.{Entry}
use Rattle.event_core.specs.Moved.{Moved}
use Rattle.event_core.specs.PoolBytes.{bytes_moved}
use Rattle.event_core.specs.Own.{script_of, own_of}
use Rattle.event_core.specs.Legal.{ComesBefore, FollowsOver, stamp_of, bare}
use Rattle.event_core.specs.Splits.{Lists}

-- Entries judged where they were made: each over two lists alone, and no whole history (own rule).

-- each entry comes before every later one
abbrev pub Rising : List Entry → Type 0
Rising entries = AllPairs ComesBefore entries

-- The list of a place has these entries, and then the bare entry. An own event has no list of its
-- place, and so no entry before it there.
abbrev pub StoodBefore : Lists → Place → List Moved → Moved → Type 0
StoodBefore lists Memory there m =
    (later : List Moved) × (lists.by_memory ≡ there ++ bare m ∷ later)
StoodBefore lists (Area area) there m =
    (later : List Moved) × (lists.by_area area ≡ there ++ bare m ∷ later)
StoodBefore lists Own there m = there ≡ []

module _ (boot : Boot) (scripts : List (List Command)) where
  -- An entry follows its processor's earlier entries and the earlier bare ones of its place: with
  -- the stamp and the moved bytes that these two lists make.
  pub record FollowsLocally (own there : List Moved) (m : Moved) : Type 0 where
    pub over : FollowsOver boot scripts own there m.entry
    pub stamp : m.entry.stamp ≡ stamp_of own there
    pub bytes :
        let script = script_of scripts m.entry.cpu.0 in
        m.bytes ≡ bytes_moved boot script (own_of script own) there m.entry

  -- each entry of each processor's list follows those before it there, and those before it in the
  -- list of its place
  abbrev pub EachFollows : Lists → Type 0
  EachFollows lists =
      (cpu : ℕ) (own later : List Moved) (m : Moved) → lists.by_cpu cpu ≡ own ++ m ∷ later →
      (there : List Moved) × StoodBefore lists m.entry.place there m × FollowsLocally own there m
