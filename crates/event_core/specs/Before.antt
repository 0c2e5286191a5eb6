use Rattle.std.specs.Prelude.{List, ◌∷◌, ◌++◌, Some, ◌≡◌, slice_get}
use Rattle.event_core.specs.declared.boot.Boot.{Boot}
use Rattle.event_core.specs.declared.command.Command.{Command}
use Rattle.event_core.specs.declared.entry.Entry.{Entry}
use Rattle.event_core.specs.Holdings.{Own}
use Rattle.event_core.specs.Moved.{Moved, made_by}
use Rattle.event_core.specs.Own.{own_of, script_of}
use Rattle.event_core.specs.Legal.{with_moved, at_place}

-- What stood before an entry: what its processor had, and the entries of its place.
abbrev pub own_before : Boot → List (List Command) → List Entry → Entry → Own
own_before boot scripts before entry = own_of (script_of scripts entry.cpu.0) (made_by entry.cpu.0 (with_moved boot scripts before))

abbrev pub place_before : Boot → List (List Command) → List Entry → Entry → List Moved
place_before boot scripts before entry = at_place entry.place (with_moved boot scripts before)

-- an entry of a command stands behind others in the entries
pub record StandsAt (scripts : List (List Command)) (entries before : List Entry) (entry : Entry) (c : Command) : Type 0 where
  pub later : List Entry
  pub split : entries ≡ before ++ entry ∷ later
  pub its : slice_get (script_of scripts entry.cpu.0) entry.cmd ≡ Some c
