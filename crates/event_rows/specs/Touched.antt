use Rattle.std.specs.Prelude.{ℕ, List, [], ◌∷◌, ◌++◌}
use Rattle.guest_base.specs.declared.memory.Pages.{Pages}
use Rattle.event_core.specs.declared.boot.Boot.{Boot}
use Rattle.event_core.specs.declared.command.Command.{Command}
use Rattle.event_core.specs.declared.entry.Entry.{Entry}
use Rattle.event_core.specs.Untouched.{touched_pages}

-- What the entries of a history touch, one after another, behind those before it.

abbrev pub touched_along : Boot → List (List Command) → List Entry → List Entry → List (List Pages)
touched_along boot scripts before [] = []
touched_along boot scripts before (entry ∷ entries) = touched_pages boot scripts before entry ∷ touched_along boot scripts (before ++ entry ∷ []) entries

-- an entry that touches one page alone, and one that touches none
abbrev pub alone : ℕ → List Pages
alone page = record { first = page; count = 1 } ∷ []

abbrev pub none : List Pages
none = []
