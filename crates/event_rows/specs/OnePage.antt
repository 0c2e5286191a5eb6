use Rattle.std.specs.Prelude.{ℕ, List, [], ◌∷◌, Some, codes}
use Rattle.event_core.specs.declared.boot.Boot.{Boot}
use Rattle.event_core.specs.declared.command.Command.{Command}
use Rattle.event_core.specs.declared.command.Command.TheVariants as command
use Rattle.event_core.specs.declared.reply.Found.TheVariants as found
use Rattle.event_core.specs.declared.reply.Reply.TheVariants as reply
use Rattle.event_core.specs.declared.event.Event.TheVariants as event
use Rattle.event_core.specs.declared.entry.Place.TheVariants as place
use Rattle.event_core.specs.declared.entry.Entry.{Entry}
use Rattle.event_rows.specs.Written.{entry_at, one_page, accepted_guest}

-- One block of one page, in a guest that has no other: got, written, read, loaded past its end, freed, and got again.

abbrev pub page_guest : Boot
page_guest = accepted_guest 0 1

abbrev pub page_script : List Command
page_script =
    command.Alloc (codes "a") 0
    ∷ command.Write (codes "a") 1 (1 ∷ 2 ∷ [])
    ∷ command.Read (codes "a") 0 4
    ∷ command.Load (codes "a") 4092
    ∷ command.Alloc (codes "a") 0
    ∷ command.Free (codes "a")
    ∷ command.Read (codes "a") 0 1
    ∷ command.Alloc (codes "b") 0
    ∷ command.Read (codes "b") 1 1
    ∷ []

-- the history, with the bytes that the first read tells
abbrev pub page_history : List ℕ → List Entry
page_history read =
    entry_at 1 0 place.Memory (event.Got (one_page 0)) (Some (reply.Addr 0))
    ∷ entry_at 2 1 place.Own event.Own (Some reply.Done)
    ∷ entry_at 3 2 place.Own event.Own (Some (reply.Hex read))
    ∷ entry_at 4 3 place.Memory (event.Touched (record { 0 = 1 }) found.Outside) (Some (reply.Loaded (0 ∷ 0 ∷ 0 ∷ 0 ∷ 0 ∷ 0 ∷ 0 ∷ 0 ∷ []) (Some found.Outside)))
    ∷ entry_at 5 4 place.Own event.Own (Some reply.Taken)
    ∷ entry_at 6 5 place.Memory (event.Freed (one_page 0)) (Some reply.Done)
    ∷ entry_at 7 6 place.Own event.Own (Some reply.Unknown)
    ∷ entry_at 8 7 place.Memory (event.Got (one_page 0)) (Some (reply.Addr 0))
    ∷ entry_at 9 8 place.Own event.Own (Some (reply.Hex (0 ∷ [])))
    ∷ []
