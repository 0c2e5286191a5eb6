use Rattle.std.specs.Prelude.{ℕ, List, [], ◌∷◌, ◌++◌, None, Some, codes}
use Rattle.guest_base.specs.declared.memory.Block.{Block}
use Rattle.guest_base.specs.declared.memory.Level.TheVariants.{Large}
use Rattle.guest_base.specs.declared.memory.PageState.TheVariants.{Pending}
use Rattle.event_core.specs.declared.boot.Boot.{Boot}
use Rattle.event_core.specs.declared.command.Command.{Command}
use Rattle.event_core.specs.declared.command.Command.TheVariants as command
use Rattle.event_core.specs.declared.module_call.PortAnswer.TheVariants as answer
use Rattle.event_core.specs.declared.reply.Found.{Found}
use Rattle.event_core.specs.declared.reply.Found.TheVariants as found
use Rattle.event_core.specs.declared.reply.Reply.TheVariants as reply
use Rattle.event_core.specs.declared.event.ConvertEnd.TheVariants as end
use Rattle.event_core.specs.declared.event.Event.TheVariants as event
use Rattle.event_core.specs.declared.entry.Place.TheVariants as place
use Rattle.event_core.specs.declared.entry.Entry.{Entry}
use Rattle.event_rows.specs.Accepts.{accepted, first_units}
use Rattle.event_rows.specs.Written.{entry_at, one_page, accepted_guest}
use Rattle.event_rows.specs.Giving.{give_call}

-- Loads stray into a page of a block that is given back, and accepted again.

-- a guest of one page in front of 4 MiB, all accepted; the bitmap's units, of 2 MiB, begin behind the page
abbrev pub stray_guest : Boot
stray_guest = record (accepted_guest 1023 1025) { base = 4194304; bits = 0 ∷ [] }

abbrev pub stray_script : List Command
stray_script =
    command.Alloc (codes "b") 0
    ∷ command.Alloc (codes "a") 10
    ∷ command.Load (codes "b") 4092
    ∷ command.Giveback (codes "a")
    ∷ command.Load (codes "b") 4092
    ∷ command.Accept 4194304 4096
    ∷ command.Load (codes "b") 4092
    ∷ []

-- the block behind the page
abbrev pub block_behind : Block
block_behind = record { first = 1024; order = 10 }

-- a load that strays into the block's first page, and finds it so
abbrev pub stray_load : ℕ → ℕ → Found → Entry
stray_load stamp number into =
    entry_at stamp number place.Memory (event.Touched (record { 0 = 1024 }) into) (Some (reply.Loaded (0 ∷ 0 ∷ 0 ∷ 0 ∷ 0 ∷ 0 ∷ 0 ∷ 0 ∷ []) (Some into)))

-- the two blocks are got, and the block behind the page is given back
abbrev pub page_held : Entry
page_held = entry_at 1 0 place.Memory (event.Got (one_page 1023)) (Some (reply.Addr 4190208))

abbrev pub stray_given : List Entry
stray_given =
    page_held
    ∷ entry_at 2 1 place.Memory (event.Got block_behind) (Some (reply.Addr 4194304))
    ∷ stray_load 3 2 found.Accepted
    ∷ entry_at 4 3 place.Memory (event.ConvertBegin block_behind Pending) None
    ∷ entry_at 5 3 place.Memory (event.ConvertEnd block_behind (give_call block_behind answer.Ok ∷ []) end.Converted) (Some reply.Done)
    ∷ []

-- what a load finds then; after that the page's unit is accepted
abbrev pub stray_accepted : Found → List Entry
stray_accepted given =
    stray_given
    ++ stray_load 6 4 given
    ∷ entry_at 7 5 place.Memory (event.Claim None (Some (first_units 1)) (Some (first_units 1))) None
    ∷ entry_at 8 5 place.Memory (event.Report (first_units 1) (accepted Large 1024 512 ∷ []) None None) (Some (reply.Count 1))
    ∷ []

-- the history, with what a load finds in the given page
abbrev pub stray_history : Found → List Entry
stray_history given = stray_accepted given ++ stray_load 9 6 found.Accepted ∷ []
