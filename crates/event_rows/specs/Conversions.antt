use Rattle.std.specs.Prelude.{ℕ, List, [], ◌∷◌, None, Some, codes}
use Rattle.guest_base.specs.declared.memory.Level.TheVariants.{Small}
use Rattle.guest_base.specs.declared.memory.PageState.TheVariants.{Accepted, Shared}
use Rattle.event_core.specs.declared.boot.Boot.{Boot}
use Rattle.event_core.specs.declared.command.Command.{Command}
use Rattle.event_core.specs.declared.command.Command.TheVariants as command
use Rattle.event_core.specs.declared.module_call.CallKind.{CallKind}
use Rattle.event_core.specs.declared.module_call.CallKind.TheVariants as kind
use Rattle.event_core.specs.declared.module_call.PortAnswer.{PortAnswer}
use Rattle.event_core.specs.declared.module_call.PortAnswer.TheVariants as answer
use Rattle.event_core.specs.declared.module_call.ModuleCall.{ModuleCall}
use Rattle.event_core.specs.declared.reply.Found.{Found}
use Rattle.event_core.specs.declared.reply.Found.TheVariants as found
use Rattle.event_core.specs.declared.reply.Reply.TheVariants as reply
use Rattle.event_core.specs.declared.event.ConvertEnd.TheVariants as end
use Rattle.event_core.specs.declared.event.Event.TheVariants as event
use Rattle.event_core.specs.declared.entry.Place.TheVariants as place
use Rattle.event_core.specs.declared.entry.Entry.{Entry}
use Rattle.event_rows.specs.Written.{entry_at, one_page, accepted_guest}

-- A block is shared, taken back half way, and then wholly; loads from the block in front of it stray into its page meanwhile.

-- a guest of two pages, the second behind the first, each a block of its own
abbrev pub pair_guest : Boot
pair_guest = accepted_guest 1 2

abbrev pub pair_script : List Command
pair_script =
    command.Alloc (codes "b") 0
    ∷ command.Alloc (codes "a") 0
    ∷ command.Write (codes "a") 0 (90 ∷ [])
    ∷ command.Share (codes "a")
    ∷ command.Read (codes "a") 0 1
    ∷ command.Load (codes "b") 4092
    ∷ command.Private (codes "a")
    ∷ command.Read (codes "a") 0 1
    ∷ command.Free (codes "a")
    ∷ command.Load (codes "b") 4092
    ∷ command.Private (codes "a")
    ∷ command.Read (codes "a") 0 1
    ∷ command.Private (codes "a")
    ∷ []

-- a call for the second page
abbrev pub page_call : CallKind → PortAnswer → ModuleCall
page_call kind answer = record { kind = kind; first = 2; count = 1; level = Small; answer = answer }

-- a load that strays into the second page, and finds it so
abbrev pub strayed : ℕ → ℕ → Found → Entry
strayed stamp number into =
    entry_at stamp number place.Memory (event.Touched (record { 0 = 2 }) into) (Some (reply.Loaded (0 ∷ 0 ∷ 0 ∷ 0 ∷ 0 ∷ 0 ∷ 0 ∷ 0 ∷ []) (Some into)))

-- the history, with the bytes that the block has when it was taken back, and what the second load finds
abbrev pub pair_history : List ℕ → Found → List Entry
pair_history read half =
    entry_at 1 0 place.Memory (event.Got (one_page 1)) (Some (reply.Addr 4096))
    ∷ entry_at 2 1 place.Memory (event.Got (one_page 2)) (Some (reply.Addr 8192))
    ∷ entry_at 3 2 place.Own event.Own (Some reply.Done)
    ∷ entry_at 4 3 place.Memory (event.ConvertBegin (one_page 2) Shared) None
    ∷ entry_at 5 3 place.Memory (event.ConvertEnd (one_page 2) (page_call kind.Share answer.Ok ∷ []) end.Converted) (Some reply.Done)
    ∷ entry_at 6 4 place.Own event.Own (Some reply.IsShared)
    ∷ strayed 7 5 found.Shared
    ∷ entry_at 8 6 place.Memory (event.ConvertBegin (one_page 2) Accepted) None
    ∷ entry_at 9 6 place.Memory (event.ConvertEnd (one_page 2) (page_call kind.Unshare answer.Ok ∷ page_call kind.Accept answer.Failed ∷ []) (end.Half (record { 0 = 2 }))) (Some reply.Module)
    ∷ entry_at 10 7 place.Own event.Own (Some reply.Half)
    ∷ entry_at 11 8 place.Own event.Own (Some reply.Half)
    ∷ strayed 12 9 half
    ∷ entry_at 13 10 place.Memory (event.ConvertBegin (one_page 2) Accepted) None
    ∷ entry_at 14 10 place.Memory (event.ConvertEnd (one_page 2) (page_call kind.Accept answer.Ok ∷ []) end.Converted) (Some reply.Done)
    ∷ entry_at 15 11 place.Own event.Own (Some (reply.Hex read))
    ∷ entry_at 16 12 place.Own event.Own (Some reply.IsPrivate)
    ∷ []
