use Rattle.std.specs.Prelude.{List, [], ◌∷◌, ◌++◌, Bool, false, ◌^◌, Option, None, Some, codes}
use Rattle.guest_base.specs.declared.memory.Block.{Block}
use Rattle.guest_base.specs.declared.memory.Units.{Units}
use Rattle.guest_base.specs.declared.memory.Level.TheVariants.{Small, Large}
use Rattle.guest_base.specs.declared.memory.PageState.TheVariants.{Pending}
use Rattle.event_core.specs.declared.boot.Boot.{Boot}
use Rattle.event_core.specs.declared.command.Command.{Command}
use Rattle.event_core.specs.declared.command.Command.TheVariants as command
use Rattle.event_core.specs.declared.module_call.CallKind.TheVariants as kind
use Rattle.event_core.specs.declared.module_call.PortAnswer.{PortAnswer}
use Rattle.event_core.specs.declared.module_call.PortAnswer.TheVariants as answer
use Rattle.event_core.specs.declared.module_call.ModuleCall.{ModuleCall}
use Rattle.guest_base.specs.declared.transfer.Direction.TheVariants.{ToDevice}
use Rattle.event_core.specs.declared.reply.Reply.{Reply}
use Rattle.event_core.specs.declared.reply.Reply.TheVariants as reply
use Rattle.event_core.specs.declared.event.ConvertEnd.TheVariants as end
use Rattle.event_core.specs.declared.event.Event.TheVariants as event
use Rattle.event_core.specs.declared.entry.Place.TheVariants as place
use Rattle.event_core.specs.declared.entry.Entry.{Entry}
use Rattle.event_core.specs.Holdings.{Own, Sharing, PrivateBlock}
use Rattle.event_core.specs.Own.{nothing}
use Rattle.event_core.specs.Bytes.{zeros}
use Rattle.event_core.specs.Refusals.{refusal_of}
use Rattle.event_rows.specs.Accepts.{accepted}
use Rattle.event_rows.specs.Written.{entry_at, accepted_guest}

-- A block of 4 MiB is given back to the host: the module refuses it once, then it is done, and the block is accepted and got anew.

-- a guest of 4 MiB, all accepted: the bits of the eight units of its table are clear
abbrev pub giving_guest : Boot
giving_guest = record (accepted_guest 0 1024) { bits = 0 ∷ [] }

abbrev pub giving_script : List Command
giving_script =
    command.Alloc (codes "a") 10
    ∷ command.Query 0 4096
    ∷ command.Giveback (codes "a")
    ∷ command.Query 0 4096
    ∷ command.Read (codes "a") 0 1
    ∷ command.Giveback (codes "a")
    ∷ command.Query 0 4096
    ∷ command.Giveback (codes "a")
    ∷ command.Alloc (codes "b") 10
    ∷ []

-- one call for the whole block
abbrev pub give_call : Block → PortAnswer → ModuleCall
give_call block answer = record { kind = kind.Give; first = block.first; count = 2 ^ block.order; level = Small; answer = answer }

-- the guest's one block, its two units, and the guard behind them
abbrev pub given_block : Block
given_block = record { first = 0; order = 10 }

abbrev pub given_units : Units
given_units = record { first = 0; count = 2 }

abbrev pub with_guard_unit : Units
with_guard_unit = record { first = 0; count = 3 }

-- the block is got, and the module refuses to take it back: it is private still, and had
abbrev pub refused_part : List Entry
refused_part =
    entry_at 1 0 place.Memory (event.Got given_block) (Some (reply.Addr 0))
    ∷ entry_at 2 1 place.Memory (event.Asked false) (Some (reply.Query false))
    ∷ entry_at 3 2 place.Memory (event.ConvertBegin given_block Pending) None
    ∷ entry_at 4 2 place.Memory (event.ConvertEnd given_block (give_call given_block answer.Failed ∷ []) end.Refused) (Some reply.Module)
    ∷ entry_at 5 3 place.Memory (event.Asked false) (Some (reply.Query false))
    ∷ entry_at 6 4 place.Own event.Own (Some (reply.Hex (0 ∷ [])))
    ∷ []

-- the block is given back
abbrev pub begun_again : Entry
begun_again = entry_at 7 5 place.Memory (event.ConvertBegin given_block Pending) None

abbrev pub given_back : Entry
given_back = entry_at 8 5 place.Memory (event.ConvertEnd given_block (give_call given_block answer.Ok ∷ []) end.Converted) (Some reply.Done)

abbrev pub given_part : List Entry
given_part = refused_part ++ begun_again ∷ given_back ∷ []

-- what a query finds then; the name has no block, and the next allocation claims the block, which waits again
abbrev pub asked_part : Bool → List Entry
asked_part unaccepted =
    given_part
    ++ entry_at 9 6 place.Memory (event.Asked unaccepted) (Some (reply.Query unaccepted))
    ∷ entry_at 10 7 place.Own event.Own (Some reply.Unknown)
    ∷ []

abbrev pub claimed_anew : Entry
claimed_anew = entry_at 11 8 place.Memory (event.Claim (Some given_block) (Some with_guard_unit) (Some given_units)) None

abbrev pub reported_anew : Entry
reported_anew = entry_at 12 8 place.Memory (event.Report given_units (accepted Large 0 512 ∷ accepted Large 512 512 ∷ []) None None) None

abbrev pub got_anew : Entry
got_anew = entry_at 13 8 place.Memory (event.Got given_block) (Some (reply.Addr 0))

-- the history, with what the query finds behind the giveback
abbrev pub giving_history : Bool → List Entry
giving_history unaccepted = asked_part unaccepted ++ claimed_anew ∷ reported_anew ∷ got_anew ∷ []

-- ---- what a giveback of a block is refused for

-- a processor that has one block, private or not, and one that has it mapped
abbrev pub has_block : Block → Sharing → Own
has_block block sharing = record nothing { blocks = record { name = codes "a"; block = block; sharing = sharing; bytes = zeros } ∷ [] }

abbrev pub has_mapped : Block → Own
has_mapped block = record (has_block block PrivateBlock) {
  mappings =
      record { name = codes "m"; run = record { area = 0; first = 0; count = 1; offset = 0; len = 1 }; block = block; off = 0; direction = ToDevice }
      ∷ [];
}

-- a block of 2 MiB; the block of 4 MiB in the last two of the bitmap's eight units, and the one behind it
abbrev pub half_of_block : Block
half_of_block = record { first = 0; order = 9 }

abbrev pub block_of_last_units : Block
block_of_last_units = record { first = 3072; order = 10 }

abbrev pub block_past_units : Block
block_past_units = record { first = 4096; order = 10 }

-- the first refusal of a giveback of the block
abbrev pub giveback_refusal : Boot → Own → Option Reply
giveback_refusal boot own = refusal_of boot own (command.Giveback (codes "a"))
