use Rattle.std.specs.Prelude.{List, [], ◌∷◌, ◌++◌, Option, None, Some, codes}
use Rattle.guest_base.specs.declared.memory.Units.{Units}
use Rattle.guest_base.specs.declared.memory.Level.TheVariants.{Large}
use Rattle.guest_base.specs.declared.memory.PageState.TheVariants.{Pending, Accepted}
use Rattle.event_core.specs.declared.boot.Boot.{Boot}
use Rattle.event_core.specs.declared.command.Command.{Command}
use Rattle.event_core.specs.declared.command.Command.TheVariants as command
use Rattle.event_core.specs.declared.module_call.PortAnswer.TheVariants as answer
use Rattle.event_core.specs.declared.reply.Reply.TheVariants as reply
use Rattle.event_core.specs.declared.event.ConvertEnd.TheVariants as end
use Rattle.event_core.specs.declared.event.Event.TheVariants as event
use Rattle.event_core.specs.declared.entry.Place.TheVariants as place
use Rattle.event_core.specs.declared.entry.Entry.{Entry}
use Rattle.event_core.specs.Claims.{Claimed}
use Rattle.event_rows.specs.Accepts.{accepted}
use Rattle.event_rows.specs.Written.{entry_by, accepted_guest}
use Rattle.event_rows.specs.Giving.{give_call}
use Rattle.event_rows.specs.Straying.{block_behind}

-- A block is given back within the units that another processor has claimed: the claim goes on by the bits that it found.

-- a guest of 8 MiB: the first block of 4 MiB waits, and the block behind it is accepted, by a table of units of 2 MiB
abbrev pub meanwhile_guest : Boot
meanwhile_guest = record (accepted_guest 1024 1024) {
  ram = record { pages = record { first = 0; count = 1024 }; state = Pending } ∷ record { pages = record { first = 1024; count = 1024 }; state = Accepted } ∷ [];
  bits = 3 ∷ [];
  cpus = 2;
}

abbrev pub giver_script : List Command
giver_script = command.Alloc (codes "a") 10 ∷ command.Giveback (codes "a") ∷ []

-- from the first block's second unit up to the accepted block's first
abbrev pub accepter_script : List Command
accepter_script = command.Accept 2097152 4194304 ∷ []

-- the units that are claimed, the guard among them; the one that is unaccepted; and those of the given block
abbrev pub claimed_units : Units
claimed_units = record { first = 1; count = 3 }

abbrev pub unaccepted_unit : Units
unaccepted_unit = record { first = 1; count = 1 }

abbrev pub meanwhile_units : Units
meanwhile_units = record { first = 2; count = 2 }

-- the block is got and its giveback begun; the units are claimed; and the block is given back
abbrev pub meanwhile_given : List Entry
meanwhile_given =
    entry_by 0 1 0 place.Memory (event.Got block_behind) (Some (reply.Addr 4194304))
    ∷ entry_by 0 2 1 place.Memory (event.ConvertBegin block_behind Pending) None
    ∷ entry_by 1 3 0 place.Memory (event.Claim None (Some claimed_units) (Some unaccepted_unit)) None
    ∷ entry_by 0 4 1 place.Memory (event.ConvertEnd block_behind (give_call block_behind answer.Ok ∷ []) end.Converted) (Some reply.Done)
    ∷ []

-- the history, with the run at which the claim goes on
abbrev pub meanwhile_history : Option Units → List Entry
meanwhile_history next =
    meanwhile_given
    ++ entry_by 1 5 0 place.Memory (event.Report unaccepted_unit (accepted Large 512 512 ∷ []) None next) (Some (reply.Count 1))
    ∷ []

-- the claim, which no call was made before
abbrev pub claim_meanwhile : Claimed
claim_meanwhile = record { block = None; units = claimed_units; run = unaccepted_unit; before = []; cleared = 0 }
