use Rattle.std.specs.Prelude.{ℕ, List, [], ◌∷◌, ◌++◌, None, Some}
use Rattle.std.specs.List.{repeat}
use Rattle.guest_base.specs.declared.memory.Units.{Units}
use Rattle.guest_base.specs.declared.memory.Level.TheVariants.{Small}
use Rattle.guest_base.specs.declared.memory.PageState.TheVariants.{Pending, Accepted}
use Rattle.event_core.specs.declared.boot.Boot.{Boot}
use Rattle.event_core.specs.declared.command.Command.{Command}
use Rattle.event_core.specs.declared.command.Command.TheVariants as command
use Rattle.event_core.specs.declared.reply.Reply.TheVariants as reply
use Rattle.event_core.specs.declared.event.Event.TheVariants as event
use Rattle.event_core.specs.declared.entry.Place.TheVariants as place
use Rattle.event_core.specs.declared.entry.Entry.{Entry}
use Rattle.event_core.specs.Table.{Bits}
use Rattle.event_rows.specs.Accepts.{small_guest, accepted}
use Rattle.event_rows.specs.Written.{entry_at}

-- An accept over a table of units of 4 KiB, which an earlier kernel handed on.

-- the earlier kernel accepted the first 512 of 2,048 units
abbrev pub small_table : Bits
small_table = record { unit = 4096; base = 4194304; bits = repeat 64 (0 ∷ []) ++ repeat 192 (255 ∷ []) }

-- the small guest with this table: the pages from 1,536 on are pending
abbrev pub small_unit_guest : Boot
small_unit_guest = record small_guest {
  ram = record { pages = record { first = 0; count = 1536 }; state = Accepted } ∷ record { pages = record { first = 1536; count = 1536 }; state = Pending } ∷ [];
  unit = small_table.unit;
  bits = small_table.bits;
}

-- the last accepted page
abbrev pub small_unit_script : List Command
small_unit_script = command.Accept 6287360 4096 ∷ []

-- its unit with the guard behind it, and the guard alone
abbrev pub last_and_guard : Units
last_and_guard = record { first = 511; count = 2 }

abbrev pub guard_alone : Units
guard_alone = record { first = 512; count = 1 }

-- the history, with the count of cleared units
abbrev pub small_unit_history : ℕ → List Entry
small_unit_history cleared =
    entry_at 1 0 place.Memory (event.Claim None (Some last_and_guard) (Some guard_alone)) None
    ∷ entry_at 2 0 place.Memory (event.Report guard_alone (accepted Small 1536 1 ∷ []) None None) (Some (reply.Count cleared))
    ∷ []
