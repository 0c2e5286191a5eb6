-- Histories written out, on which the definitions of what may happen are tried: a guest with 4 MiB of conventional memory and
-- 8 MiB of unaccepted memory behind it, whose one processor accepts a range of bytes.
use Rattle.std.specs.Prelude.{ℕ, zero, suc, ◌+◌, List, [], ◌∷◌, None, Some, codes}
use Rattle.std.specs.List.{flat_map}
use Rattle.event_core.specs.Texts.{line}
use Rattle.guest_base.specs.declared.memory.Units.{Units}
use Rattle.guest_base.specs.declared.memory.Level.{Level}
use Rattle.guest_base.specs.declared.memory.Level.TheVariants.{Small, Large}
use Rattle.guest_base.specs.declared.memory.PageState.TheVariants.{Pending, Accepted}
use Rattle.event_core.specs.declared.boot.Boot.{Boot}
use Rattle.event_core.specs.declared.command.Command.{Command}
use Rattle.event_core.specs.declared.command.Command.TheVariants as command
use Rattle.event_core.specs.declared.module_call.CallKind.TheVariants as kind
use Rattle.event_core.specs.declared.module_call.PortAnswer.TheVariants as answer
use Rattle.event_core.specs.declared.module_call.ModuleCall.{ModuleCall}
use Rattle.event_core.specs.declared.reply.Reply.TheVariants.{Count}
use Rattle.event_core.specs.declared.event.Event.TheVariants.{Claim, Report}
use Rattle.event_core.specs.declared.entry.Place.TheVariants.{Memory}
use Rattle.event_core.specs.declared.entry.Entry.{Entry}

-- a small guest: pages 0 to 1,023 are accepted by the map and the 2,048 pages behind them are pending, in four units
abbrev pub small_guest : Boot
small_guest = record {
  ram = record { pages = record { first = 0; count = 1024 }; state = Accepted } ∷ record { pages = record { first = 1024; count = 2048 }; state = Pending } ∷ [];
  hosts = [];
  base = 4194304;
  unit = 2097152;
  bits = 15 ∷ [];
  cpus = 1;
  slots = 0;
  areas = 1;
  pool = None;
  calls = [];
}

-- the scripts: one processor accepts len bytes from the first unaccepted byte on
abbrev pub accepting : ℕ → List (List Command)
accepting len = (command.Accept 4194304 len ∷ []) ∷ []

-- a count of units from the first on
abbrev pub first_units : ℕ → Units
first_units count = record { first = 0; count = count }

-- one accept call that is done, of a level from a page on
abbrev pub accepted : Level → ℕ → ℕ → ModuleCall
accepted level first count = record { kind = kind.Accept; first = first; count = count; level = level; answer = answer.Ok }

-- the processor claims units, all of them unaccepted
abbrev pub claimed : Units → Entry
claimed units = record {
  stamp = 1;
  cpu = record { 0 = 0 };
  cmd = 0;
  place = Memory;
  event = Claim None (Some units) (Some units);
  reply = None;
}

-- and reports them with its calls, and how many units were cleared
abbrev pub reported : Units → List ModuleCall → ℕ → Entry
reported units calls cleared = record {
  stamp = 2;
  cpu = record { 0 = 0 };
  cmd = 0;
  place = Memory;
  event = Report units calls None None;
  reply = Some (Count cleared);
}

-- Small calls that are done, one for each of a count of pages from one on
abbrev pub accepted_singly : ℕ → ℕ → List ModuleCall
accepted_singly first zero = []
accepted_singly first (suc count) = accepted Small first 1 ∷ accepted_singly (first + 1) count

-- The first units are claimed and accepted by these calls, and the report counts this many units.
abbrev pub units_accepted_by : ℕ → List ModuleCall → ℕ → List Entry
units_accepted_by count calls cleared = claimed (first_units count) ∷ reported (first_units count) calls cleared ∷ []

-- one Large call for the first unit
abbrev pub one_large : List ModuleCall
one_large = accepted Large 1024 512 ∷ []

-- two Large calls for the first two units
abbrev pub two_large : List ModuleCall
two_large = accepted Large 1024 512 ∷ accepted Large 1536 512 ∷ []

-- the text that is printed where the first page was accepted: the count, and the pages of 6 MiB and of the 6 MiB behind them
abbrev pub page_text : List ℕ
page_text =
    flat_map line (codes "cpu 0" ∷ codes "1 ok 1" ∷ codes "pages" ∷ codes "0x0-0x600000 accepted" ∷ codes "0x600000-0xc00000 pending" ∷ codes "end" ∷ [])
