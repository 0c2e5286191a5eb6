use Rattle.std.specs.Prelude.{ℕ, [], ◌∷◌, Option, None}
use Rattle.guest_base.specs.declared.memory.Block.{Block}
use Rattle.guest_base.specs.declared.memory.PageState.TheVariants.{Accepted}
use Rattle.event_core.specs.declared.boot.Boot.{Boot}
use Rattle.event_core.specs.declared.reply.Reply.{Reply}
use Rattle.event_core.specs.declared.event.Event.{Event}
use Rattle.event_core.specs.declared.entry.Place.{Place}
use Rattle.event_core.specs.declared.entry.Entry.{Entry}

-- The words in which histories are written out.

-- an entry of the processor 0, and one of any processor
abbrev pub entry_by : ℕ → ℕ → ℕ → Place → Event → Option Reply → Entry
entry_by cpu stamp number place event reply = record {
  stamp = stamp;
  cpu = record { 0 = cpu };
  cmd = number;
  place = place;
  event = event;
  reply = reply;
}

abbrev pub entry_at : ℕ → ℕ → Place → Event → Option Reply → Entry
entry_at stamp number place event reply = entry_by 0 stamp number place event reply

-- one page
abbrev pub one_page : ℕ → Block
one_page page = record { first = page; order = 0 }

-- a guest of one processor with a count of accepted pages from one on, without unaccepted memory and without a pool
abbrev pub accepted_guest : ℕ → ℕ → Boot
accepted_guest first count = record {
  ram = record { pages = record { first = first; count = count }; state = Accepted } ∷ [];
  hosts = [];
  base = 0;
  unit = 2097152;
  bits = [];
  cpus = 1;
  slots = 0;
  areas = 1;
  pool = None;
  calls = [];
}
