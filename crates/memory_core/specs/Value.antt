use Rattle.std.specs.Prelude.{ℕ, List, Option, None, slice_index_or}
use Rattle.event_core.specs.declared.boot.Boot.{Boot}
use Rattle.event_core.specs.declared.entry.Entry.{Entry}
use Rattle.page_module.specs.declared.ticket.Ticket.{Ticket}

-- What contracts see of the memory.

-- what is out with a processor for its open claim: the taking of the run's pages, and for how many
-- units behind the run there is room
pub record Handed : Type 0 where
  pub ticket : Ticket
  pub room : ℕ

-- The memory: how it was booted, its entries, what is out with each processor, and the room for the
-- next step. A step needs room for one more than the units that it may accept.
pub record MemoryValue : Type 0 where
  pub boot : Boot
  pub entries : List Entry
  pub out : List (Option Handed)
  pub room : ℕ

-- what is out with a processor
abbrev pub handed_to : MemoryValue → ℕ → Option Handed
handed_to memory cpu = slice_index_or memory.out cpu None
