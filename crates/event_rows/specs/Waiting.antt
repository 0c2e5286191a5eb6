use Rattle.std.specs.Prelude.{ℕ, List, [], ◌∷◌, None, Some, codes}
use Rattle.guest_base.specs.declared.memory.Block.{Block}
use Rattle.guest_base.specs.declared.memory.Units.{Units}
use Rattle.guest_base.specs.declared.memory.Level.TheVariants.{Large}
use Rattle.guest_base.specs.declared.memory.PageState.TheVariants.{Pending}
use Rattle.event_core.specs.declared.boot.Boot.{Boot}
use Rattle.event_core.specs.declared.command.Command.{Command}
use Rattle.event_core.specs.declared.command.Command.TheVariants as command
use Rattle.event_core.specs.declared.reply.Reply.TheVariants as reply
use Rattle.event_core.specs.declared.event.Event.TheVariants as event
use Rattle.event_core.specs.declared.entry.Place.TheVariants as place
use Rattle.event_core.specs.declared.entry.Entry.{Entry}
use Rattle.event_rows.specs.Accepts.{accepted}
use Rattle.event_rows.specs.Written.{entry_at, one_page}

-- A page is taken from a block that waits: its units are accepted first.

-- a guest of 4 MiB of unaccepted memory, one block of the greatest order
abbrev pub waiting_guest : Boot
waiting_guest = record {
  ram = record { pages = record { first = 0; count = 1024 }; state = Pending } ∷ [];
  hosts = [];
  base = 0;
  unit = 2097152;
  bits = 3 ∷ [];
  cpus = 1;
  slots = 0;
  areas = 1;
  pool = None;
  calls = [];
}

abbrev pub waiting_script : List Command
waiting_script = command.Alloc (codes "a") 0 ∷ []

abbrev pub whole_block : Block
whole_block = record { first = 0; order = 10 }

-- its two units with the guard behind them, and the two that are unaccepted
abbrev pub guarded_three : Units
guarded_three = record { first = 0; count = 3 }

abbrev pub unaccepted_two : Units
unaccepted_two = record { first = 0; count = 2 }

abbrev pub block_claimed : Entry
block_claimed = entry_at 1 0 place.Memory (event.Claim (Some whole_block) (Some guarded_three) (Some unaccepted_two)) None

abbrev pub block_reported : Entry
block_reported = entry_at 2 0 place.Memory (event.Report unaccepted_two (accepted Large 0 512 ∷ accepted Large 512 512 ∷ []) None None) None

abbrev pub page_got : ℕ → Entry
page_got stamp = entry_at stamp 0 place.Memory (event.Got (one_page 0)) (Some (reply.Addr 0))

-- the block is claimed and reported, and the page is got
abbrev pub waiting_history : List Entry
waiting_history = block_claimed ∷ block_reported ∷ page_got 3 ∷ []

-- the page is got at once
abbrev pub unwaited_history : List Entry
unwaited_history = page_got 1 ∷ []
