use Rattle.std.specs.Prelude.{ℕ, List, [], ◌∷◌, Option, None, Some, codes}
use Rattle.guest_base.specs.declared.memory.Block.{Block}
use Rattle.guest_base.specs.declared.memory.Pages.{Pages}
use Rattle.guest_base.specs.declared.transfer.Direction.TheVariants.{ToDevice}
use Rattle.guest_base.specs.declared.transfer.SlotRun.{SlotRun}
use Rattle.event_core.specs.declared.boot.Boot.{Boot}
use Rattle.event_core.specs.declared.command.Command.{Command}
use Rattle.event_core.specs.declared.command.Command.TheVariants as command
use Rattle.event_core.specs.declared.module_call.PortAnswer.TheVariants as answer
use Rattle.event_core.specs.declared.reply.Reply.{Reply}
use Rattle.event_core.specs.declared.reply.Reply.TheVariants as reply
use Rattle.event_core.specs.declared.event.Event.TheVariants as event
use Rattle.event_core.specs.declared.entry.Place.TheVariants as place
use Rattle.event_core.specs.declared.entry.Entry.{Entry}
use Rattle.event_core.specs.Boot.{share_call}
use Rattle.event_rows.specs.Written.{entry_at, accepted_guest}

-- Mappings of 65 slots each, of which an area of 128 holds one: the next one is found in the second area, and then the pool is full.

abbrev pub area_pool : Pages
area_pool = record { first = 0; count = 128 }

abbrev pub area_guest : Boot
area_guest = record (accepted_guest 0 192) { slots = 256; areas = 2; pool = Some area_pool; calls = share_call area_pool answer.Ok ∷ [] }

-- the block behind the pool
abbrev pub area_block : Block
area_block = record { first = 128; order = 6 }

abbrev pub long_map : List ℕ → Command
long_map name = command.Map name (codes "a") 0 133120 ToDevice 0

abbrev pub area_script : List Command
area_script = command.Alloc (codes "a") 6 ∷ long_map (codes "m") ∷ long_map (codes "n") ∷ long_map (codes "p") ∷ []

abbrev pub long_run : ℕ → SlotRun
long_run area = record { area = area; first = 0; count = 65; offset = 0; len = 133120 }

-- a look in an area
abbrev pub looked : ℕ → ℕ → ℕ → Option SlotRun → Option Reply → Entry
looked stamp number area run reply = entry_at stamp number (place.Area area) (event.Looked area run) reply

-- the history, with the answer to the last mapping after both areas were looked in
abbrev pub area_history : Option Reply → List Entry
area_history last =
    entry_at 1 0 place.Memory (event.Got area_block) (Some (reply.Addr 524288))
    ∷ looked 2 1 0 (Some (long_run 0)) (Some (reply.Addr 0))
    ∷ looked 3 2 0 None None
    ∷ looked 4 2 1 (Some (long_run 1)) (Some (reply.Addr 262144))
    ∷ looked 5 3 0 None None
    ∷ looked 6 3 1 None last
    ∷ []

-- the second mapping is answered full after its look in the first area alone
abbrev pub early_full : List Entry
early_full =
    entry_at 1 0 place.Memory (event.Got area_block) (Some (reply.Addr 524288))
    ∷ looked 2 1 0 (Some (long_run 0)) (Some (reply.Addr 0))
    ∷ looked 3 2 0 None (Some reply.Full)
    ∷ []

-- the first mapping finds nothing in an area that nothing is in
abbrev pub missed_run : List Entry
missed_run = entry_at 1 0 place.Memory (event.Got area_block) (Some (reply.Addr 524288)) ∷ looked 2 1 0 None None ∷ []
