use Rattle.std.specs.Prelude.{ℕ, List, [], ◌∷◌, Some, true, false, codes}
use Rattle.guest_base.specs.declared.memory.Pages.{Pages}
use Rattle.guest_base.specs.declared.transfer.Direction.TheVariants as direction
use Rattle.guest_base.specs.declared.transfer.SlotRun.{SlotRun}
use Rattle.event_core.specs.declared.boot.Boot.{Boot}
use Rattle.event_core.specs.declared.command.Command.{Command}
use Rattle.event_core.specs.declared.command.Command.TheVariants as command
use Rattle.event_core.specs.declared.module_call.PortAnswer.TheVariants as answer
use Rattle.event_core.specs.declared.reply.Reply.TheVariants as reply
use Rattle.event_core.specs.declared.event.Event.TheVariants as event
use Rattle.event_core.specs.declared.entry.Place.TheVariants as place
use Rattle.event_core.specs.declared.entry.Entry.{Entry}
use Rattle.event_core.specs.Boot.{share_call}
use Rattle.event_rows.specs.Written.{entry_at, one_page, accepted_guest}

-- A block's bytes go through the pool: mapped, written by the device, copied back or left, and copied in parts by hand.

-- the pool: 128 slots in one area, in the first 64 pages
abbrev pub small_pool : Pages
small_pool = record { first = 0; count = 64 }

-- a guest of 65 pages: the pool's, and one behind them
abbrev pub pool_guest : Boot
pool_guest = record (accepted_guest 0 65) { slots = 128; pool = Some small_pool; calls = share_call small_pool answer.Ok ∷ [] }

-- one slot, with a count of mapped bytes at its start
abbrev pub slots_at : ℕ → ℕ → SlotRun
slots_at first len = record { area = 0; first = first; count = 1; offset = 0; len = len }

abbrev pub bounce_script : List Command
bounce_script =
    command.Alloc (codes "a") 0
    ∷ command.Write (codes "a") 0 (1 ∷ 2 ∷ 3 ∷ 4 ∷ 5 ∷ [])
    ∷ command.Map (codes "m") (codes "a") 0 5 direction.FromDevice 0
    ∷ command.DWrite (codes "m") 1 (170 ∷ 187 ∷ 204 ∷ [])
    ∷ command.Unmap (codes "m") false
    ∷ command.Read (codes "a") 0 5
    ∷ command.Map (codes "m") (codes "a") 0 5 direction.FromDevice 0
    ∷ command.DWrite (codes "m") 1 (255 ∷ 255 ∷ 255 ∷ [])
    ∷ command.Unmap (codes "m") true
    ∷ command.Read (codes "a") 0 5
    ∷ command.Map (codes "m") (codes "a") 0 2 direction.Both 0
    ∷ command.Write (codes "a") 0 (7 ∷ [])
    ∷ command.SyncDev (codes "m") 0 1
    ∷ command.DRead (codes "m") 0 2
    ∷ command.DWrite (codes "m") 1 (187 ∷ [])
    ∷ command.SyncCpu (codes "m") 1 1
    ∷ command.Read (codes "a") 0 2
    ∷ command.Free (codes "a")
    ∷ command.HostRead 4095 4
    ∷ command.HostRead 262143 2
    ∷ command.Unmap (codes "m") false
    ∷ command.Unmap (codes "m") false
    ∷ []

-- the history, with the bytes that the block has after the device wrote, and those that the device reads after a copy
abbrev pub bounce_history : List ℕ → List ℕ → List Entry
bounce_history read told =
    entry_at 1 0 place.Memory (event.Got (one_page 64)) (Some (reply.Addr 262144))
    ∷ entry_at 2 1 place.Own event.Own (Some reply.Done)
    ∷ entry_at 3 2 (place.Area 0) (event.Looked 0 (Some (slots_at 0 5))) (Some (reply.Addr 0))
    ∷ entry_at 4 3 (place.Area 0) (event.DeviceWrote (slots_at 0 5) 1 3) (Some reply.Done)
    ∷ entry_at 5 4 (place.Area 0) (event.Released (slots_at 0 5) true) (Some reply.Done)
    ∷ entry_at 6 5 place.Own event.Own (Some (reply.Hex read))
    ∷ entry_at 7 6 (place.Area 0) (event.Looked 0 (Some (slots_at 1 5))) (Some (reply.Addr 2048))
    ∷ entry_at 8 7 (place.Area 0) (event.DeviceWrote (slots_at 1 5) 1 3) (Some reply.Done)
    ∷ entry_at 9 8 (place.Area 0) (event.Released (slots_at 1 5) false) (Some reply.Done)
    ∷ entry_at 10 9 place.Own event.Own (Some (reply.Hex read))
    ∷ entry_at 11 10 (place.Area 0) (event.Looked 0 (Some (slots_at 2 2))) (Some (reply.Addr 4096))
    ∷ entry_at 12 11 place.Own event.Own (Some reply.Done)
    ∷ entry_at 13 12 (place.Area 0) (event.CopiedIn (slots_at 2 2) 0 1) (Some reply.Done)
    ∷ entry_at 14 13 (place.Area 0) (event.DeviceRead (slots_at 2 2) 0 2) (Some (reply.Hex told))
    ∷ entry_at 15 14 (place.Area 0) (event.DeviceWrote (slots_at 2 2) 1 1) (Some reply.Done)
    ∷ entry_at 16 15 (place.Area 0) (event.CopiedOut (slots_at 2 2) 1 1) (Some reply.Done)
    ∷ entry_at 17 16 place.Own event.Own (Some (reply.Hex (7 ∷ 187 ∷ [])))
    ∷ entry_at 18 17 place.Own event.Own (Some reply.Mapped)
    ∷ entry_at 19 18 (place.Area 0) (event.HostRead 4095 4) (Some (reply.Hex (0 ∷ 7 ∷ 187 ∷ 0 ∷ [])))
    ∷ entry_at 20 19 place.Own event.Own (Some reply.Range)
    ∷ entry_at 21 20 (place.Area 0) (event.Released (slots_at 2 2) true) (Some reply.Done)
    ∷ entry_at 22 21 place.Own event.Own (Some reply.Unknown)
    ∷ []
