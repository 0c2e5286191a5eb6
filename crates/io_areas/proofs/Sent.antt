-- An area may go to another thread, which its lock asks for.
use denote.Param.Send.{IsSend, IsSync, struct_send, recorded_send, view_send, sendable}
use denote.Struct.Declared.{shape}
use Rattle.std.proofs.Crossing.{crosses}
use Rattle.std.proofs.alloc.Global.TheSendSync as heap
use Rattle.guest_base.proofs.list.Items.TheSendSync as items
use Rattle.event_core.proofs.entry.Entry.TheSendSync as entry
use Rattle.io_slots.proofs.Slots.TheSendSync as slots
use Rattle.claim_lock.specs.contracts.lock.ClaimLock as Lock
use Rattle.claim_lock.specs.contracts.pass.Pass as Pass
use Rattle.claim_lock.proofs.lock.ClaimLock.TheSendSync as lock
use Rattle.claim_lock.proofs.pass.Pass.TheSendSync as pass
use Rattle.io_areas.specs.contracts.transfers.Transfers as Transfers
use Rattle.io_areas.specs.contracts.transfers.Transfers.TheInside as within
use Rattle.io_areas.specs.contracts.area.AreaParted.TheImpl.{ghosts}
use Rattle.io_areas.specs.contracts.area.Area.{the_row}
use Rattle.io_areas.specs.contracts.area.Area.TheInside as inside

-- the fields of its entries, in their order
transfers_fields_send : IsSend within.the_row
transfers_fields_send =
    recorded_send within.the_field.row _ _ within.the_type.to_one
    (struct_send (shape within.the_type) (
      search (sendable, entry.the_send, crosses) depth 20,
      (
        search (sendable, items.the_send, crosses) depth 20,
        (search (sendable, crosses) depth 20, (search sendable depth 20, (search sendable depth 20, (heap.the_field_send, tt)))),
      ),
    ))

transfers_send : IsSend Transfers.the_row
transfers_send = view_send _ _ _ _ _ transfers_fields_send

-- and its own
fields_send : IsSend inside.the_row
fields_send =
    recorded_send inside.the_field.row _ _ inside.the_type.to_one
    (struct_send (shape inside.the_type) (
      search sendable depth 20,
      (search sendable depth 20, (slots.the_send, (search (sendable, crosses) depth 20, (transfers_send, tt)))),
    ))

pub area_send : IsSend the_row
area_send = view_send _ _ _ _ _ fields_send

-- so threads may share a lock over it, each with its pass
pub lock_sync : IsSync (Lock.the_row the_row ghosts)
lock_sync = lock.the_sync the_row ghosts area_send

pub pass_send : IsSend (Pass.the_row the_row)
pass_send = pass.the_send the_row area_send
