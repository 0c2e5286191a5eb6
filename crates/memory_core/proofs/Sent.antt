-- The memory may go to another thread, which its lock asks for.
use denote.Param.Send.{IsSend, IsSync, struct_send, recorded_send, view_send, sendable}
use denote.Struct.Declared.{shape}
use Rattle.std.proofs.Crossing.{crosses}
use Rattle.std.proofs.alloc.Global.TheSendSync as heap
use Rattle.guest_base.proofs.memory.Units.TheSendSync as units
use Rattle.event_core.proofs.entry.Entry.TheSendSync as entry
use Rattle.page_module.proofs.table.PageTable.TheSendSync as table
use Rattle.unaccepted_bitmap.proofs.bitmap.Bitmap.TheSendSync as bits
use Rattle.block_allocator.proofs.store.Blocks.TheSendSync as blocks
use Rattle.accepting_ranges.proofs.accepting.Accepting.TheSendSync as accepting
use Rattle.memory_core.proofs.claims.OpenClaim.TheSendSync as claim
use Rattle.claim_lock.specs.contracts.lock.ClaimLock as Lock
use Rattle.claim_lock.specs.contracts.pass.Pass as Pass
use Rattle.claim_lock.proofs.lock.ClaimLock.TheSendSync as lock
use Rattle.claim_lock.proofs.pass.Pass.TheSendSync as pass
use Rattle.memory_core.specs.contracts.memory.MemoryParted.TheImpl.{ghosts}
use Rattle.memory_core.specs.contracts.memory.Memory.{the_row}
use Rattle.memory_core.specs.contracts.memory.Memory.TheInside as inside

-- its fields, in their order
fields_send : IsSend inside.the_row
fields_send =
    recorded_send inside.the_field.row _ _ inside.the_type.to_one
    (struct_send (shape inside.the_type) (
      heap.the_field_send,
      (
        search sendable depth 20,
        (
          table.the_send,
          (
            search (sendable, bits.the_send) depth 20,
            (
              accepting.the_send _ _ claim.the_send,
              (
                blocks.the_send,
                (
                  search (sendable, units.the_send, crosses) depth 20,
                  (search (sendable, entry.the_send, crosses) depth 20, (search sendable depth 20, (search sendable depth 20, (search sendable depth 20, (search sendable depth 20, tt))))),
                ),
              ),
            ),
          ),
        ),
      ),
    ))

pub memory_send : IsSend the_row
memory_send = view_send _ _ _ _ _ fields_send

-- so threads may share a lock over it, each with its pass
pub lock_sync : IsSync (Lock.the_row the_row ghosts)
lock_sync = lock.the_sync the_row ghosts memory_send

pub pass_send : IsSend (Pass.the_row the_row)
pass_send = pass.the_send the_row memory_send
