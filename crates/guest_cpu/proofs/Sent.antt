-- A processor may go to another thread where its port may.
use denote.Param.Send.{IsSend, struct_send, recorded_send, view_send, sendable}
use denote.Struct.Declared.{shape}
use Rattle.std.proofs.Crossing.{crosses}
use Rattle.guest_base.proofs.list.Items.TheSendSync as items
use Rattle.guest_base.proofs.memory.HostRun.TheSendSync as host
use Rattle.event_core.proofs.command.Command.TheSendSync as command
use Rattle.held_blocks.proofs.holdings.Holdings.TheSendSync as held
use Rattle.guest_cpu.proofs.made.MadeEntries.TheSendSync as made
use Rattle.guest_cpu.proofs.progress.RunRoom.TheSendSync as room
use Rattle.guest_cpu.proofs.progress.OpenRun.TheSendSync as open_run
use Rattle.guest_cpu.specs.contracts.progress.Progress.{the_row}
use Rattle.guest_cpu.specs.contracts.progress.Progress.TheInside as inside
use Rattle.guest_cpu.specs.contracts.cpu.Cpu as Cpu

fields_send : IsSend inside.the_row
fields_send =
    recorded_send inside.the_field.row _ _ inside.the_type.to_one
    (struct_send (shape inside.the_type) (
      search sendable depth 20,
      (
        search sendable depth 20,
        (
          items.the_send _ host.the_send,
          (
            items.the_send _ command.the_send,
            (
              made.the_send,
              (
                held.the_send,
                (
                  search (sendable, open_run.the_send) depth 20,
                  (search (sendable, room.the_send, crosses) depth 20, tt),
                ),
              ),
            ),
          ),
        ),
      ),
    ))

pub progress_send : IsSend the_row
progress_send = view_send _ _ _ _ _ fields_send

pub cpu_send : (P : _) → IsSend P → IsSend (Cpu.the_row P)
cpu_send P send =
    recorded_send (Cpu.the_field P).row _ _ (Cpu.the_type P).to_one
    (struct_send (shape (Cpu.the_type P)) (progress_send, (send, (search sendable depth 20, tt))))
