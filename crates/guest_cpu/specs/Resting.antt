use Rattle.std.specs.Prelude.{None, Some, ◌≡◌, ◌^◌, ◌<◌}
use Rattle.event_core.specs.declared.command.Command.{Command}
use Rattle.event_core.specs.Refusals.{refusal_of}
use Rattle.memory_core.specs.Value.{MemoryValue}
use Rattle.guest_steps.specs.Seen.{Seen, need_unrefused, own_now, present_command}
use Rattle.guest_steps.specs.Steps.{stamp_before}
use Rattle.guest_steps.specs.declared.processor.Need.TheVariants.{Memory}

-- with no claim open the present command, which isn't refused and needs the memory, may be stepped
-- on: stamps are left
pub record StepsOn (c : Seen) (memory : MemoryValue) (command : Command) : Type 0 where
  pub rests : c.out ≡ None
  pub present : present_command c ≡ Some command
  pub fine : refusal_of c.boot (own_now c) command ≡ None
  pub need : need_unrefused c.boot c.number (own_now c) command ≡ Memory
  pub fresh : stamp_before c memory < 2 ^ 64
