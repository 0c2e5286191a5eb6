use Rattle.std.specs.Prelude.{ℕ, List, None, Some, ◌≡◌, ◌*◌}
use Rattle.guest_base.specs.declared.limits.TheConstants.{PAGE_BYTES}
use Rattle.guest_base.specs.declared.memory.Units.{Units}
use Rattle.event_core.specs.declared.event.Event.{Event}
use Rattle.event_core.specs.declared.event.Event.TheVariants.{Got, NoBlock}
use Rattle.event_core.specs.declared.reply.Reply.{Reply}
use Rattle.event_core.specs.declared.reply.Reply.TheVariants as reply
use Rattle.event_core.specs.Blocks.{lowest_waiting}
use Rattle.memory_core.specs.Answers.{OthersKeep}
use Rattle.memory_core.specs.Looks.{LookedBy}
use Rattle.memory_core.specs.Value.{MemoryValue}
use Rattle.memory_core.specs.Waiting.{waiting_units}
use Rattle.memory_core.specs.declared.memory.Look.{Look}
use Rattle.memory_core.specs.declared.memory.Look.TheVariants as look
use Rattle.guest_steps.specs.declared.processor.Stepped.{Stepped}
use Rattle.guest_steps.specs.declared.processor.Stepped.TheVariants as stepped
use Rattle.guest_cpu.specs.Made.{turn_of}
use Rattle.guest_cpu.specs.Progressing.{Progressed}
use Rattle.guest_cpu.specs.Stepping.{Adds, ClaimMade}

-- What a look for a block makes of a processor's course.

-- the allocation ended with this event and reply
pub record Ended (old new : Progressed) (before after : MemoryValue) (event : Event) (told : Reply)
    (ended : Stepped) : Type 0 where
  pub is : ended ≡ stepped.Event
  pub adds : Adds old new before after event (Some told)
  pub same : new ≡ record old { moved = new.moved; room = new.room }

-- the processor has to come again, and nothing has changed
pub record ComesAgain (old new : Progressed) (before after : MemoryValue) (ended : Stepped)
    : Type 0 where
  pub is : ended ≡ stepped.Blocked
  pub course : new ≡ old
  pub memory : after ≡ before

-- by what the memory answered: the runs are those of the lowest waiting block
abbrev pub DidLook : Progressed → Progressed → MemoryValue → MemoryValue → List Units → Stepped
    → Look → Type 0
DidLook old new before after runs ended (look.Got block) =
    Ended old new before after (Got block) (reply.Addr (PAGE_BYTES * block.first)) ended
DidLook old new before after runs ended look.NoBlock =
    Ended old new before after NoBlock reply.NoBlock ended
DidLook old new before after runs ended look.Cleared =
    ClaimMade old new before after (lowest_waiting before.boot before.entries)
    (waiting_units before.boot before.entries) None runs ended
DidLook old new before after runs ended (look.Claimed span) =
    ClaimMade old new before after (lowest_waiting before.boot before.entries)
    (waiting_units before.boot before.entries) (Some span) runs ended
DidLook old new before after runs ended (look.Blocked met) =
    ComesAgain old new before after ended
DidLook old new before after runs ended (look.InFlight cpu) =
    ComesAgain old new before after ended

-- a look was made for a block of an order
pub record LooksFor (old new : Progressed) (before after : MemoryValue) (order : ℕ)
    (runs : List Units) (ended : Stepped) : Type 0 where
  pub looked : Look
  pub by : LookedBy before after (turn_of old.number old.moved) order looked
  pub did : DidLook old new before after runs ended looked
  pub others : OthersKeep before after old.number
