use Rattle.std.specs.Prelude.{ℕ, List, Some, ◌≡◌}
use Rattle.event_core.specs.declared.event.Event.TheVariants.{Freed, Touched}
use Rattle.event_core.specs.declared.reply.Found.{Found}
use Rattle.event_core.specs.declared.reply.Reply.TheVariants.{Done, Loaded}
use Rattle.event_core.specs.Holdings.{Holding, block_named}
use Rattle.event_core.specs.OwnRows.{found_at, page_behind, strayed_bytes}
use Rattle.memory_core.specs.Value.{MemoryValue}
use Rattle.guest_cpu.specs.Progressing.{Progressed, own_in}
use Rattle.guest_cpu.specs.Stepping.{Adds}

-- What a step about a block of the processor does to its course.

-- the block of a name was freed
pub record FreesNamed (old new : Progressed) (before after : MemoryValue) (name : List ℕ)
    : Type 0 where
  pub h : Holding
  pub named : block_named (own_in old) name ≡ Some h
  pub adds : Adds old new before after (Freed h.block) (Some Done)

-- a load from a place of the block of a name strayed past its end
pub record StraysFrom (old new : Progressed) (before after : MemoryValue) (name : List ℕ) (off : ℕ)
    : Type 0 where
  pub h : Holding
  pub named : block_named (own_in old) name ≡ Some h
  pub found : Found
  pub finds : found_at before.boot before.entries (page_behind h.block) ≡ Some found
  pub adds : Adds old new before after (Touched (record { 0 = page_behind h.block }) found)
      (Some (Loaded (strayed_bytes h off) (Some found)))
