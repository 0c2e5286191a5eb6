use Rattle.std.specs.Prelude.{ℕ, List, Result, Ok, ◌≡◌, OnErr}
use Rattle.std.specs.declared.alloc.AllocError.{AllocError}
use Rattle.event_core.specs.declared.module_call.ModuleCall.{ModuleCall}
use Rattle.io_areas.specs.Value.{AreaValue}
use Rattle.memory_core.specs.Value.{MemoryValue}
use Rattle.guest_steps.specs.Ground.{ground_of}
use Rattle.guest_steps.specs.Steps.{IsBlocked, MakesInMemory, RoomAlone}
use Rattle.guest_steps.specs.declared.processor.Stepped.{Stepped}
use Rattle.guest_steps.specs.declared.processor.Stepped.TheVariants as stepped
use Rattle.guest_cpu.specs.declared.cpu.Cpu.{Cpu}
use Rattle.guest_cpu.specs.Standing.{CpuStands, seen_by}

-- the processor stands over the memory and some areas
abbrev pub StandsOver : {P : Type 0} → (P → List ModuleCall) → (P → ℕ) → (P → ℕ) → Cpu P
    → MemoryValue → Type 0
StandsOver made faults room c memory =
    (areas : List AreaValue) × CpuStands made faults room c (ground_of memory areas)

-- A step of the memory leaves a processor standing, whatever the areas. It made an entry; or the
-- processor is blocked, or there was no room for the step, and then nothing has changed but room.
pub record Leaves {P : Type 0} (made : P → List ModuleCall) (faults room : P → ℕ) (old new : Cpu P)
    (before after : MemoryValue) (ended : Result Stepped AllocError) : Type 0 where
  pub stands : (areas : List AreaValue)
      → CpuStands made faults room old (ground_of before areas)
      → CpuStands made faults room new (ground_of after areas)
  pub event : ended ≡ Ok stepped.Event
      → MakesInMemory (seen_by made faults old) (seen_by made faults new) before after
  pub blocked : ended ≡ Ok stepped.Blocked
      → (seen_by made faults new ≡ seen_by made faults old) × RoomAlone before after
      × IsBlocked (seen_by made faults old) before.entries
  pub refused : OnErr ended
      ((seen_by made faults new ≡ seen_by made faults old) × RoomAlone before after)
