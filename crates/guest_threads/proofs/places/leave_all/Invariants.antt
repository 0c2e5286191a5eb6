use Rattle.std.proofs.Common.{◌≡◌, ◌++◌, ◌≤◌, ◌+◌, Some, Err, All, Any, OnOk, length, map, vec_capacity}
use Rattle.event_core.specs.declared.clock.NoRoom.{NoRoom as NoRoomValue}
use Rattle.guest_threads.specs.Places.{HasPasses, IsFinished, IsRefused, passes_at, processors_at}
use Rattle.guest_threads.proofs.places.leave_all.Given as goal

abbrev pub invariant-loop-place : goal.invariant-loop-place
invariant-loop-place g l =
    record {
      processors : processors_at l.fn.places.items ≡ l.processors.items ++ processors_at l.places.items;
      passes : passes_at l.fn.places.items ≡ map Some l.passes.items ++ passes_at l.places.items;
      has : All HasPasses l.places.items;
      processor_room : length l.processors.items + length l.places.items ≤ vec_capacity l.processors;
      pass_room : length l.passes.items + length l.places.items ≤ vec_capacity l.passes;
      fine : OnOk l.refused (All IsFinished l.places.items → All IsFinished l.fn.places.items);
      within : (refusal : NoRoomValue) → Any (IsRefused refusal) l.places.items → Any (IsRefused refusal) l.fn.places.items;
      refused : (refusal : NoRoomValue) → l.refused ≡ Err refusal → Any (IsRefused refusal) l.fn.places.items;
    }

abbrev pub decreases-loop-place : goal.decreases-loop-place
decreases-loop-place g l = length l.places.items
