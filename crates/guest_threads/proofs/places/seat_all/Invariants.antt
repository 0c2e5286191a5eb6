use Rattle.std.proofs.Common.{◌≡◌, ◌++◌, ◌≤◌, ◌+◌, Some, length, map, vec_capacity}
use Rattle.guest_threads.specs.Places.{passes_at, processors_at}
use Rattle.guest_threads.proofs.places.seat_all.Given as goal

abbrev pub invariant-loop-mine : goal.invariant-loop-mine
invariant-loop-mine g l =
    record {
      count : length l.processors.items ≡ length l.passes.items;
      held : l.initial.processors.items ≡ l.processors.items ++ processors_at l.places.items;
      passes : map Some l.initial.passes.items ≡ map Some l.passes.items ++ passes_at l.places.items;
      room : length l.places.items + length l.passes.items ≤ vec_capacity l.places;
      processor_room : vec_capacity l.processors ≡ vec_capacity l.initial.processors;
      pass_room : vec_capacity l.passes ≡ vec_capacity l.initial.passes;
    }

abbrev pub decreases-loop-mine : goal.decreases-loop-mine
decreases-loop-mine g l = length l.passes.items
