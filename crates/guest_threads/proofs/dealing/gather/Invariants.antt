use Rattle.std.proofs.Common.{◌≡◌, ◌<◌, ℕ, ◌++◌, map, vec_len, vec_capacity, slice_index_or}
use Rattle.guest_threads.proofs.dealing.gather.Given as goal

abbrev pub invariant-loop-passes : goal.invariant-loop-passes
invariant-loop-passes l =
    record {
      items : l.fn.all.items ≡ l.yielded ++ l.passes-iterator.rest.items;
      memory : l.memory.items ≡ map (λ p. p.memory) l.yielded;
      memory_room : vec_capacity l.memory ≡ vec_capacity l.initial.memory;
      count : vec_len l.areas ≡ vec_len l.initial.areas;
      capacity : (n : ℕ) (d : _) → n < vec_len l.initial.areas → vec_capacity (slice_index_or l.areas.items n d) ≡ vec_capacity (slice_index_or l.initial.areas.items n d);
      areas : (n : ℕ) (d : _) (e : _) → n < vec_len l.initial.areas → (slice_index_or l.areas.items n d).items ≡ map (λ p. slice_index_or p.areas.items n e) l.yielded;
    }
