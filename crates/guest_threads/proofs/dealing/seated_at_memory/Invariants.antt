use Rattle.std.proofs.Common.{◌≡◌, [], ◌++◌, All, map}
use Rattle.guest_threads.proofs.dealing.seated_at_memory.Given as goal

abbrev pub invariant-loop-memory : goal.invariant-loop-memory
invariant-loop-memory l =
    record {
      items : l.fn.passes.items ≡ l.yielded ++ l.memory-iterator.rest.items;
      memory : map (λ p. p.memory) l.all.items ≡ l.yielded;
      none : All (λ p. p.areas.items ≡ []) l.all.items;
    }
