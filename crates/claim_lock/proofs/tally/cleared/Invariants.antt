use Rattle.std.proofs.Common.{◌≡◌, ◌<◌, ℕ, ◌++◌, length, Some, slice_index_or}
use Rattle.claim_lock.specs.Tallied.{Ready}
use Rattle.claim_lock.proofs.tally.cleared.Given as goal

abbrev pub invariant-loop-desk : goal.invariant-loop-desk
invariant-loop-desk l =
    record {
      all : l.fn.desks.items ≡ l.yielded ++ l.desk-iterator.rest.items;
      passes : length l.passes.items ≡ length l.yielded;
      made : length l.all_made.items ≡ length l.yielded;
      ready : (k : ℕ) (d : _) (e : _) → k < length l.yielded → Ready l.lock k (Some (slice_index_or l.passes.items k d)) (slice_index_or l.all_made.items k e).items;
    }
