use Rattle.std.proofs.Common.{◌≡◌, ◌<◌, ℕ, ◌++◌, length, slice_index_or}
use Rattle.claim_lock.specs.Tallied.{Ready}
use Rattle.claim_lock.proofs.tally.seated.Given as goal

abbrev pub invariant-loop-pass : goal.invariant-loop-pass
invariant-loop-pass l =
    record {
      all : l.fn.passes.items ≡ l.yielded ++ l.pass-iterator.rest.items;
      at : l.cpu ≡ length l.yielded;
      count : length l.desks.items ≡ length l.yielded;
      ready : (k : ℕ) (d : _) → k < length l.desks.items → ((slice_index_or l.desks.items k d).cpu ≡ k) × Ready l.lock k (slice_index_or l.desks.items k d).pass (slice_index_or l.desks.items k d).made.items;
    }
