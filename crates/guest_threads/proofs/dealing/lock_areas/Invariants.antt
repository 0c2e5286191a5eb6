use Rattle.std.proofs.Common.{◌≡◌, ◌<◌, ℕ, ◌++◌, All, length, vec_len, slice_index_or}
use Rattle.guest_threads.specs.Dealt.{first_passes}
use Rattle.guest_threads.proofs.dealing.lock_areas.Given as goal

abbrev pub invariant-loop-area : goal.invariant-loop-area
invariant-loop-area l =
    record {
      items : l.fn.areas.items ≡ l.yielded ++ l.area-iterator.rest.items;
      all : vec_len l.all ≡ vec_len l.initial.all;
      count : length l.locks.items ≡ length l.yielded;
      seats : All (λ lock. lock.seats ≡ l.seats) l.locks.items;
      memory : (k : ℕ) (d : _) → k < vec_len l.initial.all → (slice_index_or l.all.items k d).memory ≡ (slice_index_or l.initial.all.items k d).memory;
      passes : (k : ℕ) (d : _) → k < vec_len l.initial.all → (slice_index_or l.all.items k d).areas.items ≡ first_passes l.locks.items l.yielded k;
    }
