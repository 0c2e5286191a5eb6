use Rattle.std.proofs.Common.{◌≡◌, ◌<◌, ◌≤◌, ℕ, ◌++◌, length, vec_len, vec_capacity, slice_index_or}
use Rattle.guest_threads.specs.Dealt.{Opened}
use Rattle.guest_threads.proofs.dealing.open_areas.Given as goal

abbrev pub invariant-loop-lock : goal.invariant-loop-lock
invariant-loop-lock l =
    record {
      items : l.fn.locks.items ≡ l.yielded ++ l.lock-iterator.rest.items;
      back : length l.opened.items ≡ length l.yielded;
      room : vec_capacity l.opened ≡ vec_capacity l.fn.opened;
      count : vec_len l.passes ≡ vec_len l.fn.passes;
      later : (n : ℕ) (d : _) → length l.opened.items ≤ n → slice_index_or l.passes.items n d ≡ slice_index_or l.fn.passes.items n d;
      opened : (n : ℕ) (d : _) (e : _) → n < length l.opened.items → Opened (slice_index_or l.fn.passes.items n d).items (slice_index_or l.opened.items n e);
    }
