use Rattle.std.proofs.Common.{◌≡◌, ◌<◌, ◌≤◌, ℕ, ◌++◌, length, vec_len, slice_index_or}
use Rattle.guest_threads.specs.Dealt.{Adds}
use Rattle.guest_threads.proofs.dealing.put_away.Given as goal

abbrev pub invariant-loop-pass : goal.invariant-loop-pass
invariant-loop-pass l =
    record {
      items : l.fn.passes.items ≡ l.yielded ++ l.pass-iterator.rest.items;
      area : l.area ≡ length l.yielded;
      count : vec_len l.areas ≡ vec_len l.initial.areas;
      done : (n : ℕ) (d : _) (e : _) → n < l.area → Adds (slice_index_or l.initial.areas.items n d) (slice_index_or l.areas.items n d) (slice_index_or l.fn.passes.items n e);
      later : (n : ℕ) (d : _) → l.area ≤ n → slice_index_or l.areas.items n d ≡ slice_index_or l.initial.areas.items n d;
    }
