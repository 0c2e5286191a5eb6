use Rattle.std.proofs.Common.{◌≡◌, ◌<◌, ◌≤◌, ℕ, ◌++◌, length, vec_len, slice_index_or}
use Rattle.guest_threads.specs.Dealt.{Gains}
use Rattle.guest_threads.proofs.dealing.hand_out.Given as goal

abbrev pub invariant-loop-pass : goal.invariant-loop-pass
invariant-loop-pass l =
    record {
      items : l.fn.passes.items ≡ l.yielded ++ l.pass-iterator.rest.items;
      cpu : l.cpu ≡ length l.yielded;
      count : vec_len l.all ≡ vec_len l.initial.all;
      done : (k : ℕ) (d : _) (e : _) → k < l.cpu → Gains (slice_index_or l.initial.all.items k d) (slice_index_or l.all.items k d) (slice_index_or l.fn.passes.items k e);
      later : (k : ℕ) (d : _) → l.cpu ≤ k → slice_index_or l.all.items k d ≡ slice_index_or l.initial.all.items k d;
    }
