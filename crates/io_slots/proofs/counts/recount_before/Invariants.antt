use Rattle.std.proofs.Common.{ℕ, ◌≡◌, ◌≤◌}
use Rattle.io_slots.specs.FreeCounts.{IsCountedBut, zero_at}
use Rattle.io_slots.proofs.counts.recount_before.Given as goal

abbrev pub invariant-loop-k : goal.invariant-loop-k
invariant-loop-k l = record {
  below : l.k ≤ l.at;
  counted : IsCountedBut l.counts l.k;
  zeros : (j : ℕ) → zero_at l.counts j ≡ zero_at l.fn.counts j;
}

abbrev pub decreases-loop-k : goal.decreases-loop-k
decreases-loop-k l = l.k
