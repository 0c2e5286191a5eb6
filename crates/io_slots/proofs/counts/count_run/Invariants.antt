use Rattle.std.proofs.Common.{ℕ, ◌≡◌, ◌≤◌, ◌+◌, ◌-◌, ◌&&◌, not}
use Rattle.guest_base.specs.Ranges.{in_range}
use Rattle.io_slots.specs.FreeCounts.{IsCountedBut, zero_at}
use Rattle.io_slots.proofs.counts.count_run.Given as goal

abbrev pub invariant-loop-k : goal.invariant-loop-k
invariant-loop-k l = record {
  low : l.at ≤ l.k;
  high : l.k ≤ l.at + l.need;
  counted : IsCountedBut l.counts l.at;
  zeros : (j : ℕ) → zero_at l.counts j ≡ (not (in_range l.k (l.at + l.need - l.k) j) && zero_at l.fn.counts j);
}

abbrev pub decreases-loop-k : goal.decreases-loop-k
decreases-loop-k l = l.k
