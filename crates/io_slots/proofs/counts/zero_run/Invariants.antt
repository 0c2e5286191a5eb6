use Rattle.std.proofs.Common.{ℕ, ◌≡◌, ◌-◌, ◌||◌}
use Rattle.guest_base.specs.Ranges.{in_range}
use Rattle.io_slots.specs.FreeCounts.{IsCountedBut, zero_at}
use Rattle.io_slots.proofs.counts.zero_run.Given as goal

abbrev pub invariant-loop-k : goal.invariant-loop-k
invariant-loop-k l = record {
  counted : IsCountedBut l.counts l.at;
  zeros : (j : ℕ) → zero_at l.counts j ≡ (in_range l.at (l.k - l.at) j || zero_at l.fn.counts j);
}
