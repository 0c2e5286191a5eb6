use Rattle.std.proofs.Common.{ℕ, ◌≡◌, ◌<◌, ◌≤◌, ◌-◌, false, length}
use Rattle.guest_base.specs.Slots.{fits_at}
use Rattle.io_slots.specs.FreeCounts.{zero_at}
use Rattle.io_slots.proofs.search.first_fitting.Given as goal

abbrev pub invariant-loop-at : goal.invariant-loop-at
invariant-loop-at l = record {
  from : l.from ≤ l.at;
  none : (s : ℕ) → l.from ≤ s → s < l.at → s < l.to → fits_at (zero_at l.counts) (length l.counts) l.need l.align s ≡ false;
}

abbrev pub decreases-loop-at : goal.decreases-loop-at
decreases-loop-at l = l.to - l.at
