use Rattle.std.proofs.Common.{◌≡◌, ◌≤◌, ◌-◌, [], map, vec_capacity}
use Rattle.std.specs.List.{range_with_len}
use Rattle.claim_lock.specs.Knows.{first_known}
use Rattle.claim_lock.specs.Rule.{resting, dealt}
use Rattle.claim_lock.proofs.lock.deal.Given as goal

abbrev pub invariant-loop-number : goal.invariant-loop-number
invariant-loop-number g l =
    record {
      table : l.seat.table_id ≡ l.shared.table_id;
      me : l.seat.me ≡ (resting (dealt g.S.Parted.fixed g.S.Parted.part l.origin.seats l.origin.state.value l.number (l.origin.seats - l.number)), []);
      room : l.origin.seats ≤ vec_capacity l.passes;
      made : l.passes.items ≡ map (λ cpu. record { table = l.shared.table_id; known = first_known g.S.Parted.fixed g.S.Parted.part l.origin.seats l.origin.state.value cpu }) (range_with_len 0 l.number);
    }
