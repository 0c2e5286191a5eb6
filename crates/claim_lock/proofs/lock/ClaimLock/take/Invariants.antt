use Rattle.std.proofs.Common.{◌≡◌, [], ◌∷◌}
use Rattle.claim_lock.specs.Rule.{resting}
use Rattle.claim_lock.proofs.lock.ClaimLock.take.Given as goal

abbrev pub invariant-loop : goal.invariant-loop
invariant-loop g l =
    record {
      can : (goal.iterator-loop g).can_next l.iterator';
      ends : (goal.iterator-loop g).is_finite l.iterator';
      table : l.seat.table_id ≡ l.fn.pass.table;
      me : l.seat.me ≡ (resting (l.fn.pass.known ∷ []), []);
      number : l.number ≡ l.fn.pass.known.number;
    }
