use Rattle.std.proofs.Common.{◌≡◌, [], ◌++◌, map}
use Rattle.claim_lock.specs.Rule.{resting}
use Rattle.claim_lock.proofs.lock.gathered.Given as goal

abbrev pub invariant-loop-pass : goal.invariant-loop-pass
invariant-loop-pass g l =
    record {
      table : l.seat.table_id ≡ l.shared.table_id;
      all : l.fn.passes.items ≡ l.yielded ++ l.pass-iterator.rest.items;
      me : l.seat.me ≡ (resting (map (λ p. p.known) l.yielded), []);
    }
