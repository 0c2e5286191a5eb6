use Rattle.std.proofs.Common.{◌≡◌, All, vec_len, vec_capacity}
use Rattle.guest_runs.proofs.seats.copies_of.Given as goal

abbrev pub invariant-loop : goal.invariant-loop
invariant-loop l = record {
  copies : All (λ copy. copy ≡ l.fn.hosts) l.copies.items;
  count : vec_len l.copies ≡ l.counter;
  room : vec_capacity l.copies ≡ l.count;
  same : l.hosts ≡ l.fn.hosts;
}
