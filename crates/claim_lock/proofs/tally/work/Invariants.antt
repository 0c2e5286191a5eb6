use Rattle.std.proofs.Common.{◌≡◌}
use Rattle.claim_lock.specs.Tallied.{Ready}
use Rattle.claim_lock.proofs.tally.work.Given as goal

abbrev pub invariant-loop : goal.invariant-loop
invariant-loop g l = record { cpu : l.desk.cpu ≡ l.initial.desk.cpu; ready : Ready l.lock l.desk.cpu l.desk.pass l.desk.made.items }
