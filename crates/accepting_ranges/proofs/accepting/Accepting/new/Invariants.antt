use Rattle.std.proofs.Common.{◌≡◌, None}
use Rattle.std.specs.Prelude.{replicate}
use Rattle.accepting_ranges.proofs.accepting.Accepting.new.Given as goal

abbrev pub invariant-loop : goal.invariant-loop
invariant-loop g l = l.claims.items ≡ replicate l.counter None
