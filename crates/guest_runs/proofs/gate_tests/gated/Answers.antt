use Rattle.std.proofs.Common.{refl, arith}
use Rattle.guest_runs.proofs.gate_tests.gated.Goals as goal

pub boot-requires-clause-asked : goal.boot-requires-clause-asked
boot-requires-clause-asked c = record { few_slots = omega arith; few_areas = omega arith; power = (0, refl) }
