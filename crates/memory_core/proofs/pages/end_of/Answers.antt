use Rattle.std.proofs.Common.{arith}
use Rattle.memory_core.proofs.BitsLemmas.{units-low}
use Rattle.memory_core.proofs.pages.end_of.Goals as goal

pub overflow_add-result : goal.overflow_add-result
overflow_add-result c = let low = units-low c.args.bits.now c.args.units c.unit.ensures.kept c.requires in omega (arith, low)
