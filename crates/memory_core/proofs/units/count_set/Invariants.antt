use Rattle.memory_core.specs.Bitmaps.{bits_in}
use Rattle.memory_core.proofs.CountLemmas.{Counted}
use Rattle.memory_core.proofs.units.count_set.Given as goal

abbrev pub invariant-loop-unit : goal.invariant-loop-unit
invariant-loop-unit l = Counted (bits_in l.bits) l.fn.units.first l.unit l.count
