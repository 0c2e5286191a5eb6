use Rattle.std.proofs.Common.{◌+◌, ◌-◌}
use Rattle.memory_core.specs.Bitmaps.{bits_in}
use Rattle.memory_core.proofs.KeptLemmas.{Written}
use Rattle.memory_core.proofs.units.runs_behind.Given as goal

abbrev pub invariant-loop-next : goal.invariant-loop-next
invariant-loop-next l = Written (bits_in l.bits) (l.fn.run.first + l.fn.run.count) l.at l.end l.runs

abbrev pub decreases-loop-next : goal.decreases-loop-next
decreases-loop-next l = l.end - l.at
