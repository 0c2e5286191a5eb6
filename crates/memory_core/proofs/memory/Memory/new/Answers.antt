use Rattle.std.proofs.Common.{arith}
use Rattle.memory_core.proofs.PartsLemmas.{new-stands, new-out}
use Rattle.memory_core.proofs.memory.Memory.new.Goals as goal

pub invariant_of-result : goal.invariant_of-result
invariant_of-result c = (
  new-stands c.args.boot.now c.of.result.value c.new-3.result c.args.table c.args.bits c.new.result c.args.blocks
      c.of.ensures c.requires.made c.requires.sound c.requires.cpus c.requires.states c.requires.none_out c.requires.bits c.requires.blocks c.new.ensures c.new-3.ensures.items,
  record { empty = c.new-2.ensures.items; enough = omega arith },
)

pub returns-clause-out : goal.returns-clause-out
returns-clause-out c = new-out c.new.result c.new.ensures
