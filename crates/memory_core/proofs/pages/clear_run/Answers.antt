use Rattle.memory_core.proofs.BitsLemmas.{run-inside, set-here, none-set}
use Rattle.memory_core.proofs.pages.clear_run.Goals as goal

pub clear_accepted-requires : goal.clear_accepted-requires
clear_accepted-requires c = run-inside c.in-Some.bits c.args.run c.requires.some (set-here c.in-Some.bits c.args.bits.now c.args.run c.in-Some.is c.requires.set)

pub unreachable-requires : goal.unreachable-requires
unreachable-requires c = none-set c.args.bits.now c.args.run c.in-None.is c.requires.some c.requires.set
