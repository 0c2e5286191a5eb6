use Rattle.std.proofs.Common.{◌+◌, ◌≤◌, drop, length}
use Rattle.event_core.specs.Boot.{AcceptsBlock}
use Rattle.guest_boot.specs.Booting.{StandsAfter}
use Rattle.guest_boot.proofs.InTurnLemmas.{LeadsTo}
use Rattle.guest_boot.proofs.PutLemmas.{PutsTo}
use Rattle.guest_boot.proofs.stages.accept_blocks.Given as goal

abbrev pub invariant-loop-block : goal.invariant-loop-block
invariant-loop-block g l = record {
  leads : LeadsTo (AcceptsBlock l.boot) (g.P.Port.made l.fn.port) l.blocks (g.P.Port.made l.port) (drop l.block-index l.blocks);
  puts : PutsTo l.boot (g.P.Port.made l.fn.port) l.blocks (g.P.Port.made l.port) (drop l.block-index l.blocks) l.store;
  room : length l.blocks ≤ l.block-index + l.store.room;
  stands : StandsAfter l.boot (g.P.Port.made l.port) l.kept;
  faults : g.P.Port.faults l.fn.port ≤ g.P.Port.faults l.port;
  never_fails : g.P.Port.never_fails l.fn.port → g.P.Port.never_fails l.port;
}
