use Rattle.std.proofs.Common.{ap, Err}
use Rattle.guest_run.proofs.PortsLemmas.{boot_cut, boot_failed, kept_first, no_room}
use Rattle.guest_run.proofs.start.boot_on_first.Goals as goal

pub returns-in-Err-Module-clause-stop : goal.returns-in-Err-Module-clause-stop
returns-in-Err-Module-clause-stop g c = boot_failed g.P.Port.made g.P.Port.faults g.P.Port.never_fails c.args.ports.now.items c.index_mut.result.now c.boot.new.port c.args.map.now c.args.table c.args.slots c.args.areas c.args.cpus c.in-Err-Module.field-0-0 c.requires.some c.index_mut.ensures.value (c.in-Err-Module.ensures.stopped c.in-Err-Module.field-0-0 (ap Err c.in-Err-Module.field-0-is)) (c.in-Err-Module.ensures.failed c.in-Err-Module.field-0-0 (ap Err c.in-Err-Module.field-0-is))

pub returns-in-Err-NoMemory-clause-stop : goal.returns-in-Err-NoMemory-clause-stop
returns-in-Err-NoMemory-clause-stop g c = boot_cut g.P.Port.made g.P.Port.faults g.P.Port.never_fails c.args.ports.now.items c.boot.new.port c.args.map.now c.args.table c.args.slots c.args.areas c.args.cpus c.requires.some c.boot.ensures.front

pub returns-in-Ok-clause-kept : goal.returns-in-Ok-clause-kept
returns-in-Ok-clause-kept g c = kept_first g.P.Port.made g.P.Port.faults g.P.Port.never_fails c.args.ports.now.items c.index_mut.result.now c.boot.new.port c.requires.some c.index_mut.ensures.value c.boot.ensures.faults c.boot.ensures.never_fails

pub returns-in-Err-Module-clause-kept : goal.returns-in-Err-Module-clause-kept
returns-in-Err-Module-clause-kept g c = kept_first g.P.Port.made g.P.Port.faults g.P.Port.never_fails c.args.ports.now.items c.index_mut.result.now c.boot.new.port c.requires.some c.index_mut.ensures.value c.boot.ensures.faults c.boot.ensures.never_fails

pub returns-in-Err-NoMemory-clause-kept : goal.returns-in-Err-NoMemory-clause-kept
returns-in-Err-NoMemory-clause-kept g c = kept_first g.P.Port.made g.P.Port.faults g.P.Port.never_fails c.args.ports.now.items c.index_mut.result.now c.boot.new.port c.requires.some c.index_mut.ensures.value c.boot.ensures.faults c.boot.ensures.never_fails

pub returns-in-Err-PoolNoRoom-clause-kept : goal.returns-in-Err-PoolNoRoom-clause-kept
returns-in-Err-PoolNoRoom-clause-kept g c = kept_first g.P.Port.made g.P.Port.faults g.P.Port.never_fails c.args.ports.now.items c.index_mut.result.now c.boot.new.port c.requires.some c.index_mut.ensures.value c.boot.ensures.faults c.boot.ensures.never_fails

pub returns-in-Err-PoolNoRoom-clause-stop : goal.returns-in-Err-PoolNoRoom-clause-stop
returns-in-Err-PoolNoRoom-clause-stop g c = no_room g.P.Port.made g.P.Port.faults g.P.Port.never_fails c.args.ports.now.items c.index_mut.result.now c.boot.new.port c.args.map.now c.args.table c.args.slots c.args.areas c.args.cpus c.index_mut.ensures.value (c.in-Err-PoolNoRoom.ensures.no_room (ap Err c.in-Err-PoolNoRoom.field-0-is)) (c.in-Err-PoolNoRoom.ensures.unasked (ap Err c.in-Err-PoolNoRoom.field-0-is))
