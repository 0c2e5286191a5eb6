use Rattle.guest_run.proofs.PortsLemmas.{kept_length}
use Rattle.guest_run.proofs.StartLemmas.{begins}
use Rattle.guest_run.proofs.start.boot_input.Goals as goal

pub returns-clause-begins : goal.returns-clause-begins
returns-clause-begins g c = begins g.P.Port.made c.in_ok-world.world c.args.input.scripts c.args.input.map c.args.input.table c.args.slots c.args.areas c.len-cpus.result c.args.ports.now.items c.boot_on_first.new.ports.items c.len-cpus.ensures c.requires.some c.requires.few c.requires.runnable c.requires.rules c.requires.fits c.in_ok-world.ensures.right c.in_ok-world.ensures.stands c.requires.ports c.requires.unmade c.in_ok-world.ensures.made (kept_length g.P.Port.faults g.P.Port.never_fails c.args.ports.now.items c.boot_on_first.new.ports.items c.in_ok-world.ensures.kept.each) c.in_ok-world.ensures.kept.others
