use Rattle.guest_input.specs.Reading.{reading}
use Rattle.guest_words.specs.Views.{seen}
use Rattle.guest_runs.specs.Asking.{asking}
use Rattle.guest_runs.proofs.PortsLemmas.{kept_same}
use Rattle.guest_run.proofs.StartLemmas.{boot_stops, may_ask}
use Rattle.guest_run.proofs.start.begin.Goals as goal

pub returns-in_err-input-clause-kept : goal.returns-in_err-input-clause-kept
returns-in_err-input-clause-kept g c = kept_same g.P.Port.made g.P.Port.faults g.P.Port.never_fails 1 c.args.ports.now.items

pub returns-clause-stop : goal.returns-clause-stop
returns-clause-stop g c = boot_stops (reading g.F.Files.holds g.F.Files.asked g.F.Files.faults c.args.files.now c.read_input.new.files) (asking g.P.Port.made g.P.Port.faults g.P.Port.never_fails c.args.ports.now.items c.boot_input.new.ports.items) (seen c.args.names.now) c.in_ok-input.input c.boot_input.result c.in_ok-input.ensures.good c.in_ok-input.ensures.given c.in_ok-input.ensures.asked c.in_ok-input.ensures.scripts c.boot_input.ensures.stop

pub boot_input-requires-clause-asked : goal.boot_input-requires-clause-asked
boot_input-requires-clause-asked g c = may_ask (seen c.args.names.now) c.requires.limits
