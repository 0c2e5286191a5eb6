use Rattle.std.proofs.Common.{None}
use Rattle.guest_input.specs.Reading.{reading}
use Rattle.guest_words.specs.Views.{seen}
use Rattle.guest_run.proofs.RunLemmas.{ran, ran_out, no_order}
use Rattle.guest_run.proofs.run.run_on_threads.Goals as goal

pub returns-in-Ok : goal.returns-in-Ok
returns-in-Ok g c = ran (reading g.F.Files.holds g.F.Files.asked g.F.Files.faults c.args.files.now c.begin.new.files) g.P.Port.made g.P.Port.faults g.P.Port.never_fails c.args.ports.now.items c.begin.new.ports.items c.run_threads.new.ports.items (seen c.args.names.now) c.in_ok-world.field-0 None c.in-Ok.ran c.in_ok-world.ensures.good c.in_ok-world.ensures.asked c.in_ok-world.ensures.starts c.in_ok-world.ensures.kept (no_order (g.F.Files.holds c.args.files.now) (seen c.args.names.now) c.in_ok-world.field-0 c.requires.unordered c.in_ok-world.ensures.starts.booted) c.in-Ok.ensures.boot c.in-Ok.ensures.scripts c.in-Ok.ensures.run c.in-Ok.ensures.final_runs c.in-Ok.ensures.kept

pub returns-in-Err : goal.returns-in-Err
returns-in-Err g c = ran_out (reading g.F.Files.holds g.F.Files.asked g.F.Files.faults c.args.files.now c.begin.new.files) g.P.Port.made g.P.Port.faults g.P.Port.never_fails c.args.ports.now.items c.begin.new.ports.items c.run_threads.new.ports.items (seen c.args.names.now) c.in_ok-world.field-0 c.in_ok-world.ensures.asked c.in_ok-world.ensures.starts c.in_ok-world.ensures.kept c.in-Err.ensures.halted c.in-Err.ensures.kept
