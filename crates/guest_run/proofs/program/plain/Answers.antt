use Rattle.std.proofs.Common.{append-nil, refl, sym}
use Rattle.guest_input.specs.Reading.{reading}
use Rattle.guest_text.specs.Putting.{putting}
use Rattle.guest_words.specs.Views.{seen}
use Rattle.guest_words.specs.Words.{bytes_of_words, named_by}
use Rattle.guest_runs.specs.Asking.{asking}
use Rattle.guest_runs.proofs.PortsLemmas.{kept_same}
use Rattle.guest_run.specs.Did.{by_turns}
use Rattle.guest_run.specs.Ends.{outside}
use Rattle.guest_run.proofs.DidLemmas.{did_refuse, did_run}
use Rattle.guest_run.proofs.program.plain.Goals as goal

pub returns-in-Some : goal.returns-in-Some
returns-in-Some g c =
    let o = outside (reading g.F.Files.holds g.F.Files.asked g.F.Files.faults c.args.files.now c.run_by_turns-ran.new.files) (putting g.K.Sink.written g.K.Sink.faults c.args.out.now c.end_run.new.out) (asking g.P.Port.made g.P.Port.faults g.P.Port.never_fails c.args.ports.now.items c.run_by_turns-ran.new.ports.items) in
    did_run o (by_turns (named_by (bytes_of_words c.args.words.now))) (seen c.in-Some.names) c.run_by_turns-ran.result c.end_run.result (sym c.in-Some.ensures.named) c.run_by_turns-ran.ensures c.end_run.ensures.run c.end_run.ensures.stop

pub returns-in-None : goal.returns-in-None
returns-in-None g c =
    let o = outside (reading g.F.Files.holds g.F.Files.asked g.F.Files.faults c.args.files.now c.args.files.now) (putting g.K.Sink.written g.K.Sink.faults c.args.out.now c.end_with_line.new.out) (asking g.P.Port.made g.P.Port.faults g.P.Port.never_fails c.args.ports.now.items c.args.ports.now.items) in
    did_refuse o (by_turns (named_by (bytes_of_words c.args.words.now))) c.end_with_line.result (sym c.in-None.ensures.named) (sym (append-nil (g.F.Files.asked c.args.files.now))) refl (kept_same g.P.Port.made g.P.Port.faults g.P.Port.never_fails 0 c.args.ports.now.items) c.end_with_line.ensures
