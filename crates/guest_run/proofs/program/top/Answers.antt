use Rattle.guest_input.specs.Reading.{reading}
use Rattle.guest_text.specs.Putting.{putting}
use Rattle.guest_words.specs.Views.{seen}
use Rattle.guest_words.specs.Words.{bytes_of_words, named_by}
use Rattle.guest_runs.specs.Asking.{asking}
use Rattle.guest_run.specs.Ends.{outside}
use Rattle.guest_run.proofs.DidLemmas.{did_run}
use Rattle.guest_run.proofs.program.top.Goals as goal

pub returns-in-Some : goal.returns-in-Some
returns-in-Some g c =
    let o = outside (reading g.F.Files.holds g.F.Files.asked g.F.Files.faults c.args.files.now c.run_on_threads-ran.new.files) (putting g.K.Sink.written g.K.Sink.faults c.args.out.now c.end_run.new.out) (asking g.P.Port.made g.P.Port.faults g.P.Port.never_fails c.args.ports.now.items c.run_on_threads-ran.new.ports.items) in
    did_run o (named_by (bytes_of_words c.args.words.now)) (seen c.in-Some.names) c.run_on_threads-ran.result c.end_run.result c.in-Some.ensures.named c.run_on_threads-ran.ensures c.end_run.ensures.run c.end_run.ensures.stop
