use Rattle.guest_text.specs.Putting.{putting}
use Rattle.guest_text.proofs.TextLemmas.{printed_of, cut_of}
use Rattle.guest_text.proofs.print.put_run.Goals as goal

pub returns-clause-printed : goal.returns-clause-printed
returns-clause-printed g c = printed_of c.put_text.result c.args.recorded.now c.as_slice.result.now c.args.runs.now c.as_slice-2.result.now (putting g.K.Sink.written g.K.Sink.faults c.args.out.now c.put_text.new.out) c.as_slice.ensures c.as_slice-2.ensures c.requires.final_runs c.put_text.ensures.ok

pub returns-clause-cut : goal.returns-clause-cut
returns-clause-cut g c = cut_of c.put_text.result c.args.recorded.now c.as_slice.result.now c.args.runs.now c.as_slice-2.result.now (putting g.K.Sink.written g.K.Sink.faults c.args.out.now c.put_text.new.out) c.as_slice.ensures c.as_slice-2.ensures c.requires.final_runs c.put_text.ensures.cut
