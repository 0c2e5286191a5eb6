use Rattle.std.proofs.Common.{◌∙◌}
use Rattle.guest_text.specs.Putting.{putting}
use Rattle.guest_words.specs.Views.{seen}
use Rattle.guest_run.proofs.EndLemmas.{stop_ends}
use Rattle.guest_run.proofs.program.end_by.Goals as goal

pub returns-in-Ok-clause-ends : goal.returns-in-Ok-clause-ends
returns-in-Ok-clause-ends g c = stop_ends (putting g.K.Sink.written g.K.Sink.faults c.args.out.now c.end_with_line.new.out) (seen c.args.names.now) c.args.stop c.as_str.result.now c.status.result c.end_with_line.result (c.as_str.ensures.value ∙ c.in-Ok.ensures.line) c.status.ensures c.in-Ok.ensures.memory c.end_with_line.ensures
