use Rattle.page_convert.proofs.SpanLemmas.{whole-left, stopped-left}
use Rattle.page_convert.proofs.convert.accept_pending.Goals as goal

pub returns-in-Whole-clause-left : goal.returns-in-Whole-clause-left
returns-in-Whole-clause-left g c =
    let by = c.in-Whole.ensures.calls in
    whole-left c.args.hosts.now c.args.span.now c.accept_run.new.span by.0 by.3 by.4 c.requires.unshared

pub returns-in-Stopped-clause-left : goal.returns-in-Stopped-clause-left
returns-in-Stopped-clause-left g c =
    let by = c.in-Stopped.ensures.calls in
    stopped-left c.args.hosts.now c.args.span.now c.accept_run.new.span by.0 c.in-Stopped.page by.3 by.4 c.requires.unshared
