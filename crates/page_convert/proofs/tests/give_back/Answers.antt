use Rattle.std.proofs.Common.{sym, subst}
use Rattle.guest_base.specs.declared.memory.PageState.TheVariants.{Accepted, Pending}
use Rattle.page_module.specs.Spans.{SpanIs}
use Rattle.page_convert.proofs.SpanLemmas.{once-refused}
use Rattle.page_convert.proofs.tests.give_back.Goals as goal

pub returns-clause-refused : goal.returns-clause-refused
returns-clause-refused c = λ is. subst (SpanIs Accepted) (sym (once-refused Pending c.args.span.now c.to_host-end.new.span c.to_host-end.result c.to_host-end.ensures.left is)) c.requires
