use Rattle.std.proofs.Common.{sym, subst}
use Rattle.guest_base.specs.declared.memory.PageState.TheVariants.{Accepted, Shared}
use Rattle.page_module.specs.Spans.{SpanIs}
use Rattle.page_convert.proofs.SpanLemmas.{once-refused, once-shared}
use Rattle.page_convert.proofs.tests.share.Goals as goal

pub returns-clause-shared : goal.returns-clause-shared
returns-clause-shared c = once-shared c.args.span.now c.to_shared-end.new.span c.to_shared-end.result c.requires c.to_shared-end.ensures.left

pub returns-clause-refused : goal.returns-clause-refused
returns-clause-refused c = λ is. subst (SpanIs Accepted) (sym (once-refused Shared c.args.span.now c.to_shared-end.new.span c.to_shared-end.result c.to_shared-end.ensures.left is)) c.requires
