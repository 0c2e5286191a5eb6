use Rattle.page_convert.proofs.SpanLemmas.{private-shared}
use Rattle.page_convert.proofs.tests.make_private.Goals as goal

pub returns-clause-shared : goal.returns-clause-shared
returns-clause-shared c = private-shared c.args.span.now c.to_private-end.new.span c.to_private-end.result c.requires c.to_private-end.ensures.left
