use Rattle.page_module.proofs.SpanWithin.{span-within}
use Rattle.page_module.proofs.span.Span.pages.Goals as goal

pub returns-clause-within : goal.returns-clause-within
returns-clause-within c = span-within c.self.inside.ticket c.self.inside.runs.items c.args.self.now c.self.view_is c.self.invariant.0
