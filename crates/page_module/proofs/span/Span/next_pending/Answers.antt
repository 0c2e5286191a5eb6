use Rattle.std.proofs.Common.{arith, sym, ◌∙◌}
use Rattle.page_module.proofs.SpanLemmas.{runs-fit}
use Rattle.page_module.proofs.ScanLemmas.{none-pending, next-pending}
use Rattle.page_module.proofs.span.Span.next_pending.Goals as goal

pub first_page_of-requires : goal.first_page_of-requires
first_page_of-requires c = runs-fit _ _ _ c.self.invariant.0 (λ l. c.self.invariant.2 (omega arith))

pub first_page_of-requires-2 : goal.first_page_of-requires-2
first_page_of-requires-2 c = runs-fit _ _ _ c.self.invariant.0 (λ l. c.self.invariant.2 (omega arith))

pub overflow_sub-result : goal.overflow_sub-result
overflow_sub-result c =
    let n = next-pending c.self.inside.ticket c.self.inside.runs.items c.args.self.now c.args.from.0 c.in_ok-first.first c.unwrap_or-end.result
    c.self.invariant.0 c.self.view_is (sym c.first_page_of.ensures ∙ c.in_ok-first.was) (rw (← c.first_page_of-2.ensures) c.unwrap_or-end.ensures) in
    let after = n.0 in
    omega arith

pub returns-in_err-first-clause-none : goal.returns-in_err-first-clause-none
returns-in_err-first-clause-none c =
    rw c.from_residual.ensures
    (none-pending c.self.inside.ticket c.self.inside.runs.items c.args.self.now c.args.from.0 c.self.invariant.0 c.self.view_is
    (sym c.first_page_of.ensures ∙ c.in_err-first.was))

pub returns-clause-some : goal.returns-clause-some
returns-clause-some c =
    (next-pending c.self.inside.ticket c.self.inside.runs.items c.args.self.now c.args.from.0 c.in_ok-first.first c.unwrap_or-end.result
    c.self.invariant.0 c.self.view_is (sym c.first_page_of.ensures ∙ c.in_ok-first.was) (rw (← c.first_page_of-2.ensures) c.unwrap_or-end.ensures)).1
