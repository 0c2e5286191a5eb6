use Rattle.std.proofs.Common.{arith, sym, ◌∙◌}
use Rattle.page_module.proofs.SpanLemmas.{runs-fit, runs-all, runs-accepted, becomes-all, becomes-accepted, span-end, pages-same, marks-first, length-map}
use Rattle.page_module.proofs.span.Span.mark.Goals as goal

pub invariant_of-self : goal.invariant_of-self
invariant_of-self c =
    rw c.set_state.ensures.items (runs-all _ _ _ _ c.self.invariant.0, rw length-map c.self.invariant.1, c.self.invariant.2, rw c.set_state.ensures.capacity c.self.invariant.3)

pub accept_pages-requires-clause-runs : goal.accept_pages-requires-clause-runs
accept_pages-requires-clause-runs c = runs-fit _ _ _ c.self.invariant.0 (λ l. c.self.invariant.2 (omega arith))

pub accept_pages-requires-clause-pages : goal.accept_pages-requires-clause-pages
accept_pages-requires-clause-pages c some =
    let m = marks-first c.self.inside.ticket c.self.inside.runs.items c.args.self.now c.args.pages c.self.view_is (sym c.eq.ensures ∙ c.if-eq.false) c.requires in
    let e = span-end c.self.inside.ticket c.self.inside.runs.items c.args.self.now c.args.pages c.self.invariant.0 c.self.view_is m.1 some in
    let start = e.0 in
    let end = e.1 in
    let bound = c.self.invariant.2 (omega arith) in
    omega arith

pub invariant_of-self-else-eq : goal.invariant_of-self-else-eq
invariant_of-self-else-eq c =
    rw c.accept_pages.ensures.items (runs-accepted _ _ _ _ c.self.invariant.0, rw length-map c.self.invariant.1, c.self.invariant.2, rw c.accept_pages.ensures.capacity c.self.invariant.3)

pub returns-then-eq : goal.returns-then-eq
returns-then-eq c =
    becomes-all c.args.state c.self.inside.ticket c.self.inside.runs.items c.set_state.new.runs.items c.args.self.now c.args.pages
    c.self.invariant.0 c.self.view_is (pages-same _ _ (sym c.eq.ensures ∙ c.if-eq.true)) c.set_state.ensures.items

pub returns-else-eq : goal.returns-else-eq
returns-else-eq c =
    let m = marks-first c.self.inside.ticket c.self.inside.runs.items c.args.self.now c.args.pages c.self.view_is (sym c.eq.ensures ∙ c.if-eq.false) c.requires in
    rw m.0
    (becomes-accepted c.self.inside.ticket c.self.inside.runs.items c.accept_pages.new.runs.items c.args.self.now c.args.pages
    c.self.invariant.0 c.self.view_is m.1 c.accept_pages.ensures.items)
