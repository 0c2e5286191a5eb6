use Rattle.std.proofs.Common.{All, arith, sym, refl, ◌∙◌}
use Rattle.std.proofs.lemmas.List.Elements.{All-get_or}
use Rattle.page_module.specs.Marking.{EndsInMemory}
use Rattle.page_module.proofs.SpanLemmas.{runs-fit, state-pass, state-end, taken-some}
use Rattle.page_module.proofs.span.Span.state.Goals as goal

pub loop-taken-init : goal.loop-taken-init
loop-taken-init c = rw (c.deref-taken-items.ensures.value, ← c.self.view_is) refl

pub loop-taken-preserved : goal.loop-taken-preserved
loop-taken-preserved c =
    let all : All EndsInMemory c.deref-taken-items.result.now = rw c.deref-taken-items.ensures.value (runs-fit _ _ _ c.self.invariant.0 (λ l. c.self.invariant.2 (omega arith))) in
    state-pass _ _ _ _ c.loop-taken-test.true (All-get_or EndsInMemory _ _ _ c.loop-taken-test.true all).0 (sym c.holds.ensures ∙ c.if-holds.false)
    ∙ c.loop-taken.invariant

pub unreachable-requires : goal.unreachable-requires
unreachable-requires c =
    taken-some c.self.inside.ticket c.self.inside.runs.items c.args.self.now c.args.page.0 c.self.invariant.0 c.self.view_is c.requires
    (sym c.loop-taken.invariant ∙ state-end _ _ _ c.loop-taken-test.false)
