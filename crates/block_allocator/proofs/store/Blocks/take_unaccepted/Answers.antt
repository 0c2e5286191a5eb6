use Rattle.std.proofs.Common.{◌<◌, ◌==◌, ◌&&◌, not, length, ap, sym, ◌∙◌, arith}
use Rattle.std.proofs.lemmas.Bool.{eqb-false}
use Rattle.block_allocator.specs.State.{waits}
use Rattle.block_allocator.proofs.Waiting.{member_form, lowest_first, others_wait, begins, seen_lowest}
use Rattle.block_allocator.proofs.store.Blocks.take_unaccepted.Goals as goal

pub returns-clause-lowest : goal.returns-clause-lowest
returns-clause-lowest c =
    let ws = c.self.inside.waiting.items in
    let y = c.take_at.result in
    let some : 0 < length ws = omega (arith, eqb-false _ _ (sym c.is_empty.ensures ∙ c.if-is_empty.false), c.self.inside.waiting.ok.0) in
    let lowest = lowest_first ws c.self.invariant.waiting_rises c.self.invariant.waiting_form y some c.take_at.ensures.block in
    seen_lowest _ c.args.self.now c.self.view_is y c.block_of.result.first (ap (λ b. b.first) c.block_of.ensures) lowest

pub returns-clause-others : goal.returns-clause-others
returns-clause-others c =
    let ws = c.self.inside.waiting.items in
    let y = c.take_at.result in
    let some : 0 < length ws = omega (arith, eqb-false _ _ (sym c.is_empty.ensures ∙ c.if-is_empty.false), c.self.inside.waiting.ok.0) in
    let order = (member_form ws c.self.invariant.waiting_form 0 y some (sym c.take_at.ensures.block)).0 in
    let first_is = ap (λ b. b.first) c.block_of.ensures in
    λ first.
    others_wait c.take_at.new.list.items ws y c.take_at.ensures.removed c.self.invariant.waiting_form c.take_at.ensures.gone order first
    ∙ ap (λ v. waits v first && not (begins first y)) c.self.view_is
    ∙ ap (λ n. waits c.args.self.now first && not (n == first)) (sym first_is)
