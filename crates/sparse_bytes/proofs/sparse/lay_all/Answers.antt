use Rattle.std.proofs.Common.{◌≡◌, ◌∙◌, ◌+◌, ap, take}
use Rattle.event_core.specs.Bytes.{zeros}
use Rattle.sparse_bytes.specs.Runs.{laid_over}
use Rattle.sparse_bytes.proofs.RunLemmas.{all-taken, byte-more, row-by-place}
use Rattle.sparse_bytes.proofs.sparse.lay_all.Goals as goal

pub loop-run-preserved : goal.loop-run-preserved
loop-run-preserved c = (
  c.lay_over.ensures.len ∙ c.loop-run.invariant.0,
  λ k below. c.lay_over.ensures.bytes k (rw c.loop-run.invariant.0 below)
      ∙ byte-more zeros (c.args.at + k) _ c.deref-run-items.result.now c.loop-run.run-index c.run-item.result
      c.loop-run-test.true c.run-item.is (c.loop-run.invariant.1 k below),
)

pub returns : goal.returns
returns c =
    let items = c.args.runs.now.items in
    let all : take c.loop-run.run-index c.deref-run-items.result.now ≡ items =
    all-taken c.deref-run-items.result.now c.loop-run.run-index c.loop-run-test.false ∙ c.deref-run-items.ensures.value in
    rw (← c.loop-run.invariant.0)
    (row-by-place (laid_over zeros items) c.args.at c.loop-run.bytes
    (λ k below. c.loop-run.invariant.1 k (rw (← c.loop-run.invariant.0) below) ∙ ap (λ xs. laid_over zeros xs (c.args.at + k)) all))
