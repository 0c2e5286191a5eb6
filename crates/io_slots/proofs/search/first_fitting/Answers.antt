use Rattle.std.proofs.Common.{ℕ, length, ◌+◌, ◌<◌, ◌≤◌, ⊎_elim, inl, inr, sym, arith}
use Rattle.std.proofs.lemmas.Bool.{cases_lt}
use Rattle.io_slots.proofs.CountLemmas.{count_in_run, fits_at-counted, fits_at-skipped}
use Rattle.guest_base.proofs.SearchLemmas.{first_such_is, first_such_none}
use Rattle.io_slots.proofs.search.first_fitting.Goals as goal
use Rattle.io_slots.proofs.search.first_fitting.Goals.{else-skipped-need-via-then-skipped-need+else-at-skipped, else-skipped-need-via-else-skipped-need}

pub returns-then-at-skipped : goal.returns-then-at-skipped
returns-then-at-skipped c =
    let counts = c.args.counts.now in
    let at : ℕ = c.loop-at.at in
    let skipped : ℕ = c.skip_to-skipped.result in
    let left = count_in_run counts at skipped c.requires.counted (omega arith) in
    sym
    (first_such_is _ c.args.from _ (at + skipped)
    (record {
      low = omega arith;
      high = omega arith;
      passes = fits_at-counted counts c.args.need c.args.align (at + skipped)
          c.requires.counted c.requires.segments c.requires.some (omega (arith, left)) c.skip_to-skipped.ensures.meets;
      before = λ s low high.
          ⊎_elim
          (λ (passed : s < at). c.loop-at.invariant.none s low passed (omega arith))
          (λ (here : at ≤ s).
          fits_at-skipped counts (length counts) c.args.need c.args.align at skipped s
          c.requires.counted c.requires.some c.skip_to-skipped.ensures.few c.skip_to-skipped.ensures.before here (omega arith) (inr high))
          (cases_lt s at);
    }))

pub loop-at-preserved : goal.loop-at-preserved
loop-at-preserved c = record {
  from = omega arith;
  none = λ s low high inside.
      ⊎_elim
      (λ (passed : s < c.loop-at.at). c.loop-at.invariant.none s low passed inside)
      (λ here.
      fits_at-skipped c.args.counts.now _ c.args.need c.args.align c.loop-at.at c.skip_to-skipped.result s
      c.requires.counted c.requires.some c.skip_to-skipped.ensures.few c.skip_to-skipped.ensures.before here (omega arith)
      (elim c.else-skipped-need.branch [
        | else-skipped-need-via-then-skipped-need+else-at-skipped w ↦ inr (omega arith)
        | else-skipped-need-via-else-skipped-need w ↦ inl (omega arith)
      ]))
      (cases_lt s c.loop-at.at);
}

pub returns : goal.returns
returns c = sym (first_such_none _ c.args.from _ (record { fails = λ s low high. c.loop-at.invariant.none s low (omega arith) (omega arith) }))
