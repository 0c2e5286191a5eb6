use Rattle.std.proofs.Common.{ℕ, ◌≡◌, ◌≢◌, ◌+◌, ◌-◌, ◌<◌, length, set, get_or, get_or-set_same, get_or-set_other, ⊎_elim, ◌%◌, arith}
use Rattle.std.proofs.lemmas.Bool.{cases_eq}
use Rattle.io_slots.proofs.CountLemmas.{IsCountedBut-write, used_below, zeros_down_more}
use Rattle.io_slots.proofs.counts.count_run.Goals as goal

pub loop-k-preserved : goal.loop-k-preserved
loop-k-preserved c =
    let p : ℕ = c.loop-k.k - 1 in
    let written = set c.loop-k.counts p (c.free_after.result + 1) in
    let inside : p < length c.loop-k.counts = omega arith in
    let here : get_or written p 0 ≡ c.free_after.result + 1 = get_or-set_same c.loop-k.counts p _ 0 inside in
    let same : (j : ℕ) → j ≢ p → get_or written j 0 ≡ get_or c.loop-k.counts j 0 = λ j other. get_or-set_other c.loop-k.counts p j _ 0 other in
    record {
      low = omega arith;
      high = omega arith;
      counted =
          IsCountedBut-write c.loop-k.counts written p c.args.at c.args.at same
          (λ inner _. omega (arith, here, c.free_after.ensures.next inner))
          (⊎_elim
          (λ last. omega (arith, here, c.free_after.ensures.end last))
          (λ inner. omega (arith, here, c.free_after.ensures.next inner, c.loop-k.invariant.counted.bound (p + 1)))
          (cases_eq ((p + 1) % 128) 0))
          (λ j off _ free.
          (off, λ e. absurd (omega (arith, used_below _ _ _ _ j (c.loop-k.invariant.zeros j) (omega arith) (c.requires.used j (omega arith, omega arith))))))
          c.loop-k.invariant.counted;
      zeros = λ j. zeros_down_more _ _ _ p c.loop-k.k (c.args.at + c.args.need) j (omega arith) c.loop-k.invariant.high (same j) (omega (arith, here)) (c.loop-k.invariant.zeros j);
    }
