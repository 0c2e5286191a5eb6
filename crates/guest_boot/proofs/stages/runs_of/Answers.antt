use Rattle.std.proofs.Common.{◌∙◌, ◌++◌, ◌∷◌, ◌+◌, ◌-◌, [], sym, ap, arith, append_assoc}
use Rattle.event_core.specs.Boot.{runs_from}
use Rattle.event_core.specs.Units.{bit_of}
use Rattle.memory_core.proofs.UnitsLemmas.{first_run-facts}
use Rattle.guest_boot.proofs.SetRunsLemmas.{runs-next}
use Rattle.guest_boot.proofs.stages.runs_of.Goals as goal

pub overflow_add-from : goal.overflow_add-from
overflow_add-from c =
    let facts = first_run-facts (bit_of c.args.bits.now.bits) c.loop-run.from (c.args.units.first + c.args.units.count) c.in-Some.run' (sym c.in-Some.ensures) in
    let high = facts.high in
    omega (arith, c.requires)

pub loop-run-smaller : goal.loop-run-smaller
loop-run-smaller c =
    let facts = first_run-facts (bit_of c.args.bits.now.bits) c.loop-run.from (c.args.units.first + c.args.units.count) c.in-Some.run' (sym c.in-Some.ensures) in
    let high = facts.high in
    let low = facts.low in
    let some = facts.some in
    omega arith

pub loop-run-preserved : goal.loop-run-preserved
loop-run-preserved c =
    let test = bit_of c.args.bits.now.bits in
    let end = c.args.units.first + c.args.units.count in
    let run = c.in-Some.run' in
    let facts = first_run-facts test c.loop-run.from end run (sym c.in-Some.ensures) in
    let rest = runs_from test (end - (run.first + run.count)) (run.first + run.count) end in
    record {
      high = facts.high;
      found = ap (λ l. l ++ rest) c.in_ok-push.ensures.items ∙ append_assoc c.loop-run.runs.items (run ∷ []) rest
          ∙ ap (λ l. c.loop-run.runs.items ++ l) (sym (runs-next test c.loop-run.from end run c.loop-run.invariant.high (sym c.in-Some.ensures)))
          ∙ c.loop-run.invariant.found;
    }
