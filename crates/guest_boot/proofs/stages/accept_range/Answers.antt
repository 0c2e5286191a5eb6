use Rattle.std.proofs.Common.{◌≡◌, ◌∙◌, ◌+◌, drop, Err, None, List, refl, sym, ap, subst, arith}
use Rattle.std.proofs.lemmas.Result.{err_from_is_err_and}
use Rattle.guest_base.specs.declared.memory.Units.{Units}
use Rattle.event_core.specs.Boot.{AcceptsRun, AcceptsRange, InTurn, set_runs}
use Rattle.event_core.specs.Units.{guarded_units}
use Rattle.event_core.proofs.FrontLemmas.{run-exists, range-exists}
use Rattle.memory_core.specs.Bitmaps.{bits_in, guarded_by}
use Rattle.guest_boot.specs.Booting.{Grew, LeftBy}
use Rattle.guest_boot.proofs.InTurnLemmas.{worked-left, none-made, leads-start, leads-stop, leads-next, leads-end, at-drop}
use Rattle.guest_boot.proofs.SetRunsLemmas.{SetRuns, runs-in-set, runs-are, set-behind}
use Rattle.guest_boot.proofs.stages.accept_range.Goals as goal

pub returns-in_err-runs-clause-done : goal.returns-in_err-runs-clause-done
returns-in_err-runs-clause-done g c =
    let made = g.P.Port.made c.args.port.now in
    let Part = AcceptsRange c.args.boot.now made c.args.start c.args.len in
    let e = err_from_is_err_and c.from_residual.result c.from_residual.ensures.1 in
    worked-left c.from_residual.result _ c.args.boot.now Part made made _ (e.1 ∙ ap (λ x. Err x) e.2)
    (none-made Part made made refl (range-exists c.args.boot.now made c.args.start c.args.len))

pub loop-run-init : goal.loop-run-init
loop-run-init g c = record {
  leads = leads-start (AcceptsRun c.args.boot.now) (g.P.Port.made c.args.port.now) c.as_slice-run-items.result.now;
  stands = c.requires.stands;
  set = subst (SetRuns (bits_in c.args.kept.now.bits) 0) (sym (c.as_slice-run-items.ensures.value ∙ c.in_ok-runs.ensures)) (runs-in-set (bits_in c.args.kept.now.bits) (guarded_by c.args.kept.now.bits c.args.start c.args.len));
  faults = omega arith;
  never_fails = λ never. never;
}

pub returns-in_err-accept_units-clause-done : goal.returns-in_err-accept_units-clause-done
returns-in_err-accept_units-clause-done g c =
    let e = err_from_is_err_and c.from_residual-in_err-accept_units.result c.from_residual-in_err-accept_units.ensures.1 in
    let runs = c.as_slice-run-items.result.now in
    let made = g.P.Port.made c.args.port.now in
    let same : runs ≡ set_runs c.args.boot.now made (guarded_units c.args.boot.now c.args.start c.args.len) = c.as_slice-run-items.ensures.value ∙ c.in_ok-runs.ensures ∙ runs-are c.args.boot.now made c.args.kept.now.bits c.args.start c.args.len c.requires.stands.bits in
    let Done : List Units → Type 0 = λ all. Grew made (g.P.Port.made c.accept_units.new.port) (LeftBy c.in_err-accept_units.field-0.0 (InTurn (AcceptsRun c.args.boot.now) made all)) in
    worked-left c.from_residual-in_err-accept_units.result _ c.args.boot.now (AcceptsRange c.args.boot.now made c.args.start c.args.len) made (g.P.Port.made c.accept_units.new.port) _ (e.1 ∙ ap (λ x. Err x) e.2)
    (subst Done same
    (leads-stop (AcceptsRun c.args.boot.now) made (g.P.Port.made c.loop-run.port) (g.P.Port.made c.accept_units.new.port) runs c.loop-run.run-index _ _ (run-exists c.args.boot.now) c.loop-run-test.true c.loop-run.invariant.leads c.in_err-accept_units.ensures.done.made))

pub loop-run-preserved : goal.loop-run-preserved
loop-run-preserved g c =
    let runs = c.as_slice-run-items.result.now in
    let bits = bits_in c.loop-run.kept.bits in
    let rest = at-drop runs c.loop-run.run-index (record { first = 0; count = 0 }) c.loop-run-test.true in
    record {
      leads = leads-next (AcceptsRun c.args.boot.now) (g.P.Port.made c.args.port.now) (g.P.Port.made c.loop-run.port) (g.P.Port.made c.accept_units.new.port) runs c.loop-run.run-index _ c.loop-run-test.true c.loop-run.invariant.leads c.in_ok-accept_units.ensures.done.made;
      stands = c.in_ok-accept_units.ensures.done.stands;
      set = set-behind bits (bits_in c.accept_units.new.kept.bits) _ (drop (c.loop-run.run-index + 1) runs) c.in_ok-accept_units.ensures.others (subst (SetRuns bits 0) rest c.loop-run.invariant.set);
      faults = omega (arith, c.loop-run.invariant.faults, c.in_ok-accept_units.ensures.faults.kept);
      never_fails = λ never. c.in_ok-accept_units.ensures.never_fails (c.loop-run.invariant.never_fails never);
    }

pub returns-clause-done : goal.returns-clause-done
returns-clause-done g c =
    let runs = c.as_slice-run-items.result.now in
    let made = g.P.Port.made c.args.port.now in
    let same : runs ≡ set_runs c.args.boot.now made (guarded_units c.args.boot.now c.args.start c.args.len) = c.as_slice-run-items.ensures.value ∙ c.in_ok-runs.ensures ∙ runs-are c.args.boot.now made c.args.kept.now.bits c.args.start c.args.len c.requires.stands.bits in
    let Done : List Units → Type 0 = λ all. Grew made (g.P.Port.made c.loop-run.port) (λ now. InTurn (AcceptsRun c.args.boot.now) made all now None) in
    record {
      made = subst Done same (leads-end (AcceptsRun c.args.boot.now) made (g.P.Port.made c.loop-run.port) runs c.loop-run.run-index c.loop-run-test.false c.loop-run.invariant.leads);
      stands = c.loop-run.invariant.stands;
    }
