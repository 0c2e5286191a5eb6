use Rattle.std.proofs.Common.{◌++◌, ◌∙◌, Err, List, sym, ap, refl, subst}
use Rattle.std.proofs.lemmas.Result.{err_from_is_err_and, on_ok_weaker}
use Rattle.event_core.specs.Boot.{AcceptsRun}
use Rattle.event_core.specs.declared.module_call.ModuleCall.{ModuleCall}
use Rattle.event_core.proofs.FrontLemmas.{run-exists}
use Rattle.accept_sizes.specs.Ends.{stopped_at}
use Rattle.guest_boot.specs.Booting.{StandsAfter}
use Rattle.guest_boot.specs.declared.accept.Kept.{Kept}
use Rattle.guest_boot.proofs.InTurnLemmas.{ended-by, worked-left, none-made}
use Rattle.guest_boot.proofs.PieceLemmas.{PutBack}
use Rattle.guest_boot.proofs.RunLemmas.{RunOf, RunDone, run-few, run-here, run-made, run-after, run-others}
use Rattle.guest_boot.proofs.accept.accept_units.Goals as goal

pub work-requires-clause-few : goal.work-requires-clause-few
work-requires-clause-few g c =
    run-few c.args.boot.now (g.P.Port.made c.args.port.now) c.args.kept.now c.args.run c.run_pages-pages.result
    (record { booted = c.requires.booted; stands = c.requires.stands; some = c.requires.some; set = c.requires.set; pages_are = c.run_pages-pages.ensures })

pub work-requires-clause-here : goal.work-requires-clause-here
work-requires-clause-here g c =
    run-here c.args.boot.now (g.P.Port.made c.args.port.now) c.args.kept.now c.args.run c.run_pages-pages.result
    (record { booted = c.requires.booted; stands = c.requires.stands; some = c.requires.some; set = c.requires.set; pages_are = c.run_pages-pages.ensures })

pub returns-in_err-span-clause-done : goal.returns-in_err-span-clause-done
returns-in_err-span-clause-done g c =
    let Part = AcceptsRun c.args.boot.now (g.P.Port.made c.args.port.now) c.args.run in
    let e = err_from_is_err_and c.from_residual.result c.from_residual.ensures.1 in
    worked-left c.from_residual.result _ c.args.boot.now Part (g.P.Port.made c.args.port.now) (g.P.Port.made c.work.new.port) _ (e.1 ∙ ap (λ x. Err x) e.2)
    (none-made Part (g.P.Port.made c.args.port.now) (g.P.Port.made c.work.new.port) c.in_err-span.ensures.unmade (run-exists c.args.boot.now (g.P.Port.made c.args.port.now) c.args.run))

pub returns-clause-others : goal.returns-clause-others
returns-clause-others g c =
    let of : RunOf c.args.boot.now (g.P.Port.made c.args.port.now) c.args.kept.now c.args.run c.run_pages-pages.result = record { booted = c.requires.booted; stands = c.requires.stands; some = c.requires.some; set = c.requires.set; pages_are = c.run_pages-pages.ensures } in
    let back : PutBack c.in_ok-span.field-0.span c.work.new.table c.put.new.self = record { states = c.put.ensures.states; out = c.put.ensures.out } in
    on_ok_weaker c.keep_calls.result
    (λ calls.
    run-others c.args.boot.now (g.P.Port.made c.args.port.now) c.in_ok-span.field-0.calls c.args.kept.now c.work.new.table c.put.new.self c.clear_run.new.bits c.args.run c.run_pages-pages.result c.in_ok-span.field-0.span c.clear_run.result
    (record { of = of; out = c.in_ok-span.ensures.accepted; back = back; cleared_in = c.clear_run.ensures.cleared }))
    c.keep_calls.ensures.calls

pub returns-clause-done : goal.returns-clause-done
returns-clause-done g c =
    let boot = c.args.boot.now in
    let made = g.P.Port.made c.args.port.now in
    let out = c.in_ok-span.field-0 in
    let of : RunOf boot made c.args.kept.now c.args.run c.run_pages-pages.result = record { booted = c.requires.booted; stands = c.requires.stands; some = c.requires.some; set = c.requires.set; pages_are = c.run_pages-pages.ensures } in
    let back : PutBack out.span c.work.new.table c.put.new.self = record { states = c.put.ensures.states; out = c.put.ensures.out } in
    let did : RunDone boot made out.calls c.args.kept.now c.work.new.table c.put.new.self c.clear_run.new.bits c.args.run c.run_pages-pages.result out.span c.clear_run.result = record { of = of; out = c.in_ok-span.ensures.accepted; back = back; cleared_in = c.clear_run.ensures.cleared } in
    let next : Kept = record { table = c.put.new.self; bits = c.clear_run.new.bits; calls = c.keep_calls.new.kept } in
    let P : List ModuleCall → Type 0 = λ done. StandsAfter boot done next in
    record {
      made = (
        out.calls,
        c.in_ok-span.ensures.made,
        ended-by c.keep_calls.result (AcceptsRun boot made c.args.run) out.calls (stopped_at out.end)
            (run-made boot made out.calls c.args.kept.now c.work.new.table c.put.new.self c.clear_run.new.bits c.args.run c.run_pages-pages.result out.span c.clear_run.result (stopped_at out.end) did (sym c.in_ok-span.ensures.end))
            c.keep_calls.ensures.whole c.keep_calls.ensures.stopped c.keep_calls.ensures.placed,
      );
      stands = on_ok_weaker c.keep_calls.result
          (λ calls.
          subst P (sym c.in_ok-span.ensures.made)
          (run-after boot made out.calls c.args.kept.now c.work.new.table c.put.new.self c.clear_run.new.bits c.args.run c.run_pages-pages.result out.span c.clear_run.result next did refl refl
          (calls ∙ ap (λ l. c.args.kept.now.calls.items ++ l) c.as_slice.ensures)))
          c.keep_calls.ensures.calls;
    }
