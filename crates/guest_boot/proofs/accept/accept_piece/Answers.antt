use Rattle.std.proofs.Common.{◌++◌, ◌∙◌, Err, List, sym, ap, refl, subst}
use Rattle.std.proofs.lemmas.Result.{err_from_is_err_and, on_ok_weaker}
use Rattle.event_core.specs.Boot.{AcceptsPiece}
use Rattle.event_core.specs.declared.module_call.ModuleCall.{ModuleCall}
use Rattle.event_core.proofs.FrontLemmas.{piece-exists}
use Rattle.accept_sizes.specs.Ends.{stopped_at}
use Rattle.page_module.specs.States.{state_in}
use Rattle.guest_boot.specs.Booting.{StandsAfter}
use Rattle.guest_boot.specs.declared.accept.Kept.{Kept}
use Rattle.guest_boot.proofs.InTurnLemmas.{ended-by, worked-left, none-made}
use Rattle.guest_boot.proofs.PieceLemmas.{early-few, early-here, PutBack, piece-stands, piece-accepts}
use Rattle.guest_boot.proofs.accept.accept_piece.Goals as goal

pub work-requires-clause-few : goal.work-requires-clause-few
work-requires-clause-few g c = early-few c.args.boot.now c.args.pages c.requires.booted c.requires.early

pub work-requires-clause-here : goal.work-requires-clause-here
work-requires-clause-here g c = early-here c.args.boot.now (g.P.Port.made c.args.port.now) c.args.pages (state_in c.args.kept.now.table.runs) c.requires.stands.states c.requires.early

pub returns-in_err-span-clause-done : goal.returns-in_err-span-clause-done
returns-in_err-span-clause-done g c =
    let Part = AcceptsPiece c.args.boot.now (g.P.Port.made c.args.port.now) c.args.pages in
    let e = err_from_is_err_and c.from_residual.result c.from_residual.ensures.1 in
    worked-left c.from_residual.result _ c.args.boot.now Part (g.P.Port.made c.args.port.now) (g.P.Port.made c.work.new.port) _ (e.1 ∙ ap (λ x. Err x) e.2)
    (none-made Part (g.P.Port.made c.args.port.now) (g.P.Port.made c.work.new.port) c.in_err-span.ensures.unmade (piece-exists c.args.boot.now (g.P.Port.made c.args.port.now) c.args.pages))

pub returns-clause-done : goal.returns-clause-done
returns-clause-done g c =
    let made = g.P.Port.made c.args.port.now in
    let out = c.in_ok-span.field-0 in
    let back : PutBack out.span c.work.new.table c.put.new.self = record { states = c.put.ensures.states; out = c.put.ensures.out } in
    let next : Kept = record { table = c.put.new.self; bits = c.args.kept.now.bits; calls = c.keep_calls.new.kept } in
    let P : List ModuleCall → Type 0 = λ done. StandsAfter c.args.boot.now done next in
    record {
      made = (
        out.calls,
        c.in_ok-span.ensures.made,
        ended-by c.keep_calls.result (AcceptsPiece c.args.boot.now made c.args.pages) out.calls (stopped_at out.end)
            (piece-accepts c.args.boot.now made out.calls c.args.kept.now c.work.new.table c.put.new.self c.args.pages out.span (stopped_at out.end) c.requires.stands c.in_ok-span.ensures.accepted back (sym c.in_ok-span.ensures.end))
            c.keep_calls.ensures.whole c.keep_calls.ensures.stopped c.keep_calls.ensures.placed,
      );
      stands = on_ok_weaker c.keep_calls.result
          (λ calls.
          subst P (sym c.in_ok-span.ensures.made)
          (piece-stands c.args.boot.now made out.calls c.args.kept.now c.work.new.table c.put.new.self c.args.pages out.span next c.requires.stands c.requires.early c.in_ok-span.ensures.accepted back refl refl
          (calls ∙ ap (λ l. c.args.kept.now.calls.items ++ l) c.as_slice.ensures)))
          c.keep_calls.ensures.calls;
    }
