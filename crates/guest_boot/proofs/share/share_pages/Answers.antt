use Rattle.std.proofs.Common.{◌≡◌, ◌∙◌, ◌++◌, List, [], ◌∷◌, None, Some, Err, refl, ap, sym, subst, arith}
use Rattle.std.proofs.lemmas.Result.{err_from_is_err_and}
use Rattle.guest_base.proofs.SearchLemmas.{count_such-le}
use Rattle.guest_base.specs.declared.memory.PageState.TheVariants.{Shared}
use Rattle.event_core.specs.declared.module_call.PortAnswer.TheVariants.{Ok as AnsweredOk, Failed}
use Rattle.event_core.specs.declared.module_call.ModuleCall.{ModuleCall}
use Rattle.event_core.specs.Boot.{SharesPool, share_call}
use Rattle.event_core.proofs.FrontLemmas.{front-whole}
use Rattle.page_module.specs.Modules.{AfterCall, span_call}
use Rattle.page_module.specs.States.{state_in}
use Rattle.page_module.specs.Tables.{begins_run}
use Rattle.guest_boot.specs.Booting.{StandsAfter}
use Rattle.guest_boot.specs.declared.accept.Kept.{Kept}
use Rattle.guest_boot.proofs.InTurnLemmas.{none-made, worked-left}
use Rattle.guest_boot.proofs.ShareLemmas.{SharedBack, accepted-some, done-by, may-put-back, same-table, same-ticket, shared-grew, shared-stands, span-accepted}
use Rattle.guest_boot.proofs.share.share_pages.Goals as goal

pub returns-in_err-reserve-clause-done : goal.returns-in_err-reserve-clause-done
returns-in_err-reserve-clause-done g c boot accepted stands =
    let e = err_from_is_err_and c.from_residual.result c.from_residual.ensures.1 in
    let made = g.P.Port.made c.args.port.now in
    worked-left c.from_residual.result _ boot (SharesPool c.args.pages) made made _ (e.1 ∙ ap (λ x. Err x) e.2)
    (none-made (SharesPool c.args.pages) made made refl (share_call c.args.pages AnsweredOk ∷ [], None, refl))

pub returns-in_err-reserve-2-clause-done : goal.returns-in_err-reserve-2-clause-done
returns-in_err-reserve-2-clause-done g c boot accepted stands =
    let e = err_from_is_err_and c.from_residual-in_err-reserve-2.result c.from_residual-in_err-reserve-2.ensures.1 in
    let made = g.P.Port.made c.args.port.now in
    worked-left c.from_residual-in_err-reserve-2.result _ boot (SharesPool c.args.pages) made (g.P.Port.made c.reserve-2.new.self) _ (e.1 ∙ ap (λ x. Err x) e.2)
    (none-made (SharesPool c.args.pages) made (g.P.Port.made c.reserve-2.new.self) c.in_err-reserve-2.ensures.made (share_call c.args.pages AnsweredOk ∷ [], None, refl))

pub take-span-requires-clause-here : goal.take-span-requires-clause-here
take-span-requires-clause-here g c page inside = accepted-some _ (ap (λ runs. state_in runs page) c.in_ok-reserve.ensures.runs ∙ c.requires.accepted page inside)

pub take-span-requires-clause-room : goal.take-span-requires-clause-room
take-span-requires-clause-room g c =
    let few = count_such-le (begins_run (state_in c.reserve.new.self.runs) c.args.pages.first) c.args.pages.first c.args.pages.count in
    omega (arith, few, c.in_ok-reserve.ensures.ok)

pub share-answer-requires-clause-accepted : goal.share-answer-requires-clause-accepted
share-answer-requires-clause-accepted g c =
    span-accepted c.args.pages c.reserve.new.self.runs c.take-span.result c.take-span.ensures.pages c.take-span.ensures.states
    (λ page inside. ap (λ runs. state_in runs page) c.in_ok-reserve.ensures.runs ∙ c.requires.accepted page inside)

pub put-requires : goal.put-requires
put-requires g c =
    may-put-back c.reserve.new.self.out c.take-span.new.self.out c.take-span.result.ticket c.share-answer.new.span.ticket (c.in_ok-reserve.ensures.out ∙ c.requires.none_out) c.take-span.ensures.out
    (same-ticket Shared c.take-span.result c.share-answer.new.span _ _ c.share-answer.result c.share-answer.ensures.made.marked)

pub returns-in-Failed-clause-done : goal.returns-in-Failed-clause-done
returns-in-Failed-clause-done g c boot accepted stands =
    let made = g.P.Port.made c.args.port.now in
    let grew = shared-grew (g.P.Port.made c.reserve-2.new.self) (g.P.Port.made c.share-answer.new.self) c.args.pages c.take-span.result c.share-answer.result Failed c.take-span.ensures.pages c.in-Failed.is c.share-answer.ensures.made.recorded in
    record {
      made = (share_call c.args.pages Failed ∷ [], grew ∙ ap (λ m. m ++ share_call c.args.pages Failed ∷ []) c.in_ok-reserve-2.ensures.made, (refl, refl));
      stands = tt;
    }

pub returns-in_err-push-clause-done : goal.returns-in_err-push-clause-done
returns-in_err-push-clause-done g c boot accepted stands =
    let e = err_from_is_err_and c.from_residual-in_err-push.result c.from_residual-in_err-push.ensures.1 in
    let made = g.P.Port.made c.args.port.now in
    let done = done-by c.share-answer.result c.share-answer.ensures.answers.answer c.in_default.not-Failed in
    let grew = shared-grew (g.P.Port.made c.reserve-2.new.self) (g.P.Port.made c.share-answer.new.self) c.args.pages c.take-span.result c.share-answer.result AnsweredOk c.take-span.ensures.pages done c.share-answer.ensures.made.recorded in
    worked-left c.from_residual-in_err-push.result _ boot (SharesPool c.args.pages) made (g.P.Port.made c.share-answer.new.self) _ (e.1 ∙ ap (λ x. Err x) e.2)
    (share_call c.args.pages AnsweredOk ∷ [], grew ∙ ap (λ m. m ++ share_call c.args.pages AnsweredOk ∷ []) c.in_ok-reserve-2.ensures.made, front-whole (SharesPool c.args.pages) (share_call c.args.pages AnsweredOk ∷ []) None refl)

pub returns-clause-done : goal.returns-clause-done
returns-clause-done g c boot accepted stands =
    let pages = c.args.pages in
    let made = g.P.Port.made c.args.port.now in
    let after = g.P.Port.made c.share-answer.new.self in
    let taken = c.take-span.result in
    let span = c.share-answer.new.span in
    let done = done-by c.share-answer.result c.share-answer.ensures.answers.answer c.in_default.not-Failed in
    let grew : after ≡ made ++ share_call pages AnsweredOk ∷ [] =
    shared-grew (g.P.Port.made c.reserve-2.new.self) after pages taken c.share-answer.result AnsweredOk c.take-span.ensures.pages done c.share-answer.ensures.made.recorded
    ∙ ap (λ m. m ++ share_call pages AnsweredOk ∷ []) c.in_ok-reserve-2.ensures.made in
    let shared : AfterCall Shared taken span taken.ticket.pages.first taken.ticket.pages.count AnsweredOk = subst (AfterCall Shared taken span taken.ticket.pages.first taken.ticket.pages.count) done c.share-answer.ensures.made.marked in
    let next : Kept = record { table = c.put.new.self; bits = c.args.kept.now.bits; calls = c.push.new.self } in
    let reserved : Kept = record { table = c.reserve.new.self; bits = c.args.kept.now.bits; calls = c.args.kept.now.calls } in
    let back : SharedBack pages c.reserve.new.self c.take-span.new.self c.put.new.self taken span = record {
      pages_are = c.take-span.ensures.pages;
      rest = c.take-span.ensures.rest;
      out = c.take-span.ensures.out;
      ticket = shared.ticket;
      states = shared.states;
      back = c.put.ensures.states;
      back_out = c.put.ensures.out;
    } in
    let P : List ModuleCall → Type 0 = λ calls. StandsAfter boot calls next in
    record {
      made = (share_call pages AnsweredOk ∷ [], grew, refl);
      stands = subst P (sym grew)
          (shared-stands boot made pages reserved next c.take-span.new.self taken span (same-table boot made c.args.kept.now c.reserve.new.self stands c.in_ok-reserve.ensures.runs c.in_ok-reserve.ensures.out) accepted back refl
          (c.in_ok-push.ensures.items ∙ ap (λ call. c.args.kept.now.calls.items ++ call ∷ []) (ap (share_call pages) done)));
    }
