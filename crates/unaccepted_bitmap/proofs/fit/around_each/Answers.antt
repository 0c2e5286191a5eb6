use Rattle.std.proofs.Common.{◌∙◌, ◌+◌, sym, ap}
use Rattle.std.specs.Prelude.{is_some}
use Rattle.event_core.specs.Map.{unaccepted_page}
use Rattle.unaccepted_bitmap.proofs.FitLemmas.{each_at, each_past, each_end}
use Rattle.unaccepted_bitmap.proofs.fit.around_each.Goals as goal

pub returns-in_err-known-clause-is : goal.returns-in_err-known-clause-is
returns-in_err-known-clause-is c =
    let test = unaccepted_page c.args.descriptors.now in
    let end = c.args.pages.first + c.args.pages.count in
    ap is_some c.from_residual.ensures
    ∙ sym (c.loop-page.invariant.all ∙ each_at test c.loop-page.page end c.loop-page-test.true (sym c.around.ensures.is ∙ ap is_some c.in_err-known.was))

pub loop-page-preserved : goal.loop-page-preserved
loop-page-preserved c =
    let test = unaccepted_page c.args.descriptors.now in
    let end = c.args.pages.first + c.args.pages.count in
    record {
      known = c.in_ok-known.ensures.known;
      all = c.loop-page.invariant.all ∙ each_past test c.loop-page.page end c.loop-page-test.true (sym c.around.ensures.is ∙ ap is_some c.in_ok-known.was);
    }

pub returns-clause-is : goal.returns-clause-is
returns-clause-is c =
    let test = unaccepted_page c.args.descriptors.now in
    let end = c.args.pages.first + c.args.pages.count in
    sym (c.loop-page.invariant.all ∙ each_end test c.loop-page.page end c.loop-page-test.false)
