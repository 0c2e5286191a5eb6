use Rattle.std.proofs.Common.{◌∙◌, sym, ap}
use Rattle.std.specs.Prelude.{◌&&◌, is_some}
use Rattle.event_core.specs.declared.boot.Descriptor.{Descriptor}
use Rattle.event_core.specs.Map.{is_unaccepted, holds_page}
use Rattle.unaccepted_bitmap.proofs.FitLemmas.{find_any, around_found}
use Rattle.unaccepted_bitmap.proofs.fit.around.Goals as goal

pub returns-in_err-d-clause-is : goal.returns-in_err-d-clause-is
returns-in_err-d-clause-is c =
    let test = λ (d : Descriptor). is_unaccepted d && holds_page c.args.page d in
    ap is_some c.from_residual.ensures ∙ sym (ap is_some (sym c.holder.ensures ∙ c.in_err-d.was)) ∙ find_any test c.args.descriptors.now

pub returns-clause-is : goal.returns-clause-is
returns-clause-is c =
    let test = λ (d : Descriptor). is_unaccepted d && holds_page c.args.page d in
    sym (ap is_some (sym c.holder.ensures ∙ c.in_ok-d.was)) ∙ find_any test c.args.descriptors.now

pub returns-clause-known : goal.returns-clause-known
returns-clause-known c = around_found c.args.descriptors.now c.args.page c.in_ok-d.d (sym c.holder.ensures ∙ c.in_ok-d.was)
