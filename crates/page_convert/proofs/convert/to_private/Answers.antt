use Rattle.std.proofs.Common.{◌≡◌, ◌∷◌, true, ap, arith, rules}
use Rattle.event_core.specs.declared.module_call.CallKind.TheVariants.{Unshare}
use Rattle.event_core.specs.declared.module_call.PortAnswer.TheVariants.{Ok as AnsweredOk}
use Rattle.page_module.specs.Logged.{calls_in, room_in}
use Rattle.page_module.specs.Modules.{span_call}
use Rattle.accept_sizes.specs.Room.{most_calls_of}
use Rattle.page_convert.specs.Conversions.{is_shared_span}
use Rattle.page_convert.proofs.SpanLemmas.{adds-behind, back-converts}
use Rattle.page_convert.proofs.convert.to_private.Goals as goal

pub returns-in-Ok-clause-calls : goal.returns-in-Ok-clause-calls
returns-in-Ok-clause-calls g c =
    let old = c.args.span.now in
    let back = c.in-Ok.ensures in
    let by = c.accept_pending-in-Ok.ensures.calls in
    let call = span_call Unshare old AnsweredOk in
    let shared : is_shared_span old ≡ true = search rules in
    let count = ap (λ t. most_calls_of t.pages.count) back.made.marked.ticket in
    let few = by.5 in (
      call ∷ by.0,
      back-converts c.args.hosts.now old c.take_back.new.span c.accept_pending-in-Ok.new.span by.0 c.accept_pending-in-Ok.result shared back.made.marked by.1 by.2,
      adds-behind g.P.Port.made g.P.Port.room c.args.port.now c.take_back.new.port c.accept_pending-in-Ok.new.port call by.0 (record { added = back.made.recorded; room_used = back.made.room_used }) by.3,
      adds-behind calls_in room_in c.args.log.now c.take_back.new.log c.accept_pending-in-Ok.new.log call by.0 back.noted by.4,
      omega (arith, few, count),
    )
