use Rattle.std.proofs.Common.{rules, ◌≡◌, ◌≢◌, ◌<◌, ◌≤◌, ◌++◌, [], ◌∷◌, None, sym, ap, arith, append-nil, ◌^◌}
use Rattle.event_core.specs.declared.module_call.PortAnswer.TheVariants.{Ok as AnsweredOk}
use Rattle.guest_base.specs.declared.memory.Level.TheVariants.{Small}
use Rattle.guest_base.specs.declared.memory.Pages.{Pages}
use Rattle.accept_sizes.specs.Room.{most_calls_of}
use Rattle.accept_sizes.specs.Accepts.{span_end}
use Rattle.page_module.specs.Marking.{NonePending}
use Rattle.page_module.specs.Modules.{accept_call}
use Rattle.accept_sizes.proofs.Going.{length-calls, calls_left, within-of, found-run, found-may, was-not-small, left-here, done-left, left-first, going-done, going-failed, going-stopped, going-whole, small-failed, left-failed, after-done, after-undone, calls-push, going-start, span-end, found-some, before-span}
use Rattle.accept_sizes.proofs.accept.accept_run.Goals as goal

pub try_call-answer-requires-clause-room : goal.try_call-answer-requires-clause-room
try_call-answer-requires-clause-room g c =
    let inv = c.loop-run.invariant in
    let going = inv.done.3 in
    let found = found-run c.args.hosts.now c.args.span.now c.loop-run.span c.loop-run.from c.loop-run.tried inv.done.0 c.in-Some.run'.first c.in-Some.run'.count (within-of c.args.span.now c.pages-from.result c.pages-from.ensures.value c.pages-from.ensures.within) going c.in-Some.ensures.some in
    let left = left-here c.args.span.now c.loop-run.from c.in-Some.run'.first c.in-Some.run'.count c.loop-run.tried found (was-not-small c.loop-run.span c.loop-run.from c.loop-run.tried going.here) in
    omega (arith, left, inv.few, inv.room, c.requires.room)

pub try_call-answer-requires-clause-log_room : goal.try_call-answer-requires-clause-log_room
try_call-answer-requires-clause-log_room g c =
    let inv = c.loop-run.invariant in
    let going = inv.done.3 in
    let found = found-run c.args.hosts.now c.args.span.now c.loop-run.span c.loop-run.from c.loop-run.tried inv.done.0 c.in-Some.run'.first c.in-Some.run'.count (within-of c.args.span.now c.pages-from.result c.pages-from.ensures.value c.pages-from.ensures.within) going c.in-Some.ensures.some in
    let left = left-here c.args.span.now c.loop-run.from c.in-Some.run'.first c.in-Some.run'.count c.loop-run.tried found (was-not-small c.loop-run.span c.loop-run.from c.loop-run.tried going.here) in
    let made = length-calls (g.P.Port.made c.args.port.now) (g.P.Port.made c.loop-run.port) inv.done.0 inv.done.2 in
    let noted = length-calls c.args.log.now.calls c.loop-run.log.calls inv.done.0 inv.done.1 in
    omega (arith, left, inv.few, inv.log_room, made, noted, c.requires.log_room)

pub try_call-answer-requires-clause-may : goal.try_call-answer-requires-clause-may
try_call-answer-requires-clause-may g c =
    let inv = c.loop-run.invariant in
    found-may c.args.hosts.now c.args.span.now c.loop-run.span c.loop-run.from c.loop-run.tried inv.done.0 c.in-Some.run'.first c.in-Some.run'.count c.level_to_try-level.result inv.done.3 c.in-Some.ensures.some c.level_to_try-level.ensures

pub overflow_add-from : goal.overflow_add-from
overflow_add-from g c =
    let inv = c.loop-run.invariant in
    let going = inv.done.3 in
    let found = found-run c.args.hosts.now c.args.span.now c.loop-run.span c.loop-run.from c.loop-run.tried inv.done.0 c.in-Some.run'.first c.in-Some.run'.count (within-of c.args.span.now c.pages-from.result c.pages-from.ensures.value c.pages-from.ensures.within) going c.in-Some.ensures.some in
    let small = was-not-small c.loop-run.span c.loop-run.from c.loop-run.tried going.here in
    let left = done-left c.args.span.now c.loop-run.from c.in-Some.run'.first c.in-Some.run'.count c.loop-run.tried c.level_to_try-level.result c.level_to_try-level.ensures found small in
    let end : span_end c.args.span.now < 2 ^ 64 = span-end c.args.span.now c.pages-from.result c.pages-from.ensures.value c.pages-from.ensures.below (found-some c.args.span.now c.loop-run.from c.loop-run.tried c.in-Some.run'.first c.in-Some.run'.count found going.low) in
    omega (arith, left.0, c.pages.ensures, end)

pub loop-run-init : goal.loop-run-init
loop-run-init g c =
    let old = c.args.span.now in
    let is : c.pages-from.result.first ≡ old.ticket.pages.first = ap (λ (p : Pages). p.first) c.pages-from.ensures.value in
    let inside = within-of old c.pages-from.result c.pages-from.ensures.value c.pages-from.ensures.within in
    let left = left-first old.ticket.pages.first old.ticket.pages.count in
    let rooms : calls_left c.pages-from.result.first (span_end old) None ≤ most_calls_of old.ticket.pages.count = rw is left in
    record {
      done = ([], sym (append-nil c.args.log.now.calls), sym (append-nil (g.P.Port.made c.args.port.now)), going-start c.args.hosts.now old c.pages-from.result.first is inside (before-span old c.pages-from.result c.pages-from.ensures.within));
      high = omega (arith, is);
      few = omega (arith, rooms);
      room = omega arith;
      log_room = omega arith;
      faults = omega arith;
      never_fails = λ h. h;
    }

pub loop-run-smaller-then-eq : goal.loop-run-smaller-then-eq
loop-run-smaller-then-eq g c =
    let inv = c.loop-run.invariant in
    let going = inv.done.3 in
    let found = found-run c.args.hosts.now c.args.span.now c.loop-run.span c.loop-run.from c.loop-run.tried inv.done.0 c.in-Some.run'.first c.in-Some.run'.count (within-of c.args.span.now c.pages-from.result c.pages-from.ensures.value c.pages-from.ensures.within) going c.in-Some.ensures.some in
    let small = was-not-small c.loop-run.span c.loop-run.from c.loop-run.tried going.here in
    let left = done-left c.args.span.now c.loop-run.from c.in-Some.run'.first c.in-Some.run'.count c.loop-run.tried c.level_to_try-level.result c.level_to_try-level.ensures found small in
    rw c.pages.ensures (omega (arith, left.1))

pub loop-run-preserved-then-eq : goal.loop-run-preserved-then-eq
loop-run-preserved-then-eq g c =
    let inv = c.loop-run.invariant in
    let going = inv.done.3 in
    let found = found-run c.args.hosts.now c.args.span.now c.loop-run.span c.loop-run.from c.loop-run.tried inv.done.0 c.in-Some.run'.first c.in-Some.run'.count (within-of c.args.span.now c.pages-from.result c.pages-from.ensures.value c.pages-from.ensures.within) going c.in-Some.ensures.some in
    let small = was-not-small c.loop-run.span c.loop-run.from c.loop-run.tried going.here in
    let left = done-left c.args.span.now c.loop-run.from c.in-Some.run'.first c.in-Some.run'.count c.loop-run.tried c.level_to_try-level.result c.level_to_try-level.ensures found small in
    let done : c.try_call-answer.result ≡ AnsweredOk = search rules in
    let call = accept_call c.in-Some.run'.first c.level_to_try-level.result c.try_call-answer.result in
    let e = c.try_call-answer.ensures in
    let more = length-calls (g.P.Port.made c.loop-run.port) (g.P.Port.made c.try_call-answer.new.port) (call ∷ []) e.made in
    rw c.pages.ensures
    (record {
      done = (
        inv.done.0 ++ call ∷ [],
        calls-push c.args.log.now.calls c.loop-run.log.calls c.try_call-answer.new.log.calls inv.done.0 call inv.done.1 e.noted,
        calls-push (g.P.Port.made c.args.port.now) (g.P.Port.made c.loop-run.port) (g.P.Port.made c.try_call-answer.new.port) inv.done.0 call inv.done.2 e.made,
        going-done c.args.hosts.now c.args.span.now c.loop-run.span c.try_call-answer.new.span c.loop-run.from c.loop-run.tried inv.done.0 c.in-Some.run'.first c.in-Some.run'.count c.level_to_try-level.result c.try_call-answer.result going found c.in-Some.ensures.some c.level_to_try-level.ensures e.answer done
            (after-done c.loop-run.span c.try_call-answer.new.span _ _ _ e.after done),
      );
      high = left.0;
      few = omega (arith, left.1, more, inv.few);
      room = omega (arith, more, e.room, inv.room);
      log_room = omega (arith, length-calls c.loop-run.log.calls c.try_call-answer.new.log.calls (call ∷ []) e.noted, e.log_room, inv.log_room);
      faults = omega (arith, e.faults, inv.faults);
      never_fails = λ h. e.never_fails (inv.never_fails h);
    })

pub returns-then-eq-2-clause-calls : goal.returns-then-eq-2-clause-calls
returns-then-eq-2-clause-calls g c =
    let inv = c.loop-run.invariant in
    let going = inv.done.3 in
    let found = found-run c.args.hosts.now c.args.span.now c.loop-run.span c.loop-run.from c.loop-run.tried inv.done.0 c.in-Some.run'.first c.in-Some.run'.count (within-of c.args.span.now c.pages-from.result c.pages-from.ensures.value c.pages-from.ensures.within) going c.in-Some.ensures.some in
    let small = was-not-small c.loop-run.span c.loop-run.from c.loop-run.tried going.here in
    let undone : c.try_call-answer.result ≢ AnsweredOk = search rules in
    let at_small : c.level_to_try-level.result ≡ Small = search rules in
    let call = accept_call c.in-Some.run'.first c.level_to_try-level.result c.try_call-answer.result in
    let e = c.try_call-answer.ensures in
    let failed = small-failed c.args.hosts.now c.in-Some.run'.first c.level_to_try-level.result c.try_call-answer.result at_small e.answer undone in
    let stopped = going-stopped c.args.hosts.now c.args.span.now c.loop-run.span c.try_call-answer.new.span c.loop-run.from c.loop-run.tried inv.done.0 c.in-Some.run'.first c.in-Some.run'.count c.level_to_try-level.result c.try_call-answer.result going found c.level_to_try-level.ensures e.answer failed
    (after-undone c.loop-run.span c.try_call-answer.new.span _ _ _ e.after undone) at_small in (
      inv.done.0 ++ call ∷ [],
      calls-push c.args.log.now.calls c.loop-run.log.calls c.try_call-answer.new.log.calls inv.done.0 call inv.done.1 e.noted,
      calls-push (g.P.Port.made c.args.port.now) (g.P.Port.made c.loop-run.port) (g.P.Port.made c.try_call-answer.new.port) inv.done.0 call inv.done.2 e.made,
      stopped.0,
      stopped.1,
    )

pub loop-run-smaller : goal.loop-run-smaller
loop-run-smaller g c =
    let inv = c.loop-run.invariant in
    let going = inv.done.3 in
    let found = found-run c.args.hosts.now c.args.span.now c.loop-run.span c.loop-run.from c.loop-run.tried inv.done.0 c.in-Some.run'.first c.in-Some.run'.count (within-of c.args.span.now c.pages-from.result c.pages-from.ensures.value c.pages-from.ensures.within) going c.in-Some.ensures.some in
    let small = was-not-small c.loop-run.span c.loop-run.from c.loop-run.tried going.here in
    let big : c.level_to_try-level.result ≢ Small = search rules in
    let left = left-failed c.args.span.now c.loop-run.from c.in-Some.run'.first c.in-Some.run'.count c.loop-run.tried c.level_to_try-level.result c.level_to_try-level.ensures found small big in
    omega (arith, left)

pub loop-run-preserved : goal.loop-run-preserved
loop-run-preserved g c =
    let inv = c.loop-run.invariant in
    let going = inv.done.3 in
    let found = found-run c.args.hosts.now c.args.span.now c.loop-run.span c.loop-run.from c.loop-run.tried inv.done.0 c.in-Some.run'.first c.in-Some.run'.count (within-of c.args.span.now c.pages-from.result c.pages-from.ensures.value c.pages-from.ensures.within) going c.in-Some.ensures.some in
    let small = was-not-small c.loop-run.span c.loop-run.from c.loop-run.tried going.here in
    let undone : c.try_call-answer.result ≢ AnsweredOk = search rules in
    let big : c.level_to_try-level.result ≢ Small = search rules in
    let left = left-failed c.args.span.now c.loop-run.from c.in-Some.run'.first c.in-Some.run'.count c.loop-run.tried c.level_to_try-level.result c.level_to_try-level.ensures found small big in
    let call = accept_call c.in-Some.run'.first c.level_to_try-level.result c.try_call-answer.result in
    let e = c.try_call-answer.ensures in
    let below = found.below in
    let more = length-calls (g.P.Port.made c.loop-run.port) (g.P.Port.made c.try_call-answer.new.port) (call ∷ []) e.made in
    record {
      done = (
        inv.done.0 ++ call ∷ [],
        calls-push c.args.log.now.calls c.loop-run.log.calls c.try_call-answer.new.log.calls inv.done.0 call inv.done.1 e.noted,
        calls-push (g.P.Port.made c.args.port.now) (g.P.Port.made c.loop-run.port) (g.P.Port.made c.try_call-answer.new.port) inv.done.0 call inv.done.2 e.made,
        going-failed c.args.hosts.now c.args.span.now c.loop-run.span c.try_call-answer.new.span c.loop-run.from c.loop-run.tried inv.done.0 c.in-Some.run'.first c.in-Some.run'.count c.level_to_try-level.result c.try_call-answer.result going found c.in-Some.ensures.some c.level_to_try-level.ensures e.answer undone
            (after-undone c.loop-run.span c.try_call-answer.new.span _ _ _ e.after undone) big,
      );
      high = omega (arith, below);
      few = omega (arith, left, more, inv.few);
      room = omega (arith, more, e.room, inv.room);
      log_room = omega (arith, length-calls c.loop-run.log.calls c.try_call-answer.new.log.calls (call ∷ []) e.noted, e.log_room, inv.log_room);
      faults = omega (arith, e.faults, inv.faults);
      never_fails = λ h. e.never_fails (inv.never_fails h);
    }

pub returns-clause-calls : goal.returns-clause-calls
returns-clause-calls g c =
    let inv = c.loop-run.invariant in
    let none : NonePending c.loop-run.span c.loop-run.from = c.in_default.ensures.none in
    let whole = going-whole c.args.hosts.now c.args.span.now c.loop-run.span c.loop-run.from c.loop-run.tried inv.done.0 inv.done.3 none in
    (inv.done.0, inv.done.1, inv.done.2, whole.0, whole.1)

pub returns-then-eq-2-clause-few : goal.returns-then-eq-2-clause-few
returns-then-eq-2-clause-few g c =
    let inv = c.loop-run.invariant in
    let going = inv.done.3 in
    let found = found-run c.args.hosts.now c.args.span.now c.loop-run.span c.loop-run.from c.loop-run.tried inv.done.0 c.in-Some.run'.first c.in-Some.run'.count (within-of c.args.span.now c.pages-from.result c.pages-from.ensures.value c.pages-from.ensures.within) going c.in-Some.ensures.some in
    let left = left-here c.args.span.now c.loop-run.from c.in-Some.run'.first c.in-Some.run'.count c.loop-run.tried found (was-not-small c.loop-run.span c.loop-run.from c.loop-run.tried going.here) in
    let call = accept_call c.in-Some.run'.first c.level_to_try-level.result c.try_call-answer.result in
    let more = length-calls (g.P.Port.made c.loop-run.port) (g.P.Port.made c.try_call-answer.new.port) (call ∷ []) c.try_call-answer.ensures.made in
    omega (arith, left, more, inv.few)
