use Rattle.std.proofs.Common.{◌≡◌, ◌<◌, [], ◌∷◌, ◌++◌, sym, ◌∙◌, ap, subst, get_or, length, arith, append_assoc, length-append}
use Rattle.guest_threads.specs.Dealt.{Adds}
use Rattle.guest_threads.proofs.DealLemmas.{at-turn, turn-done, turn-later}
use Rattle.guest_threads.proofs.dealing.put_away.Goals as goal

pub index_mut-requires : goal.index_mut-requires
index_mut-requires c =
    let inv = c.loop-pass.invariant in
    let items = inv.items ∙ ap (λ l. c.loop-pass.yielded ++ l) c.in-Some.ensures.steps.0 in
    let n = length-append c.loop-pass.yielded (c.in-Some.pass ∷ c.next.new.self.rest.items) in
    omega (arith, ap length items, n, inv.area, inv.count, c.requires.count)

pub loop-pass-preserved : goal.loop-pass-preserved
loop-pass-preserved c =
    let inv = c.loop-pass.invariant in
    let pass = c.in-Some.pass in
    let before = c.loop-pass.yielded in
    let after = c.next.new.self.rest.items in
    let all = c.loop-pass.areas.items in
    let old = c.args.areas.now.items in
    let now = c.push_reserved.new.self in
    let was = c.index_mut.result.now in
    let items : c.args.passes.items ≡ before ++ pass ∷ after = inv.items ∙ ap (λ l. before ++ l) c.in-Some.ensures.steps.0 in
    let n = length-append before (pass ∷ after) in
    let m = length-append before (pass ∷ []) in
    let below : c.loop-pass.area < length all = omega (arith, ap length items, n, inv.area, inv.count, c.requires.count, c.loop-pass.areas.ok.0) in
    let turn : (e : _) → get_or c.args.passes.items c.loop-pass.area e ≡ pass = λ e. ap (λ k. get_or c.args.passes.items k e) inv.area ∙ at-turn c.args.passes.items before after pass e items in
    record {
      items = items ∙ sym (append_assoc before (pass ∷ []) after);
      area = omega (arith, inv.area, m);
      count = inv.count;
      done = turn-done Adds old all c.args.passes.items c.loop-pass.area now was below (sym c.index_mut.ensures.value)
          (λ e. subst (Adds was now) (sym (turn e)) (record { items = c.push_reserved.ensures.items; capacity = c.push_reserved.ensures.capacity })) inv.later inv.done;
      later = turn-later Adds old all c.args.passes.items c.loop-pass.area now was below inv.later;
    }

pub returns-clause-added : goal.returns-clause-added
returns-clause-added c = λ n d e low.
    let inv = c.loop-pass.invariant in
    let rest = c.loop-pass.pass-iterator.rest.items in
    inv.done n d e (omega (arith, low, inv.area, ap length inv.items, length-append c.loop-pass.yielded rest, c.in-None.ensures.steps.0, c.requires.count))
