use Rattle.std.proofs.Common.{◌≡◌, ◌<◌, ℕ, List, [], ◌∷◌, ◌++◌, sym, ◌∙◌, ap, subst, get_or, length, arith, append_assoc, length-append}
use Rattle.std.specs.Prelude.{Vec}
use Rattle.std.specs.declared.alloc.Global.{Global}
use Rattle.std.proofs.lemmas.List.{get_or-set_other, get_or_default}
use Rattle.claim_lock.specs.Seen.{PassSeen}
use Rattle.io_areas.specs.Value.{AreaValue}
use Rattle.guest_threads.specs.Dealt.{AreAllOf, Opened}
use Rattle.guest_threads.proofs.DealLemmas.{at-turn, pushed}
use Rattle.guest_threads.proofs.dealing.open_areas.Goals as goal

pub index_mut-requires : goal.index_mut-requires
index_mut-requires c =
    let inv = c.loop-lock.invariant in
    let items = inv.items ∙ ap (λ l. c.loop-lock.yielded ++ l) c.in-Some.ensures.steps.0 in
    let n = length-append c.loop-lock.yielded (c.in-Some.lock ∷ c.next.new.self.rest.items) in
    omega (arith, ap length items, n, inv.back, inv.count, c.requires.count, c.len-at.ensures, c.args.locks.ok.0, c.loop-lock.opened.ok.0)

pub open_area-requires : goal.open_area-requires
open_area-requires c =
    let inv = c.loop-lock.invariant in
    let before = c.loop-lock.yielded in
    let lock = c.in-Some.lock in
    let after = c.next.new.self.rest.items in
    let was = c.index_mut.result.now in
    let n = c.len-at.result in
    let items : c.args.locks.items ≡ before ++ lock ∷ after = inv.items ∙ ap (λ l. before ++ l) c.in-Some.ensures.steps.0 in
    let k = length-append before (lock ∷ after) in
    let at : n ≡ length before = omega (arith, c.len-at.ensures, c.loop-lock.opened.ok.0, inv.back) in
    let low : n < length c.args.locks.items = omega (arith, at, ap length items, k) in
    let is_lock : get_or c.args.locks.items n lock ≡ lock = ap (λ m. get_or c.args.locks.items m lock) at ∙ at-turn c.args.locks.items before after lock lock items in
    let is_back : get_or c.args.passes.items n was ≡ c.replace-back.result =
    sym (c.replace-back.ensures.value ∙ c.index_mut.ensures.value ∙ inv.later n was (omega (arith, c.len-at.ensures, c.loop-lock.opened.ok.0))) in
    subst (λ l. AreAllOf l c.replace-back.result.items) is_lock
    (subst (λ v. AreAllOf (get_or c.args.locks.items n lock) v.items) is_back (c.requires.all n lock was (omega (arith, low, c.args.locks.ok.0))))

pub loop-lock-preserved : goal.loop-lock-preserved
loop-lock-preserved c =
    let inv = c.loop-lock.invariant in
    let before = c.loop-lock.yielded in
    let lock = c.in-Some.lock in
    let after = c.next.new.self.rest.items in
    let was = c.index_mut.result.now in
    let n = c.len-at.result in
    let opened = c.loop-lock.opened.items in
    let area = c.open_area.result in
    let items : c.args.locks.items ≡ before ++ lock ∷ after = inv.items ∙ ap (λ l. before ++ l) c.in-Some.ensures.steps.0 in
    let here : n ≡ length opened = omega (arith, c.len-at.ensures, c.loop-lock.opened.ok.0) in
    let k = length-append before (lock ∷ after) in
    let low : n < length c.args.passes.items = omega (arith, here, inv.back, ap length items, k, c.requires.count, c.args.passes.ok.0, c.args.locks.ok.0) in
    let is_back : (d : Vec PassSeen Global) → get_or c.args.passes.items (length opened) d ≡ c.replace-back.result = λ d.
    ap (λ m. get_or c.args.passes.items m d) (sym here) ∙ get_or_default c.args.passes.items n d was low ∙ sym (inv.later n was (omega (arith, here))) ∙ sym c.index_mut.ensures.value ∙ sym c.replace-back.ensures.value in
    let R : Vec PassSeen Global → AreaValue → Type 0 = λ v x. Opened v.items x in
    let a = length-append opened (area ∷ []) in
    let b = length-append before (lock ∷ []) in
    record {
      items = items ∙ sym (append_assoc before (lock ∷ []) after);
      back = omega (arith, ap length c.push_reserved.ensures.items, a, b, inv.back);
      room = c.push_reserved.ensures.capacity ∙ inv.room;
      count = inv.count;
      later = λ m d past.
          get_or-set_other c.loop-lock.passes.items n m _ d (λ same. omega (arith, same, here, past, a, ap length c.push_reserved.ensures.items)) ∙ inv.later m d (omega (arith, past, a, ap length c.push_reserved.ensures.items));
      opened = subst (λ l. (m : ℕ) (d : Vec PassSeen Global) (e : AreaValue) → m < length l → R (get_or c.args.passes.items m d) (get_or l m e)) (sym c.push_reserved.ensures.items)
          (λ m d e under. pushed R c.args.passes.items opened area inv.opened (λ x. subst (λ v. R v area) (sym (is_back x)) c.open_area.ensures) m d e (omega (arith, under, a)));
    }

pub returns-clause-opened : goal.returns-clause-opened
returns-clause-opened c = λ n d e low.
    let inv = c.loop-lock.invariant in
    let rest = c.loop-lock.lock-iterator.rest.items in
    inv.opened n d e (omega (arith, low, inv.back, ap length inv.items, length-append c.loop-lock.yielded rest, c.in-None.ensures.steps.0, c.args.locks.ok.0))
