use Rattle.std.proofs.Common.{◌≡◌, All, [], ◌∷◌, ◌++◌, refl, sym, ◌∙◌, ap, subst, get_or, length, arith, append_assoc, length-append}
use Rattle.std.proofs.lemmas.List.Elements.{All-get_or, All-nil, All-push}
use Rattle.claim_lock.specs.Seen.{LockSeen}
use Rattle.guest_threads.specs.declared.locks.Passes.{Passes}
use Rattle.guest_threads.specs.Dealt.{first_passes}
use Rattle.guest_threads.proofs.LockLemmas.{area-count, area-dealt, none-first}
use Rattle.guest_threads.proofs.dealing.lock_areas.Goals as goal

pub loop-area-init : goal.loop-area-init
loop-area-init c =
    record {
      items = sym c.into_iter-area-iterator.ensures.into_iter_gives.0;
      all = refl;
      count = ap length c.in_ok-locks.ensures.items;
      seats = subst (All (λ (l : LockSeen). l.seats ≡ c.args.seats)) (sym c.in_ok-locks.ensures.items) (All-nil (λ (l : LockSeen). l.seats ≡ c.args.seats));
      memory = λ k d low. refl;
      passes = λ k d low.
          All-get_or (λ (p : Passes). p.areas.items ≡ []) c.args.all.now.items k d (omega (arith, low, c.args.all.now.ok.0)) c.requires.none ∙ none-first k ∙ ap (λ l. first_passes l [] k) (sym c.in_ok-locks.ensures.items);
    }

pub hand_out-requires : goal.hand_out-requires
hand_out-requires c =
    let inv = c.loop-area.invariant in
    let dealt = c.in_ok-lock.passes in
    let count = area-count c.in_ok-lock.lock c.in-Some.area c.args.seats dealt.items c.in_ok-lock.ensures.passes in
    omega (arith, count, dealt.ok.0, inv.all, c.requires.count)

pub loop-area-preserved : goal.loop-area-preserved
loop-area-preserved c =
    let inv = c.loop-area.invariant in
    let before = c.loop-area.yielded in
    let area = c.in-Some.area in
    let after = c.next.new.self.rest.items in
    let lock = c.in_ok-lock.lock in
    let dealt = c.in_ok-lock.passes.items in
    let locks = c.loop-area.locks.items in
    let items : c.args.areas.items ≡ before ++ area ∷ after = inv.items ∙ ap (λ l. before ++ l) c.in-Some.ensures.steps.0 in
    let a = length-append before (area ∷ []) in
    let b = length-append locks (lock ∷ []) in
    let push = c.in_ok-push.ensures.items in
    let gains = c.in_ok-hand_out.ensures.gains in
    record {
      items = items ∙ sym (append_assoc before (area ∷ []) after);
      all = c.in_ok-hand_out.ensures.count ∙ inv.all;
      count = omega (arith, ap length push, a, b, inv.count);
      seats = subst (All (λ (l : LockSeen). l.seats ≡ c.args.seats)) (sym push) (All-push (λ (l : LockSeen). l.seats ≡ c.args.seats) locks lock inv.seats c.in_ok-lock.ensures.lock);
      memory = λ k d low. (gains k d d.memory (omega (arith, low, inv.all))).memory ∙ inv.memory k d low;
      passes = λ k d low.
          subst (λ l. (get_or c.hand_out.new.all.items k d).areas.items ≡ first_passes l (before ++ area ∷ []) k) (sym push)
          (area-dealt locks before lock area c.args.seats dealt k d.memory (get_or c.loop-area.all.items k d).areas.items (get_or c.hand_out.new.all.items k d).areas.items c.in_ok-lock.ensures.lock c.in_ok-lock.ensures.passes
          (omega (arith, low, c.requires.count)) inv.count (gains k d d.memory (omega (arith, low, inv.all))).areas (inv.passes k d low));
    }
