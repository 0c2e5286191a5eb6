use Rattle.std.proofs.Common.{◌≡◌, [], ◌∷◌, ◌++◌, Some, refl, sym, ◌∙◌, ap, subst, map, length, arith, length-append, OnOk, All, Any, Err, Result}
use Rattle.std.proofs.lemmas.List.Elements.{All-pop}
use Rattle.event_core.specs.declared.clock.NoRoom.{NoRoom}
use Rattle.guest_threads.specs.Places.{HasPasses, IsFinished, IsRefused, passes_at, processors_at}
use Rattle.guest_threads.proofs.PlaceLemmas.{comes-over, finished-then, passes-last, passes-push, processors-push, refused-then, within-then}
use Rattle.guest_threads.proofs.places.leave_all.Goals as goal

pub loop-place-preserved : goal.loop-place-preserved
loop-place-preserved g c =
    let inv = c.loop-place.invariant in
    let place = c.in-Some.place in
    let all = c.args.places.items in
    let left = c.pop.new.self.items in
    let last : c.loop-place.places.items ≡ left ++ place ∷ [] = c.in-Some.ensures.items in
    let passes = c.push_reserved-in-Some in
    let n = length-append left (place ∷ []) in
    let m = length-append c.loop-place.processors.items (place.processor ∷ []) in
    let k = length-append c.loop-place.passes.items (c.in-Some-back.mine ∷ []) in
    record {
      processors = comes-over (processors_at all) c.loop-place.processors.items (processors_at left) place.processor (inv.processors ∙ ap (λ l. c.loop-place.processors.items ++ l) (ap processors_at last ∙ processors-push left place))
          ∙ ap (λ l. l ++ processors_at left) (sym c.push_reserved.ensures.items);
      passes = comes-over (passes_at all) (map Some c.loop-place.passes.items) (passes_at left) (Some c.in-Some-back.mine)
          (inv.passes ∙ ap (λ l. map Some c.loop-place.passes.items ++ l) (ap passes_at last ∙ passes-push left place ∙ ap (λ p. p ∷ passes_at left) c.in-Some-back.is))
          ∙ ap (λ l. l ++ passes_at left) (sym (passes-last passes.new.self.items c.loop-place.passes.items c.in-Some-back.mine passes.ensures.items));
      has = (All-pop HasPasses c.loop-place.places.items left (Some place) last inv.has).0;
      processor_room = omega (arith, inv.processor_room, n, m, ap length last, ap length c.push_reserved.ensures.items, c.push_reserved.ensures.capacity);
      pass_room = omega (arith, inv.pass_room, n, k, ap length last, ap length passes.ensures.items, passes.ensures.capacity);
      fine = subst (λ r. OnOk r (All IsFinished left → All IsFinished all)) (sym c.and-refused.ensures) (finished-then all c.loop-place.places.items left place last c.loop-place.refused inv.fine place.answer refl);
      within = within-then all c.loop-place.places.items left place last inv.within;
      refused = subst (λ (r : Result Unit NoRoom). (refusal : NoRoom) → r ≡ Err refusal → Any (IsRefused refusal) all) (sym c.and-refused.ensures) (refused-then all c.loop-place.places.items left place last inv.within c.loop-place.refused place.answer inv.refused refl);
    }
