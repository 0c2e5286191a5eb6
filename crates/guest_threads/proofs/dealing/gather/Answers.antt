use Rattle.std.proofs.Common.{◌≡◌, ◌<◌, All, [], ◌∷◌, ◌++◌, sym, ◌∙◌, ap, subst, get_or, length, arith, append_assoc, length-append, vec_len}
use Rattle.std.proofs.lemmas.List.{length-map, map-append}
use Rattle.std.proofs.lemmas.List.Elements.{All-get_or}
use Rattle.guest_threads.specs.declared.locks.Passes.{Passes}
use Rattle.guest_threads.specs.Dealt.{IsRoomFor}
use Rattle.guest_threads.proofs.DealLemmas.{all-middle}
use Rattle.guest_threads.proofs.dealing.gather.Goals as goal

pub push_reserved-requires : goal.push_reserved-requires
push_reserved-requires c =
    let inv = c.loop-passes.invariant in
    let before = c.loop-passes.yielded in
    let items = inv.items ∙ ap (λ l. before ++ l) c.in-Some.ensures.steps.0 in
    let n = length-append before (c.in-Some.passes ∷ c.next.new.self.rest.items) in
    let m = length-map before (λ (p : Passes). p.memory) in
    omega (arith, ap length items, n, m, ap length inv.memory, inv.memory_room, c.requires.memory.1, c.loop-passes.memory.ok.0)

pub put_away-requires-clause-count : goal.put_away-requires-clause-count
put_away-requires-clause-count c =
    let inv = c.loop-passes.invariant in
    let before = c.loop-passes.yielded in
    let items = inv.items ∙ ap (λ l. before ++ l) c.in-Some.ensures.steps.0 in
    let P : Passes → Type 0 = λ p. length p.areas.items ≡ vec_len c.args.areas.now in
    all-middle P before c.next.new.self.rest.items c.in-Some.passes (subst (All P) items c.requires.counts) ∙ sym inv.count

pub put_away-requires-clause-room : goal.put_away-requires-clause-room
put_away-requires-clause-room c = λ n d low.
    let inv = c.loop-passes.invariant in
    let before = c.loop-passes.yielded in
    let mine = c.in-Some.passes in
    let items = inv.items ∙ ap (λ l. before ++ l) c.in-Some.ensures.steps.0 in
    let k = length-append before (mine ∷ c.next.new.self.rest.items) in
    let low' : n < vec_len c.args.areas.now = omega (arith, low, inv.count) in
    let m = length-map before (λ (p : Passes). get_or p.areas.items n mine.memory) in
    let room = (All-get_or (IsRoomFor (length c.args.all.items)) c.args.areas.now.items n d (omega (arith, low', c.args.areas.now.ok.0)) c.requires.areas).1 in
    omega (arith, ap length items, k, m, ap length (inv.areas n d mine.memory low'), inv.capacity n d low', room, (get_or c.loop-passes.areas.items n d).ok.0)

pub loop-passes-preserved : goal.loop-passes-preserved
loop-passes-preserved c =
    let inv = c.loop-passes.invariant in
    let before = c.loop-passes.yielded in
    let mine = c.in-Some.passes in
    let after = c.next.new.self.rest.items in
    let items : c.args.all.items ≡ before ++ mine ∷ after = inv.items ∙ ap (λ l. before ++ l) c.in-Some.ensures.steps.0 in
    let push = c.push_reserved.ensures in
    let away = c.put_away.ensures in
    record {
      items = items ∙ sym (append_assoc before (mine ∷ []) after);
      memory = push.items ∙ ap (λ l. l ++ mine.memory ∷ []) inv.memory ∙ sym (map-append (λ (p : Passes). p.memory) before (mine ∷ []));
      memory_room = push.capacity ∙ inv.memory_room;
      count = away.count ∙ inv.count;
      capacity = λ n d low. (away.added n d mine.memory (omega (arith, low, inv.count))).capacity ∙ inv.capacity n d low;
      areas = λ n d e low.
          (away.added n d e (omega (arith, low, inv.count))).items ∙ ap (λ l. l ++ get_or mine.areas.items n e ∷ []) (inv.areas n d e low)
          ∙ sym (map-append (λ (p : Passes). get_or p.areas.items n e) before (mine ∷ []));
    }
