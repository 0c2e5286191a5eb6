use Rattle.std.proofs.Common.{[], ◌∷◌, ◌++◌, Some, Ok, sym, ◌∙◌, ap, map, length, arith, length-append}
use Rattle.guest_threads.specs.declared.places.Place.{Place}
use Rattle.guest_threads.specs.Places.{passes_at, processors_at}
use Rattle.guest_threads.proofs.PlaceLemmas.{goes-over, passes-last, passes-push, processors-push}
use Rattle.guest_threads.proofs.places.seat_all.Goals as goal

pub loop-mine-preserved : goal.loop-mine-preserved
loop-mine-preserved g c =
    let inv = c.loop-mine.invariant in
    let places = c.loop-mine.places.items in
    let place : Place g.row.T.Denot = record { processor = c.take_last.result; passes = Some c.in-Some.mine; answer = Ok tt } in
    let is = c.push_reserved.ensures.items in
    let n = length-append c.pop.new.self.items (c.in-Some.mine ∷ []) in
    let m = length-append c.take_last.new.self.items (c.take_last.result ∷ []) in
    let k = length-append places (place ∷ []) in
    record {
      count = omega (arith, inv.count, n, m, ap length c.in-Some.ensures.items, ap length c.take_last.ensures.items);
      held = goes-over c.args.processors.now.items c.loop-mine.processors.items c.take_last.new.self.items (processors_at places) c.take_last.result inv.held c.take_last.ensures.items
          ∙ ap (λ l. c.take_last.new.self.items ++ l) (sym (ap processors_at is ∙ processors-push places place));
      passes = goes-over (map Some c.args.passes.now.items) (map Some c.loop-mine.passes.items) (map Some c.pop.new.self.items) (passes_at places) (Some c.in-Some.mine) inv.passes
          (passes-last c.loop-mine.passes.items c.pop.new.self.items c.in-Some.mine c.in-Some.ensures.items)
          ∙ ap (λ l. map Some c.pop.new.self.items ++ l) (sym (ap passes_at is ∙ passes-push places place));
      room = omega (arith, inv.room, n, k, ap length c.in-Some.ensures.items, ap length is, c.push_reserved.ensures.capacity);
      processor_room = c.take_last.ensures.capacity ∙ inv.processor_room;
      pass_room = c.in-Some.ensures.capacity ∙ inv.pass_room;
    }
