use Rattle.std.proofs.Common.{List, length, ◌∙◌, ap, arith}
use Rattle.guest_base.specs.declared.memory.PageRun.{PageRun}
use Rattle.page_module.specs.declared.ticket.Ticket.{Ticket}
use Rattle.page_module.proofs.OutLemmas.{all-out-less}
use Rattle.page_module.proofs.PutLemmas.{put-back, put-facts, put-states, put-outside}
use Rattle.page_module.proofs.table.PageTable.put.Goals as goal

pub join_placed-requires-clause-ends : goal.join_placed-requires-clause-ends
join_placed-requires-clause-ends c =
    let from = c.into_parts-runs.ensures in
    let facts = put-facts c.self.view_is from.ticket c.self.invariant.rising c.self.invariant.kept_is c.requires from.runs from.few from.ends in
    facts.ends

pub join_placed-requires-clause-taken_ends : goal.join_placed-requires-clause-taken_ends
join_placed-requires-clause-taken_ends c =
    let from = c.into_parts-runs.ensures in
    let facts = put-facts c.self.view_is from.ticket c.self.invariant.rising c.self.invariant.kept_is c.requires from.runs from.few from.ends in
    facts.inner

pub join_placed-requires-clause-room : goal.join_placed-requires-clause-room
join_placed-requires-clause-room c =
    let from = c.into_parts-runs.ensures in
    let facts = put-facts c.self.view_is from.ticket c.self.invariant.rising c.self.invariant.kept_is c.requires from.runs from.few from.ends in
    let empty = ap (λ (l : List PageRun). length l) c.self.invariant.next_empty in
    omega (arith, facts.long, facts.sum, empty, c.self.invariant.next_room, c.self.inside.next.ok.0)

pub places_of-requires : goal.places_of-requires
places_of-requires c =
    let from = c.into_parts-runs.ensures in
    let facts = put-facts c.self.view_is from.ticket c.self.invariant.rising c.self.invariant.kept_is c.requires from.runs from.few from.ends in
    omega (arith, facts.sum, c.self.invariant.next_room, c.self.inside.next.small, c.self.inside.next.ok.1)

pub overflow_sub-self : goal.overflow_sub-self
overflow_sub-self c =
    let from = c.into_parts-runs.ensures in
    let facts = put-facts c.self.view_is from.ticket c.self.invariant.rising c.self.invariant.kept_is c.requires from.runs from.few from.ends in
    omega (arith, facts.sum)

pub invariant_of-self : goal.invariant_of-self
invariant_of-self c =
    let from = c.into_parts-runs.ensures in
    let facts = put-facts c.self.view_is from.ticket c.self.invariant.rising c.self.invariant.kept_is c.requires from.runs from.few from.ends in
    let old = c.self.inside.runs.items in
    let ticket = c.into_parts-runs.result.0 in
    let back = put-back old c.self.inside.next.items c.renew.new.runs.items ticket c.into_parts-runs.result.1.items c.self.inside.out.items
    c.self.invariant.rising c.self.invariant.apart facts.out_is facts.follow facts.memory c.self.invariant.next_empty
    (c.renew.ensures.runs ∙ c.join_placed.ensures.items) in
    let empty = ap (λ (l : List PageRun). length l) c.self.invariant.next_empty in
    let before = c.self.inside.next.ok.0 in
    let long = c.join_placed.new.next.ok.0 in
    let now = ap (λ (l : List PageRun). length l) c.renew.ensures.runs in
    let left = ap (λ (l : List Ticket). length l) c.remove_ticket.ensures.out in
    record {
      rising = back.rising;
      differing = back.differing;
      apart = rw c.remove_ticket.ensures.out
          (all-out-less old c.renew.new.runs.items c.self.inside.out.items ticket c.self.invariant.apart facts.out_is
          (λ page f. put-outside old c.renew.new.runs.items ticket c.into_parts-runs.result.1.items back page f));
      next_empty = c.renew.ensures.next;
      spare_empty = c.give_back.ensures.empty;
      kept_is = rw c.remove_ticket.ensures.out (omega (arith, facts.sum, c.places_of.ensures));
      runs_room = omega (arith, facts.long, facts.sum, empty, before, long, now, c.join_placed.ensures.len, c.join_placed.ensures.capacity, c.renew.ensures.capacity, c.self.invariant.next_room, c.give_back.ensures.room, c.places_of.ensures);
      next_room = omega (arith, facts.long, facts.sum, empty, before, long, now, c.join_placed.ensures.len, c.renew.ensures.next_capacity, c.self.invariant.runs_room, c.give_back.ensures.room, c.places_of.ensures);
      spare_room = c.give_back.ensures.fits;
      out_room = λ l. omega (arith, facts.fewer, left, c.remove_ticket.ensures.capacity, c.self.inside.out.ok.0, c.self.inside.out.ok.1);
    }

pub returns-clause-states : goal.returns-clause-states
returns-clause-states c page =
    let from = c.into_parts-runs.ensures in
    let facts = put-facts c.self.view_is from.ticket c.self.invariant.rising c.self.invariant.kept_is c.requires from.runs from.few from.ends in
    let back = put-back c.self.inside.runs.items c.self.inside.next.items c.renew.new.runs.items c.into_parts-runs.result.0 c.into_parts-runs.result.1.items
    c.self.inside.out.items c.self.invariant.rising c.self.invariant.apart facts.out_is facts.follow facts.memory c.self.invariant.next_empty
    (c.renew.ensures.runs ∙ c.join_placed.ensures.items) in
    put-states c.args.self.now c.self.inside.runs.items c.renew.new.runs.items c.self.inside.out.items c.self.inside.room c.args.span
    c.into_parts-runs.result.0 c.into_parts-runs.result.1.items page c.self.view_is from.ticket from.states back
