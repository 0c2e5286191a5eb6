use Rattle.std.proofs.Common.{ℕ, ◌+◌, ◌-◌, ◌*◌, List, ◌∷◌, [], length, ◌∙◌, ap, arith}
use Rattle.std.proofs.lemmas.List.Sums.{sum_by-append}
use Rattle.event_core.specs.Runs.{state_in}
use Rattle.guest_base.specs.declared.memory.PageRun.{PageRun}
use Rattle.page_module.specs.Spans.{Taken}
use Rattle.page_module.specs.Tables.{run_count, Table}
use Rattle.page_module.specs.Building.{places}
use Rattle.page_module.specs.declared.ticket.Ticket.{Ticket}
use Rattle.page_module.proofs.TableLemmas.{take-facts, cut-out, take-states, take-rest, take-alone, take-here}
use Rattle.page_module.proofs.OutLemmas.{all-out-more}
use Rattle.page_module.proofs.table.PageTable.take.Goals as goal

pub copies_of-runs-requires-clause-ends : goal.copies_of-runs-requires-clause-ends
copies_of-runs-requires-clause-ends c =
    let facts = take-facts c.self.view_is c.self.invariant.rising c.self.invariant.differing c.requires.here c.requires.room in
    facts.may.ends

pub copies_of-runs-requires-clause-pages : goal.copies_of-runs-requires-clause-pages
copies_of-runs-requires-clause-pages c =
    let facts = take-facts c.self.view_is c.self.invariant.rising c.self.invariant.differing c.requires.here c.requires.room in
    facts.may.memory

pub cut_out-requires-clause-ends : goal.cut_out-requires-clause-ends
cut_out-requires-clause-ends c =
    let facts = take-facts c.self.view_is c.self.invariant.rising c.self.invariant.differing c.requires.here c.requires.room in
    facts.may.ends

pub cut_out-requires-clause-pages : goal.cut_out-requires-clause-pages
cut_out-requires-clause-pages c =
    let facts = take-facts c.self.view_is c.self.invariant.rising c.self.invariant.differing c.requires.here c.requires.room in
    facts.may.memory

pub copies_of-runs-requires-clause-room : goal.copies_of-runs-requires-clause-room
copies_of-runs-requires-clause-room c =
    let facts = take-facts c.self.view_is c.self.invariant.rising c.self.invariant.differing c.requires.here c.requires.room in
    rw c.replace-spare.ensures.value (omega (arith, facts.may.few, facts.enough, c.self.invariant.spare_room))

pub cut_out-requires-clause-room : goal.cut_out-requires-clause-room
cut_out-requires-clause-room c =
    let facts = take-facts c.self.view_is c.self.invariant.rising c.self.invariant.differing c.requires.here c.requires.room in
    let empty = ap (λ (l : List _). length l) c.self.invariant.next_empty in
    omega (arith, facts.may.few, facts.enough, facts.may.left, empty, c.self.invariant.next_room, c.self.inside.next.ok.0)

pub overflow_sub-ticket : goal.overflow_sub-ticket
overflow_sub-ticket c =
    let facts = take-facts c.self.view_is c.self.invariant.rising c.self.invariant.differing c.requires.here c.requires.room in
    omega (arith, facts.may.few, facts.enough, c.copies_of-runs.ensures.len, c.len-count.ensures)

pub overflow_add-ticket : goal.overflow_add-ticket
overflow_add-ticket c =
    let facts = take-facts c.self.view_is c.self.invariant.rising c.self.invariant.differing c.requires.here c.requires.room in
    omega (arith, facts.may.few, facts.enough, c.copies_of-runs.ensures.len, c.len-count.ensures, c.self.invariant.spare_room, c.self.inside.spare.small)

pub places_of-requires : goal.places_of-requires
places_of-requires c =
    let facts = take-facts c.self.view_is c.self.invariant.rising c.self.invariant.differing c.requires.here c.requires.room in
    omega (arith, facts.may.few, facts.enough, c.copies_of-runs.ensures.len, c.len-count.ensures, c.self.invariant.spare_room, c.self.inside.spare.small)

pub overflow_add-self : goal.overflow_add-self
overflow_add-self c =
    let facts = take-facts c.self.view_is c.self.invariant.rising c.self.invariant.differing c.requires.here c.requires.room in
    omega (arith, facts.may.few, facts.enough, c.copies_of-runs.ensures.len, c.len-count.ensures, c.places_of.ensures, c.self.invariant.runs_room, c.self.inside.runs.small)

pub new-requires-2-clause-runs : goal.new-requires-2-clause-runs
new-requires-2-clause-runs c =
    let facts = take-facts c.self.view_is c.self.invariant.rising c.self.invariant.differing c.requires.here c.requires.room in
    rw c.copies_of-runs.ensures.items facts.may.follow

pub new-requires-2-clause-ends : goal.new-requires-2-clause-ends
new-requires-2-clause-ends c =
    let facts = take-facts c.self.view_is c.self.invariant.rising c.self.invariant.differing c.requires.here c.requires.room in
    facts.may.memory

pub returns-clause-low : goal.returns-clause-low
returns-clause-low c =
    let facts = take-facts c.self.view_is c.self.invariant.rising c.self.invariant.differing c.requires.here c.requires.room in
    facts.may.memory

pub returns-clause-states : goal.returns-clause-states
returns-clause-states c =
    λ page. ap (λ (v : Taken). state_in v.runs page) c.new-2.ensures
    ∙ take-states c.args.self.now c.self.inside.runs.items c.self.inside.out.items c.self.inside.room c.args.pages c.copies_of-runs.result.items page c.self.view_is
    c.copies_of-runs.ensures.items

pub returns-clause-rest : goal.returns-clause-rest
returns-clause-rest c =
    λ page. ap (λ (l : List PageRun). state_in l page) c.renew.ensures.runs
    ∙ take-rest c.args.self.now c.self.inside.runs.items c.self.inside.next.items c.cut_out.new.next.items c.self.inside.out.items c.self.inside.room c.args.pages page c.self.view_is
    c.self.invariant.rising c.self.invariant.next_empty c.cut_out.ensures.items

pub returns-clause-alone : goal.returns-clause-alone
returns-clause-alone c =
    take-alone c.args.self.now c.self.inside.runs.items c.self.inside.out.items c.self.inside.room c.args.pages c.self.view_is c.self.invariant.apart c.requires.here

pub returns-clause-room : goal.returns-clause-room
returns-clause-room c =
    let facts = take-facts c.self.view_is c.self.invariant.rising c.self.invariant.differing c.requires.here c.requires.room in
    let room = ap (λ (v : Taken). v.ticket.room) c.new-2.ensures in
    let was = ap (λ (t : Table). t.room) c.self.view_is in
    let same = ap (λ (t : Table). run_count (state_in t.runs) c.args.pages) c.self.view_is in
    omega (arith, facts.may.few, facts.enough, c.copies_of-runs.ensures.len, c.len-count.ensures, room, was, same)

pub invariant_of-self : goal.invariant_of-self
invariant_of-self c =
    let facts = take-facts c.self.view_is c.self.invariant.rising c.self.invariant.differing c.requires.here c.requires.room in
    let old = c.self.inside.runs.items in
    let out = c.self.inside.out.items in
    let cuts = cut-out old c.self.inside.next.items c.renew.new.runs.items c.args.pages
    c.self.invariant.rising c.self.invariant.next_empty (c.renew.ensures.runs ∙ c.cut_out.ensures.items) in
    let count : ℕ = c.len-count.result in
    let ticket : Ticket = record { pages = c.args.pages; runs = count; room = c.self.inside.room - (2 * count + 2) } in
    let sum = sum_by-append places out (ticket ∷ []) in
    let empty = ap (λ (l : List PageRun). length l) c.self.invariant.next_empty in
    let now = ap (λ (l : List PageRun). length l) c.renew.ensures.runs in
    let long = c.cut_out.new.next.ok.0 in
    record {
      rising = cuts.rising;
      differing = cuts.differing;
      apart = rw c.push_reserved.ensures.items
          (all-out-more old c.renew.new.runs.items out ticket c.self.invariant.apart
          (take-here c.args.self.now old out c.self.inside.room c.args.pages c.self.view_is c.requires.here) cuts.states);
      next_empty = c.renew.ensures.next;
      spare_empty = ap (λ (v : _). v.items) c.replace-spare.ensures.after ∙ c.new.ensures.items;
      kept_is = rw (c.push_reserved.ensures.items, sum) (omega (arith, c.self.invariant.kept_is, c.places_of.ensures));
      runs_room = omega (arith, facts.may.few, facts.may.left, facts.enough, c.copies_of-runs.ensures.len, c.len-count.ensures, c.places_of.ensures, empty, now, long, c.self.inside.next.ok.0, c.cut_out.ensures.len, c.cut_out.ensures.capacity, c.renew.ensures.capacity, c.self.invariant.next_room);
      next_room = omega (arith, facts.may.few, facts.may.left, facts.enough, c.copies_of-runs.ensures.len, c.len-count.ensures, c.places_of.ensures, empty, now, long, c.self.inside.next.ok.0, c.cut_out.ensures.len, c.renew.ensures.next_capacity, c.self.invariant.runs_room);
      spare_room = omega arith;
      out_room = λ l. absurd (omega arith);
    }
