use Rattle.std.proofs.Common.{refl, arith}
use Rattle.page_module.proofs.TableLemmas.{rising-ends, built}
use Rattle.page_module.proofs.table.PageTable.new.Goals as goal

pub join_all-requires-clause-ends : goal.join_all-requires-clause-ends
join_all-requires-clause-ends c = rw c.as_slice-given.ensures (rising-ends _ _ c.requires)

pub invariant_of-result : goal.invariant_of-result
invariant_of-result c =
    let b = built c.in_ok-own.own.items c.args.runs.now c.join_all.new.next.items c.in_ok-own.ensures.items (rw (← c.as_slice-given.ensures) c.join_all.ensures.items) c.requires in
    record {
      rising = b.rising;
      differing = b.differing;
      apart = rw c.new.ensures.items tt;
      next_empty = c.in_ok-next.ensures.items;
      spare_empty = c.new-2.ensures.items;
      kept_is = rw c.new.ensures.items refl;
      runs_room = (let k = c.join_all.new.next.ok.0 in let m = c.join_all.new.next.ok.1 in omega arith);
      next_room = (let k = c.join_all.new.next.ok.0 in let l = c.join_all.ensures.len in let o = c.in_ok-own.ensures.len in let m = c.in_ok-next.ensures.capacity in omega arith);
      spare_room = omega arith;
      out_room = λ l. absurd (omega arith);
    }

pub returns-clause-states : goal.returns-clause-states
returns-clause-states c page =
    (built c.in_ok-own.own.items c.args.runs.now c.join_all.new.next.items c.in_ok-own.ensures.items (rw (← c.as_slice-given.ensures) c.join_all.ensures.items) c.requires).states page
