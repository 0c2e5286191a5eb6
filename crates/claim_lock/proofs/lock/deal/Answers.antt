use Rattle.std.proofs.Common.{◌≡◌, ◌-◌, ◌+◌, ℕ, suc, List, [], ◌∷◌, ◌++◌, length, map, ap, sym, ◌∙◌, subst, arith, Option}
use Rattle.std.specs.List.{range_with_len}
use Rattle.std.proofs.lemmas.List.FromFn.{map-range_with_len_more, length-map-range_with_len}
use Rattle.atomic_table.specs.Table.{Me, Splits}
use Rattle.claim_lock.specs.declared.view.View.{View}
use Rattle.claim_lock.specs.Knows.{first_known}
use Rattle.claim_lock.specs.Rule.{Keeps, first_of, others_of, resting, dealt}
use Rattle.claim_lock.specs.Seen.{PassSeen}
use Rattle.claim_lock.proofs.Steps.{splits_at, deals_first, deals_rest, first_is}
use Rattle.claim_lock.proofs.lock.deal.Goals as goal

pub split_seat-requires : goal.split_seat-requires
split_seat-requires g c =
    let S : Type 0 = g.row.S.Denot in
    let seats : ℕ = c.args.origin.now.seats in
    let cpu : ℕ = c.loop-number.number in
    let more : seats - cpu ≡ suc (seats - (cpu + 1)) = omega arith in
    let me : Me (Option S) (View S) = c.loop-number.seat.me in
    let here : me.0 ≡ resting (dealt g.S.Parted.fixed g.S.Parted.part seats c.args.origin.now.state.value cpu (suc (seats - (cpu + 1)))) =
    ap (λ (m : Me (Option S) (View S)). m.0) c.loop-number.invariant.me ∙ ap (λ (n : ℕ). resting (dealt g.S.Parted.fixed g.S.Parted.part seats c.args.origin.now.state.value cpu n)) more
    in (
      c.loop-number.invariant.table,
      omega arith,
      subst
          (λ (n : ℕ). Splits (Keeps g.S.Parted.fixed g.S.Parted.part g.S.Parted.moved n) c.loop-number.seat.id me.0 (resting (others_of me.0.known)) (resting (first_of me.0.known ∷ [])))
          (sym c.requires.shared.1)
          (splits_at g.S.Parted.fixed g.S.Parted.part g.S.Parted.moved seats c.loop-number.seat.id me.0 c.args.origin.now.state.value cpu (seats - (cpu + 1)) here),
    )

pub push_reserved-requires : goal.push_reserved-requires
push_reserved-requires g c =
    let f : ℕ → PassSeen = λ cpu. record { table = c.args.shared.now.table_id; known = first_known g.S.Parted.fixed g.S.Parted.part c.args.origin.now.seats c.args.origin.now.state.value cpu } in
    let count : length c.loop-number.passes.items ≡ c.loop-number.number = ap length c.loop-number.invariant.made ∙ length-map-range_with_len f 0 c.loop-number.number in
    omega (arith, count)

pub loop-number-preserved : goal.loop-number-preserved
loop-number-preserved g c =
    let S : Type 0 = g.row.S.Denot in
    let seats : ℕ = c.args.origin.now.seats in
    let cpu : ℕ = c.loop-number.number in
    let state : S = c.args.origin.now.state.value in
    let more : seats - cpu ≡ suc (seats - (cpu + 1)) = omega arith in
    let me : Me (Option S) (View S) = c.loop-number.seat.me in
    let here : me ≡ (resting (dealt g.S.Parted.fixed g.S.Parted.part seats state cpu (suc (seats - (cpu + 1)))), []) =
    c.loop-number.invariant.me ∙ ap (λ (n : ℕ). let r : Me (Option S) (View S) = (resting (dealt g.S.Parted.fixed g.S.Parted.part seats state cpu n), []) in r) more
    in
    let f : ℕ → PassSeen = λ cpu. record { table = c.args.shared.now.table_id; known = first_known g.S.Parted.fixed g.S.Parted.part seats state cpu } in
    let new : Me (Option S) (View S) = c.split_seat.result.me in
    let pass : PassSeen = record { table = c.split_seat.result.table_id; known = first_of new.0.known } in
    let first : first_of new.0.known ≡ first_known g.S.Parted.fixed g.S.Parted.part seats state cpu =
    first_is new (first_known g.S.Parted.fixed g.S.Parted.part seats state cpu) (c.split_seat.ensures.4 ∙ deals_first g.S.Parted.fixed g.S.Parted.part g.S.Parted.moved seats me state cpu (seats - (cpu + 1)) here)
    in
    let table : c.split_seat.result.table_id ≡ c.args.shared.now.table_id = c.split_seat.ensures.3 ∙ c.loop-number.invariant.table in
    let same : pass ≡ f cpu = λ i. record { table = table i; known = first i } in
    record {
      table = c.split_seat.ensures.0 ∙ c.loop-number.invariant.table;
      me = c.split_seat.ensures.2 ∙ deals_rest g.S.Parted.fixed g.S.Parted.part g.S.Parted.moved seats me state cpu (seats - (cpu + 1)) here;
      room = omega arith;
      made = c.push_reserved.ensures.items ∙ (ap (λ (l : List PassSeen). l ++ pass ∷ []) c.loop-number.invariant.made ∙ (ap (λ (p : PassSeen). map f (range_with_len 0 cpu) ++ p ∷ []) same ∙ sym (map-range_with_len_more f 0 cpu cpu (omega arith))));
    }
