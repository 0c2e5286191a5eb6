use Rattle.std.proofs.Common.{◌≡◌, [], ◌∷◌, Option, Some, ap, sym, ◌∙◌, subst, arith}
use Rattle.atomic_table.specs.Table.{Me, rest}
use Rattle.claim_lock.specs.declared.known.Known.{Known}
use Rattle.claim_lock.specs.declared.view.View.{View}
use Rattle.claim_lock.specs.Knows.{MayGive, left_known}
use Rattle.claim_lock.specs.Rule.{first_of, holding, resting}
use Rattle.claim_lock.specs.Seen.{GripSeen}
use Rattle.claim_lock.proofs.Steps.{releases_at, released_is, one_of, first_is}
use Rattle.claim_lock.proofs.lock.ClaimLock.give.Goals as goal

pub compare_exchange-requires : goal.compare_exchange-requires
compare_exchange-requires g c =
    let S : Type 0 = g.row.S.Denot in
    let known : Known = first_of c.grip.inside.seat.me.0.known in
    let taken : S = c.grip.inside.taken.value in
    let holds : c.exchange-left.new.seat.me ≡ (holding known taken, (0, Some c.args.held.state) ∷ []) =
    c.exchange-left.ensures.3 ∙ ap (λ (m : Me (Option S) (View S)). let r : Me (Option S) (View S) = (m.0, (0, Some c.args.held.state) ∷ rest m.1) in r) c.grip.invariant.0
    in (
      c.exchange-left.ensures.0 ∙ (ap (λ (h : GripSeen S). h.table) c.grip.view_is ∙ (c.requires.lock ∙ sym (ap (λ l. l.table) c.self.view_is))),
      omega arith,
      releases_at
          g.S.Parted.fixed
          g.S.Parted.part
          g.S.Parted.moved
          c.self.inside.table.shared.key.seats
          c.self.inside.table.shared.table_id.slots
          c.exchange-left.new.seat.id
          c.exchange-left.new.seat.me
          known
          c.from.result
          taken
          c.args.held.state
          holds
          (c.from.ensures ∙ c.grip.invariant.1)
          (subst (λ (h : GripSeen S). MayGive g.S.Parted.fixed g.S.Parted.part g.S.Parted.moved h.known.number h.taken c.args.held.state) (sym c.grip.view_is) c.requires.state),
    )

pub invariant_of-result : goal.invariant_of-result
invariant_of-result g c =
    let S : Type 0 = g.row.S.Denot in
    let known : Known = first_of c.grip.inside.seat.me.0.known in
    let taken : S = c.grip.inside.taken.value in
    let left : Known = left_known g.S.Parted.part g.S.Parted.moved known taken c.args.held.state in
    let holds : c.exchange-left.new.seat.me ≡ (holding known taken, (0, Some c.args.held.state) ∷ []) =
    c.exchange-left.ensures.3 ∙ ap (λ (m : Me (Option S) (View S)). let r : Me (Option S) (View S) = (m.0, (0, Some c.args.held.state) ∷ rest m.1) in r) c.grip.invariant.0
    in
    let rests : c.compare_exchange.new.seat.me ≡ (resting (left ∷ []), []) = released_is g.S.Parted.part g.S.Parted.moved known taken c.args.held.state c.exchange-left.new.seat.me c.compare_exchange.new.seat.me holds c.compare_exchange.ensures.2 in (
      one_of c.compare_exchange.new.seat.me left rests,
      c.grip.invariant.1 ∙ sym (ap (λ (k : Known). k.number) (first_is c.compare_exchange.new.seat.me left rests)),
    )
