use Rattle.std.proofs.Common.{◌≡◌, List, [], ◌∷◌, ◌++◌, All, map, ap, ◌∙◌, subst, arith}
use Rattle.claim_lock.specs.Rule.{first_of}
use Rattle.claim_lock.specs.Seen.{PassSeen}
use Rattle.claim_lock.proofs.Lists.{all_middle}
use Rattle.claim_lock.proofs.Steps.{enters, joins_at}
use Rattle.claim_lock.proofs.lock.gathered.Goals as goal

pub load_new_seat-seat-requires : goal.load_new_seat-seat-requires
load_new_seat-seat-requires g c = (
  omega arith,
  enters g.S.Parted.fixed g.S.Parted.part g.S.Parted.moved c.args.shared.now.key.seats c.args.shared.now.table_id.slots,
)

pub join_seat-requires : goal.join_seat-requires
join_seat-requires g c =
    let items : c.args.passes.items ≡ c.loop-pass.yielded ++ (c.in-Some.pass ∷ c.next.new.self.rest.items) = c.loop-pass.invariant.all ∙ ap (λ l. c.loop-pass.yielded ++ l) c.in-Some.ensures.steps.0 in
    let P : PassSeen → Type 0 = λ p. p.table ≡ c.args.shared.now.table_id in
    let own : P c.in-Some.pass = all_middle P c.loop-pass.yielded c.in-Some.pass c.next.new.self.rest.items (subst (λ (l : List PassSeen). All P l) items c.requires.lock) in (
      c.loop-pass.invariant.table,
      ap (λ (p : PassSeen). p.table) c.pass.view_is ∙ own,
      ap (λ m. m.1) c.pass.invariant.0,
      omega arith,
      joins_at
          g.S.Parted.fixed
          g.S.Parted.part
          g.S.Parted.moved
          c.args.shared.now.key.seats
          c.loop-pass.seat.id
          c.loop-pass.seat.me.0
          c.pass.inside.seat.id
          c.pass.inside.seat.me.0
          (map (λ (p : PassSeen). p.known) c.loop-pass.yielded)
          (first_of c.pass.inside.seat.me.0.known ∷ [])
          (ap (λ m. m.0) c.loop-pass.invariant.me)
          (ap (λ m. m.0) c.pass.invariant.0),
    )
