use Rattle.std.proofs.Common.{◌≡◌, ℕ, ◌<◌, Some, All, ap, sym, ◌∙◌, subst}
use Rattle.std.specs.Slots.{slots_items}
use Rattle.claim_lock.specs.Knows.{Finds}
use Rattle.claim_lock.specs.Seen.{LockSeen, PassSeen}
use Rattle.claim_lock.proofs.Steps.{closes_at}
use Rattle.claim_lock.proofs.lock.ClaimLock.close.Goals as goal

pub unreachable-requires : goal.unreachable-requires
unreachable-requires g c =
    let all : (cpu : ℕ) → cpu < c.self.inside.table.shared.key.seats → _ = λ cpu below. c.requires.all cpu (subst (λ (l : LockSeen). cpu < l.seats) c.self.view_is below) in
    let end =
    closes_at g.S.Parted.fixed g.S.Parted.part g.S.Parted.moved c.self.inside.table.shared.key.seats c.gathered-seat.result.id c.gathered-seat.result.me.0
    c.args.passes.items (slots_items c.close_with-closed.result.words) (slots_items c.close_with-closed.result.slots) c.take.result
    (ap (λ m. m.0) c.gathered-seat.ensures.me) c.close_with-closed.ensures.values.2 c.take.ensures.value all in
    c.in_default.not-Some end.0 end.1

pub returns : goal.returns
returns g c =
    let all : (cpu : ℕ) → cpu < c.self.inside.table.shared.key.seats → _ = λ cpu below. c.requires.all cpu (subst (λ (l : LockSeen). cpu < l.seats) c.self.view_is below) in
    let end =
    closes_at g.S.Parted.fixed g.S.Parted.part g.S.Parted.moved c.self.inside.table.shared.key.seats c.gathered-seat.result.id c.gathered-seat.result.me.0
    c.args.passes.items (slots_items c.close_with-closed.result.words) (slots_items c.close_with-closed.result.slots) c.take.result
    (ap (λ m. m.0) c.gathered-seat.ensures.me) c.close_with-closed.ensures.values.2 c.take.ensures.value all in
    let same : end.0 ≡ c.in-Some.state = let e : Some end.0 ≡ Some c.in-Some.state = sym end.1 ∙ c.in-Some.is in cc in
    let P : g.row.S.Denot → Type 0 = λ state. All (λ (p : PassSeen). Finds g.S.Parted.fixed g.S.Parted.part g.S.Parted.moved p.known state) c.args.passes.items in
    subst P same end.2
