use Rattle.std.proofs.Common.{ap, sym, ◌∙◌, arith}
use Rattle.claim_lock.specs.Rule.{first_of}
use Rattle.claim_lock.proofs.lock.ClaimLock.win.Goals as goal
use Rattle.claim_lock.proofs.Steps.{wins_at}

pub compare_exchange-requires : goal.compare_exchange-requires
compare_exchange-requires g c = (
  c.requires.table ∙ sym (ap (λ l. l.table) c.self.view_is),
  omega arith,
  wins_at
      g.S.Parted.fixed
      g.S.Parted.part
      g.S.Parted.moved
      c.self.inside.table.shared.key.seats
      c.self.inside.table.shared.table_id.slots
      c.args.seat.now.id
      c.args.seat.now.me
      (first_of c.args.seat.now.me.0.known)
      c.from.result
      c.requires.rests
      (c.from.ensures ∙ c.requires.number),
)
