use Rattle.std.proofs.Common.{◌≡◌, ℕ, List, [], ◌∷◌, Option, Some, ap, sym, ◌∙◌}
use Rattle.atomic_table.specs.Table.{rest}
use Rattle.claim_lock.proofs.lock.ClaimLock.receive.Goals as goal

pub exchange-requires : goal.exchange-requires
exchange-requires g c =
    let held = c.requires.holds in
    let e : c.args.seat.me.1 ≡ (0, Some held.0) ∷ [] = ap (λ m. m.1) held.1 in (
      c.requires.table ∙ sym (ap (λ l. l.table) c.self.view_is),
      (
        Some held.0,
        e ∙ ap (λ (l : List (ℕ × Option g.row.S.Denot)). let x : ℕ × Option g.row.S.Denot = (0, Some held.0) in x ∷ rest l) (sym e),
      ),
    )
