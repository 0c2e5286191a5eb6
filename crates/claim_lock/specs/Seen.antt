-- How contracts see the lock, a pass, and what holds the lock.
use Rattle.std.specs.Prelude.{ℕ, refl}
use Rattle.std.specs.Coded.{Coded, code_by, coded×, coded_ℕ}
use Rattle.atomic_table.specs.Seated.{TableId, table_id_coded}
use Rattle.claim_lock.specs.declared.known.Known.{Known}
use Rattle.claim_lock.specs.contracts.known.Known.{the_row}

-- a lock: which one it is, and its number of passes
pub record LockSeen : Type 0 where
  pub table : TableId
  pub seats : ℕ

-- a pass: of which lock it is, and what its processor knows
pub record PassSeen : Type 0 where
  pub table : TableId
  pub known : Known

-- a lock that is held: of which lock it is, what its processor knew, and the state as it was taken
pub record GripSeen (S : Type 0) : Type 0 where
  pub table : TableId
  pub known : Known
  pub taken : S

abbrev pub lock_code : Coded LockSeen
lock_code =
    code_by (TableId × ℕ) (coded× table_id_coded coded_ℕ) (λ l. (l.table, l.seats))
    (λ p. record { table = p.0; seats = p.1 }) (λ _. refl)

abbrev pub pass_code : Coded PassSeen
pass_code =
    code_by (TableId × Known) (coded× table_id_coded the_row.coded) (λ l. (l.table, l.known))
    (λ p. record { table = p.0; known = p.1 }) (λ _. refl)

abbrev pub grip_code : {S : Type 0} → Coded S → Coded (GripSeen S)
grip_code {S} c =
    code_by (TableId × (Known × S)) (coded× table_id_coded (coded× the_row.coded c))
    (λ l. (l.table, (l.known, l.taken)))
    (λ p. record { table = p.0; known = p.1.0; taken = p.1.1 }) (λ _. refl)
