use Rattle.event_rows.proofs.PoolBootFacts.{pool_guest-booted}
use Rattle.event_rows.proofs.booted.pool_guest_is_booted.Goals as goal

pub returns : goal.returns
returns c = pool_guest-booted
