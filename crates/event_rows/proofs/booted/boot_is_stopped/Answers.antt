use Rattle.event_rows.proofs.PoolBootFacts.{boot-stopped}
use Rattle.event_rows.proofs.booted.boot_is_stopped.Goals as goal

pub returns : goal.returns
returns c = boot-stopped
