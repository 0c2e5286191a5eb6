use Rattle.event_rows.proofs.BootFacts.{small_guest-booted}
use Rattle.event_rows.proofs.booted.small_guest_is_booted.Goals as goal

pub returns : goal.returns
returns c = small_guest-booted
