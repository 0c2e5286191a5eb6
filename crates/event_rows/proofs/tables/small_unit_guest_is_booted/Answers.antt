use Rattle.event_rows.proofs.TableFacts.{small_unit-booted}
use Rattle.event_rows.proofs.tables.small_unit_guest_is_booted.Goals as goal

pub returns : goal.returns
returns c = small_unit-booted
