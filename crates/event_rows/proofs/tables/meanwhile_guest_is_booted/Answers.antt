use Rattle.event_rows.proofs.TableFacts.{meanwhile-booted}
use Rattle.event_rows.proofs.tables.meanwhile_guest_is_booted.Goals as goal

pub returns : goal.returns
returns c = meanwhile-booted
