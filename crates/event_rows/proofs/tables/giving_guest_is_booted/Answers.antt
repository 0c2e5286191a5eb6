use Rattle.event_rows.proofs.TableFacts.{giving-booted}
use Rattle.event_rows.proofs.tables.giving_guest_is_booted.Goals as goal

pub returns : goal.returns
returns c = giving-booted
