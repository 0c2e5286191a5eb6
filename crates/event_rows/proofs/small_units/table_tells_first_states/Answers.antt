use Rattle.event_rows.proofs.SmallUnitFacts.{small_unit-states}
use Rattle.event_rows.proofs.small_units.table_tells_first_states.Goals as goal

pub returns : goal.returns
returns c = small_unit-states
