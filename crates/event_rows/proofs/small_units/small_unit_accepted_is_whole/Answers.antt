use Rattle.event_rows.proofs.SmallUnitFacts.{small_unit-whole}
use Rattle.event_rows.proofs.small_units.small_unit_accepted_is_whole.Goals as goal

pub returns : goal.returns
returns c = small_unit-whole
