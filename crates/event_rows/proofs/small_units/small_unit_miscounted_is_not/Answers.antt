use Rattle.event_rows.proofs.SmallUnitFacts.{small_unit-miscounted}
use Rattle.event_rows.proofs.small_units.small_unit_miscounted_is_not.Goals as goal

pub returns : goal.returns
returns c = small_unit-miscounted
