use Rattle.event_rows.proofs.SmallUnitFacts.{small_unit-guard}
use Rattle.event_rows.proofs.small_units.guard_is_one_page.Goals as goal

pub returns : goal.returns
returns c = small_unit-guard
