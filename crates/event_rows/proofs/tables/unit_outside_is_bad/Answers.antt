use Rattle.event_rows.proofs.TableFacts.{edge-fit}
use Rattle.event_rows.proofs.tables.unit_outside_is_bad.Goals as goal

pub returns : goal.returns
returns c = edge-fit
