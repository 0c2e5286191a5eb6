use Rattle.event_laws.proofs.TableFacts.{set-pending}
use Rattle.event_laws.proofs.tables.set_unit_is_pending.Goals as goal

pub returns : goal.returns
returns c = set-pending
