use Rattle.event_laws.proofs.TableFacts.{pending-marked}
use Rattle.event_laws.proofs.tables.pending_as_marked.Goals as goal

pub returns : goal.returns
returns c = pending-marked
