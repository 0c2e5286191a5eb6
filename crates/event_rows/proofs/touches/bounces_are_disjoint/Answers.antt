use Rattle.event_rows.proofs.TouchFacts.{bounces-disjoint}
use Rattle.event_rows.proofs.touches.bounces_are_disjoint.Goals as goal

pub returns : goal.returns
returns c = bounces-disjoint
