use Rattle.event_core.proofs.BlockingLemmas.{blocked-same}
use Rattle.event_rows.proofs.steps.blocked_whatever_is_answered.Goals as goal

pub returns : goal.returns
returns c = blocked-same
