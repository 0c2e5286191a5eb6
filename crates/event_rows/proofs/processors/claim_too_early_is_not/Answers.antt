use Rattle.event_rows.proofs.TwoFacts.{second_early-not}
use Rattle.event_rows.proofs.processors.claim_too_early_is_not.Goals as goal

pub returns : goal.returns
returns c = second_early-not
