use Rattle.event_rows.proofs.WaitingFacts.{unwaited-not}
use Rattle.event_rows.proofs.waiting.page_got_at_once_is_not.Goals as goal

pub returns : goal.returns
returns c = unwaited-not
