use Rattle.event_core.proofs.LocalLemmas.{split-legal}
use Rattle.guest_history.proofs.laws.each_following_is_legal.Goals as goal

pub returns : goal.returns
returns c = split-legal
