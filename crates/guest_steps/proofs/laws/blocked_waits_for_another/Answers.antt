use Rattle.guest_steps.proofs.BlockedLemmas.{blocked-waits}
use Rattle.guest_steps.proofs.laws.blocked_waits_for_another.Goals as goal

pub returns : goal.returns
returns c boot all base cpu one t at blocked = let w = blocked-waits boot all base cpu one t at blocked in (w.other, w.waited, w.at, w.differ, w.out)
