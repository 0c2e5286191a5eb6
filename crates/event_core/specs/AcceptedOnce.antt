use Rattle.std.specs.Prelude.{List, ◌++◌, ◌≡◌}
use Rattle.event_core.specs.declared.boot.Boot.{Boot}
use Rattle.event_core.specs.declared.entry.Entry.{Entry}
use Rattle.event_core.specs.Runs.{state_in}
use Rattle.event_core.specs.Calls.{calls_of, SoundCalls}
use Rattle.event_core.specs.Claims.{ClaimsApart}

-- No page is accepted twice unless it was shared or given back between: every module call finds its pages in the state that it needs, and at
-- each place of the history the units of the open claims are apart.
pub record AcceptedOnce (boot : Boot) (entries : List Entry) : Type 0 where
  pub sound : SoundCalls (state_in boot.ram) (calls_of boot entries)
  pub apart : (before later : List Entry) → entries ≡ before ++ later → ClaimsApart boot before
