use Rattle.std.specs.Prelude.{ℕ, List, false}
use Rattle.event_core.specs.declared.boot.Recorded.{Recorded}
use Rattle.event_core.specs.Printed.{Printed}
use Rattle.guest_text.specs.Putting.{Putting, Put, PutFront}

-- The printed text of a recorded run, on a sink (own rule).

-- a printed text of the run was put, without the order
abbrev pub PrintedAfter : Recorded → Putting → Type 0
PrintedAfter r out = (text : List ℕ) × Printed r.boot r.entries false text × Put out text

-- a prefix of such a text was put
abbrev pub CutAfter : Recorded → Putting → Type 0
CutAfter r out = (text : List ℕ) × Printed r.boot r.entries false text × PutFront out text
