use Rattle.std.proofs.Common.{sym, ap, ◌∙◌}
use Rattle.event_core.specs.Units.{first_run}
use Rattle.memory_core.specs.Bitmaps.{bits_in}
use Rattle.memory_core.proofs.ClearLemmas.{no-run}
use Rattle.memory_core.proofs.units.run_from.Goals as goal

pub returns-in-None : goal.returns-in-None
returns-in-None c = no-run c.args.from c.args.end ∙ ap (λ b. first_run (bits_in b) c.args.from c.args.end) (sym c.in-None.is)
