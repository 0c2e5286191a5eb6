use Rattle.std.proofs.Common.{sym}
use Rattle.event_core.specs.Moved.{entries_of}
use Rattle.pool_laws.proofs.LiveLemmas.{nothing-fits}
use Rattle.io_areas.proofs.area.Area.look.Goals as goal

pub begin-requires-clause-area : goal.begin-requires-clause-area
begin-requires-clause-area c = c.find.ensures.area c.in-Some.run' c.in-Some.is

pub returns-in-None-clause-none : goal.returns-in-None-clause-none
returns-in-None-clause-none c boot size none =
    let old = c.args.self.now in
    nothing-fits boot (entries_of old.moved) old.number c.args.request c.requires.request.some (sym (c.in-None.ensures.found boot size))
