use Rattle.std.proofs.Common.{sym}
use Rattle.event_core.specs.declared.event.Event.TheVariants.{Got}
use Rattle.memory_core.proofs.LookLemmas.{event-got, looks-some}
use Rattle.memory_core.proofs.memory.Memory.alloc_look.Goals as goal

pub returns-in-Some-clause-looks : goal.returns-in-Some-clause-looks
returns-in-Some-clause-looks c =
    let old = c.args.self.now in
    let block = c.in-Some.block in
    looks-some old c.get_free.new.self c.args.turn.now c.get_free.new.turn c.args.order (Got block) (event-got old.boot old.entries c.args.order block (sym c.in-Some.ensures.picked)) c.in-Some.ensures.appends
