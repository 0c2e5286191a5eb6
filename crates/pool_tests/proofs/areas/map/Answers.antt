use Rattle.std.proofs.Common.{ap, subst, ◌∙◌}
use Rattle.std.specs.Prelude.{Option}
use Rattle.guest_base.specs.declared.transfer.SlotRun.{SlotRun}
use Rattle.event_core.specs.declared.event.Event.TheVariants.{Looked}
use Rattle.pool_laws.specs.Live.{is_live, live_of}
use Rattle.io_areas.specs.Value.{Appends, moved_by_look}
use Rattle.pool_tests.proofs.AreaLemmas.{mine-found, mine-kept}
use Rattle.pool_tests.proofs.areas.map.Goals as goal

pub returns-clause-mine : goal.returns-clause-mine
returns-clause-mine c run is =
    let old = c.ready.new.area in
    let turn = c.args.turn.now in
    let bytes = c.args.bytes.now in
    let P : Option SlotRun → Type 0 = λ found. Appends old c.look.new.self turn c.look.new.turn (Looked old.number found) (moved_by_look found bytes) in
    mine-found old c.look.new.self turn c.look.new.turn old.number run bytes (subst P is c.look.ensures.appends)

pub returns-clause-kept : goal.returns-clause-kept
returns-clause-kept c run mine =
    let old = c.ready.new.area in
    let turn = c.args.turn.now in
    mine-kept old c.look.new.self turn c.look.new.turn old.number c.look.result _ run c.look.ensures.appends
    (ap (λ moved. is_live run (live_of turn.cpu.0 moved)) c.ready.ensures.moved ∙ mine)
