use Rattle.std.proofs.Common.{refl, ap, ◌∙◌}
use Rattle.pool_laws.specs.Live.{is_live, live_of}
use Rattle.pool_tests.proofs.AreaLemmas.{mine-still}
use Rattle.pool_tests.proofs.areas.put.Goals as goal

pub returns-then-device : goal.returns-then-device
returns-then-device c =
    let old = c.ready.new.area in
    let turn = c.args.turn.now in
    mine-still old c.device_write.new.self turn c.device_write.new.turn _ _ c.args.run (λ live. refl) c.device_write.ensures.appends
    (ap (λ moved. is_live c.args.run (live_of turn.cpu.0 moved)) c.ready.ensures.moved ∙ c.requires)

pub returns-else-device : goal.returns-else-device
returns-else-device c =
    let old = c.ready.new.area in
    let turn = c.args.turn.now in
    mine-still old c.copy_in.new.self turn c.copy_in.new.turn _ _ c.args.run (λ live. refl) c.copy_in.ensures.appends
    (ap (λ moved. is_live c.args.run (live_of turn.cpu.0 moved)) c.ready.ensures.moved ∙ c.requires)
