use Rattle.std.proofs.Common.{ℕ, List, Option, Some, sym, subst}
use Rattle.guest_base.specs.declared.transfer.SlotRun.{SlotRun}
use Rattle.event_core.specs.Own.{after_map}
use Rattle.event_core.specs.declared.event.Event.TheVariants.{Looked}
use Rattle.held_blocks.specs.Holdings.{Leaves, own_in as own_held}
use Rattle.guest_cpu.proofs.areas.keep_look.Goals as goal

pub returns-in-Some-clause-keeps : goal.returns-in-Some-clause-keeps
returns-in-Some-clause-keeps c area =
    let held = c.args.held.now in
    let now = c.mapped.new.self in
    let R : Option SlotRun → Type 0 = λ run. Leaves held now (after_map c.args.mapping.now c.args.name.now c.args.off c.args.direction (Looked area run) (own_held held)) in
    let N : List ℕ → Type 0 = λ name. Leaves held now (after_map name c.args.name.now c.args.off c.args.direction (Looked area (Some c.in-Some.run')) (own_held held)) in
    subst R (sym c.in-Some.is) (subst N c.copy.ensures (c.mapped.ensures area))
