use Rattle.std.proofs.Common.{◌∙◌, ◌*◌, ◌^◌, ◌<◌, ap, subst}
use Rattle.event_core.specs.Units.{guarded, unit_count}
use Rattle.event_core.specs.Table.{Bits}
use Rattle.unaccepted_bitmap.proofs.GuardLemmas.{guarded-inside_all, has_room}
use Rattle.unaccepted_bitmap.proofs.TableFacts.{table_facts}
use Rattle.unaccepted_bitmap.proofs.bitmap.Bitmap.claim_units.Goals as goal

pub returns-clause-inside : goal.returns-clause-inside
returns-clause-inside c =
    let at = c.self.inside in
    guarded-inside_all at.unit at.base _ c.args.start c.args.len c.guarded_units.result (table_facts _ c.self.invariant).some
    (c.guarded_units.ensures ∙ ap (λ count. guarded at.unit at.base count c.args.start c.args.len) c.unit_count.ensures.value)

pub guarded_units-requires-clause-some : goal.guarded_units-requires-clause-some
guarded_units-requires-clause-some c = (table_facts _ c.self.invariant).some

pub guarded_units-requires-clause-room : goal.guarded_units-requires-clause-room
guarded_units-requires-clause-room c =
    let room = has_room _ c.args.start c.args.len c.self.invariant c.requires.end in
    let bits = ap (λ (b : Bits). b.bits) c.self.view_is in
    rw c.unit_count.ensures.value (subst (λ xs. unit_count xs * c.self.inside.unit < 2 ^ 64) bits room.room)

pub guarded_units-requires-clause-end : goal.guarded_units-requires-clause-end
guarded_units-requires-clause-end c = (has_room _ c.args.start c.args.len c.self.invariant c.requires.end).end
