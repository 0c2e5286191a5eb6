use Rattle.unaccepted_bitmap.proofs.FitLemmas.{unit_room}
use Rattle.unaccepted_bitmap.proofs.bitmap.Bitmap.after_unit.Goals as goal

pub pages_of-requires : goal.pages_of-requires
pages_of-requires c =
    let room = unit_room c.args.self.now c.args.number c.unit.ensures.kept c.requires.inside in
    rw (c.unit.ensures.value, c.base.ensures.value) room.start

pub around_each-requires-clause-room : goal.around_each-requires-clause-room
around_each-requires-clause-room c =
    let room = unit_room c.args.self.now c.args.number c.unit.ensures.kept c.requires.inside in
    rw (c.pages_of.ensures, c.unit.ensures.value, c.base.ensures.value) room.end
