use Rattle.std.proofs.Common.{sym}
use Rattle.unaccepted_bitmap.proofs.BitLemmas.{units_between-some}
use Rattle.unaccepted_bitmap.proofs.guard.units_of.Goals as goal

pub returns : goal.returns
returns c = rw (c.div_ceil.ensures) (sym (units_between-some c.args.unit c.args.start c.args.end c.requires c.if-start-end.false))
