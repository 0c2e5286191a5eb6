use Rattle.std.proofs.Common.{◌∙◌, ◌-◌, ◌*◌, ◌^◌, arith}
use Rattle.unaccepted_bitmap.proofs.BitLemmas.{rounded_up}
use Rattle.unaccepted_bitmap.proofs.table.most_bytes.Goals as goal

pub returns : goal.returns
returns c = c.div_ceil.ensures ∙ rounded_up (2 ^ 40 - c.args.base) (8 * c.args.unit) (omega (arith, c.requires.some))
