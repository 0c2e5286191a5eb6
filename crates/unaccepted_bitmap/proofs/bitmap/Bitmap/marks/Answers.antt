use Rattle.std.proofs.Common.{arith}
use Rattle.unaccepted_bitmap.proofs.TableFacts.{table_facts}
use Rattle.unaccepted_bitmap.proofs.bitmap.Bitmap.marks.Goals as goal

pub nonzero_div-page : goal.nonzero_div-page
nonzero_div-page c = (let facts = table_facts c.args.self.now c.unit.ensures.kept in omega (arith, c.unit.ensures.value, facts.some, facts.whole))
