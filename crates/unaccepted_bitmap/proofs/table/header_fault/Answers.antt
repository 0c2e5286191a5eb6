use Rattle.std.proofs.Common.{◌∙◌, sym}
use Rattle.unaccepted_bitmap.proofs.TableFacts.{unit_facts}
use Rattle.unaccepted_bitmap.proofs.table.header_fault.Goals as goal

pub nonzero_rem-header : goal.nonzero_rem-header
nonzero_rem-header c = (unit_facts _ (sym c.is_unit.ensures ∙ c.if-not-is_unit.false)).some

pub most_bytes-requires-clause-some : goal.most_bytes-requires-clause-some
most_bytes-requires-clause-some c = (unit_facts _ (sym c.is_unit.ensures ∙ c.if-not-is_unit.false)).some
