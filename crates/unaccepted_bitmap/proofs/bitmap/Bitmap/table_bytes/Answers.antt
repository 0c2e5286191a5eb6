use Rattle.std.proofs.Common.{◌≡◌, Ok, subst}
use Rattle.std.specs.Result.{IfOk}
use Rattle.event_core.specs.Table.{Bits}
use Rattle.unaccepted_bitmap.specs.TableFile.{table_of}
use Rattle.unaccepted_bitmap.proofs.TableLemmas.{again_of}
use Rattle.unaccepted_bitmap.proofs.bitmap.Bitmap.table_bytes.Goals as goal

pub returns-clause-again : goal.returns-clause-again
returns-clause-again c =
    let kept : Bits = record { unit = c.self.inside.unit; base = c.self.inside.base; bits = c.self.inside.bits.items } in
    subst (λ (b : Bits). IfOk c.table_bytes.result (λ bytes. table_of bytes ≡ Ok b)) c.self.view_is
    (again_of kept c.table_bytes.result c.self.invariant (rw c.as_slice.ensures.value at c.table_bytes.ensures))
