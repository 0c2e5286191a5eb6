use Rattle.std.proofs.Common.{◌≡◌, ◌-◌, ◌∙◌, Ok, None, length, take, drop, sym, ap, arith, nat_lt, false, refl}
use Rattle.std.proofs.lemmas.Bool.Decides.{nat_tests}
use Rattle.std.proofs.lemmas.List.{length-drop}
use Rattle.event_core.specs.Table.{Bits}
use Rattle.unaccepted_bitmap.specs.TableFile.{header_fault}
use Rattle.unaccepted_bitmap.proofs.TableLemmas.{table_right, take_rest}
use Rattle.unaccepted_bitmap.proofs.table.read_table.Goals as goal

pub returns : goal.returns
returns c =
    let bytes = c.args.bytes.now in
    let header = c.read_header-header.result in
    let rest : take (length bytes - 24) (drop 24 bytes) ≡ drop 24 bytes = take_rest 24 bytes in
    let left : length (take (length bytes - 24) (drop 24 bytes)) ≡ length bytes - 24 = rw rest (length-drop 24 bytes) in
    let long : nat_lt (length bytes) 24 ≡ false = grind (arith, nat_tests, c.if-bytes-lt-HEADER_BYTES.false) in
    let fine : header_fault header (length bytes - 24) ≡ None = sym (c.in_default.ensures ∙ ap (header_fault header) left) in
    let same : c.from_bits.result ≡ record { unit = header.unit; base = header.base; bits = drop 24 bytes } = c.from_bits.ensures ∙ rw (c.from.ensures, c.in_ok-from_slice.ensures.items, rest) refl in
    table_right bytes header long (sym c.read_header-header.ensures) fine ∙ ap (λ (b : Bits). Ok b) (sym same)
