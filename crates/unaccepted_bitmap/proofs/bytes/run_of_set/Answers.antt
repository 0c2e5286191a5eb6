use Rattle.std.proofs.Common.{◌≡◌, ◌-◌, min, ◌∙◌, sym, ap, Some, arith}
use Rattle.guest_base.specs.Search.{first_such, row_length}
use Rattle.guest_base.specs.declared.memory.Units.{Units}
use Rattle.event_core.specs.Units.{bit_of, unit_count}
use Rattle.unaccepted_bitmap.proofs.BitLemmas.{bit_of-outside}
use Rattle.unaccepted_bitmap.proofs.RunLemmas.{first_run-none, first_run-found}
use Rattle.unaccepted_bitmap.proofs.bytes.run_of_set.Goals as goal

pub returns-in_err-first : goal.returns-in_err-first
returns-in_err-first c =
    let xs = c.args.bytes.now in
    let end : min c.args.to (unit_count xs) ≡ c.min-end.result = omega (arith, c.min-end.ensures) in
    let none = first_run-none (bit_of xs) c.args.from c.args.to (unit_count xs) (bit_of-outside xs) in
    c.from_residual.ensures
    ∙ sym (none (ap (λ n. first_such (bit_of xs) c.args.from (n - c.args.from)) end ∙ sym c.first_set.ensures ∙ c.in_err-first.was))

pub returns : goal.returns
returns c =
    let xs = c.args.bytes.now in
    let first = c.in_ok-first.first in
    let end : min c.args.to (unit_count xs) ≡ c.min-end.result = omega (arith, c.min-end.ensures) in
    let found = first_run-found (bit_of xs) c.args.from c.args.to (unit_count xs) first (bit_of-outside xs) in
    ap (λ n. let units : Units = record { first = first; count = n } in Some units)
    (c.set_row.ensures ∙ ap (λ n. row_length (bit_of xs) first (n - first)) (sym end))
    ∙ sym (found (ap (λ n. first_such (bit_of xs) c.args.from (n - c.args.from)) end ∙ sym c.first_set.ensures ∙ c.in_ok-first.was))
