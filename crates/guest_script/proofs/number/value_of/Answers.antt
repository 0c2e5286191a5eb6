use Rattle.std.proofs.Common.{sym, ◌∙◌, arith, ◌*◌, ap}
use Rattle.std.specs.Char.{digit_value}
use Rattle.guest_script.proofs.NumberLemmas.{overflows, fits, at_end}
use Rattle.guest_script.proofs.number.value_of.Goals as goal

pub returns-in_err-checked_mul : goal.returns-in_err-checked_mul
returns-in_err-checked_mul c =
    let product = ap (λ n. c.loop-byte.value * n) c.from-in-loop-byte.ensures in
    c.from_residual-in_err-checked_mul.ensures
    ∙ sym (overflows c.args.base c.loop-byte.value c.loop-byte.byte-index 0 c.args.digits.now (omega arith) (omega arith) c.loop-byte.invariant.value (omega (arith, product, c.in_err-checked_mul.ensures)))

pub returns-in_err-value : goal.returns-in_err-value
returns-in_err-value c =
    let product = ap (λ n. c.loop-byte.value * n) c.from-in-loop-byte.ensures in
    let digit = ap digit_value c.from.ensures in
    c.from_residual-in_err-value.ensures
    ∙ sym (overflows c.args.base c.loop-byte.value c.loop-byte.byte-index 0 c.args.digits.now (omega arith) (omega arith) c.loop-byte.invariant.value
    (omega (arith, product, digit, c.in_ok-digit.ensures.value, c.in_ok-checked_mul.ensures, c.in_err-value.ensures, c.from-in-loop-byte-2.ensures)))

pub returns : goal.returns
returns c =
    let left = at_end c.args.base c.loop-byte.value c.loop-byte.byte-index c.args.digits.now c.loop-byte-test.false in
    sym (fits c.args.base c.loop-byte.value c.args.digits.now (sym c.loop-byte.invariant.digits ∙ left.0) (sym c.loop-byte.invariant.value ∙ left.1) c.loop-byte.invariant.small)
