use Rattle.std.proofs.Common.{◌≡◌, ◌<◌, ◌^◌, drop}
use Rattle.std.specs.Str.Parse.{digits_value_after}
use Rattle.guest_script.specs.Number.{all_digits}
use Rattle.guest_script.proofs.number.value_of.Given as goal

-- the digits so far are digits, and have the value so far
abbrev pub invariant-loop-byte : goal.invariant-loop-byte
invariant-loop-byte l = record {
  digits : all_digits l.base (drop l.byte-index l.digits) ≡ all_digits l.base l.digits;
  value : digits_value_after l.base l.value (drop l.byte-index l.digits) ≡ digits_value_after l.base 0 l.digits;
  small : l.value < 2 ^ 64;
}
