use Rattle.std.proofs.Common.{◌≡◌, ◌++◌, drop}
use Rattle.std.specs.Prelude.{string_bytes}
use Rattle.guest_script.specs.Order.{turns_text}
use Rattle.guest_script.proofs.order.print_turns.Given as goal

-- the turns so far are printed, and those that are left make the rest of the text
abbrev pub invariant-loop-cpu : goal.invariant-loop-cpu
invariant-loop-cpu l = string_bytes l.text ++ turns_text (drop l.cpu-index l.turns) ≡ turns_text l.turns
