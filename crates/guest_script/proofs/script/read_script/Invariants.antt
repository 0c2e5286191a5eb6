use Rattle.std.proofs.Common.{◌≡◌, ◌+◌, ◌≤◌, length}
use Rattle.std.specs.Prelude.{◌==◌, sum_by}
use Rattle.std.specs.List.{slice_split}
use Rattle.guest_script.specs.Script.{with_lines, script_of}
use Rattle.event_core.specs.ReadableScript.{bytes_named}
use Rattle.guest_script.proofs.script.read_script.Given as goal

-- the script so far, with the lines that are left
abbrev pub invariant-loop-line : goal.invariant-loop-line
invariant-loop-line l = record {
  lines : with_lines l.number l.commands.items (slice_split (λ b. b == 10) l.rest) ≡ script_of l.bytes;
  sum : l.named ≡ sum_by bytes_named l.commands.items;
  few : l.named ≤ 4194304;
  number : l.number + length l.rest ≤ length l.bytes + 1;
}

abbrev pub decreases-loop-line : goal.decreases-loop-line
decreases-loop-line l = length l.rest
