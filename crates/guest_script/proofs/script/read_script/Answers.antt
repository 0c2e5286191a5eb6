use Rattle.std.proofs.Common.{◌∙◌, sym, arith, []}
use Rattle.std.specs.Prelude.{◌==◌}
use Rattle.std.specs.List.{slice_split}
use Rattle.guest_script.proofs.ReadableLemmas.{script_is_readable}
use Rattle.guest_script.proofs.ScriptLemmas.{line_read}
use Rattle.guest_script.proofs.script.read_script.Goals as goal

pub loop-line-preserved : goal.loop-line-preserved
loop-line-preserved c = record {
  lines = sym (line_read c.loop-line.number c.loop-line.commands.items c.read_line.new.commands.items c.in-Some.line.now (slice_split (λ b. b == 10) c.in-Some.after.now) (slice_split (λ b. b == 10) c.loop-line.rest.now) c.in-Some.ensures.some c.in_ok-read_line.ensures.ok)
      ∙ c.loop-line.invariant.lines;
  sum = c.in_ok-read_line.ensures.sum;
  few = c.in_ok-read_line.ensures.few;
  number = omega (arith, c.in-Some.ensures.less);
}

pub returns-clause-readable : goal.returns-clause-readable
returns-clause-readable c =
    let read =
    sym c.loop-line.invariant.lines
    ∙ line_read c.loop-line.number c.loop-line.commands.items c.read_line-2.new.commands.items c.loop-line.rest.now [] (slice_split (λ b. b == 10) c.loop-line.rest.now) c.in_default.ensures.none c.in_ok-read_line-2.ensures.ok in
    rw c.from_vec.ensures (script_is_readable c.args.bytes.now c.read_line-2.new.commands.items read)
