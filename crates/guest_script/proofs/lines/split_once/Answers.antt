use Rattle.std.proofs.Common.{sym}
use Rattle.std.specs.Prelude.{◌==◌}
use Rattle.guest_script.proofs.LineLemmas.{split_at_found, split_not_found}
use Rattle.guest_script.proofs.lines.split_once.Goals as goal

pub returns-in_err-end-clause-none : goal.returns-in_err-end-clause-none
returns-in_err-end-clause-none c = rw c.from_residual.ensures (split_not_found (λ b. b == c.args.mark) c.args.bytes.now (sym c.in_err-end.ensures))

pub returns-clause-some : goal.returns-clause-some
returns-clause-some c = split_at_found (λ b. b == c.args.mark) c.args.bytes.now c.in_ok-end.end (sym c.in_ok-end.ensures)
