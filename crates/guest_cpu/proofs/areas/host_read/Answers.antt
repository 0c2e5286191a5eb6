use Rattle.std.proofs.Common.{ℕ, List, length, ap, ◌∙◌}
use Rattle.guest_cpu.proofs.AccessLemmas.{read-inside}
use Rattle.guest_cpu.proofs.areas.host_read.Goals as goal

pub host_read-requires-clause-inside : goal.host_read-requires-clause-inside
host_read-requires-clause-inside c =
    let long = ap (λ (xs : List ℕ). length xs) c.as_mut_slice.ensures.value ∙ c.in_ok-out.ensures in
    read-inside c.args.held.now c.args.area.now c.reserve.new.area c.args.turn.now c.args.off c.args.len (length c.as_mut_slice.result.now) c.requires.may c.reserve.ensures.kept long
