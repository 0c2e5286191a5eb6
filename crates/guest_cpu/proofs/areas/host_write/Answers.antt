use Rattle.std.proofs.Common.{rules, ◌≡◌, ℕ, List, length, ap, ◌∙◌}
use Rattle.guest_cpu.proofs.AccessLemmas.{write-inside}
use Rattle.guest_cpu.proofs.areas.host_write.Goals as goal

pub host_write-requires-clause-inside : goal.host_write-requires-clause-inside
host_write-requires-clause-inside c =
    let same : c.from_vec-bytes.result ≡ c.args.hex.now = search rules in
    let long = ap (λ (xs : List ℕ). length xs) (c.as_slice-2.ensures ∙ same) in
    write-inside c.args.held.now c.args.area.now c.reserve.new.area c.args.turn.now c.args.off c.args.hex.now (length c.as_slice-2.result.now) c.requires.may c.reserve.ensures.kept long
