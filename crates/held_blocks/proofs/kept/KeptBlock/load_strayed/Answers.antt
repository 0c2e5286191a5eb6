use Rattle.std.proofs.Common.{rules, ◌<◌, ◌+◌, ◌∙◌, arith}
use Rattle.held_blocks.specs.Held.{holding}
use Rattle.held_blocks.proofs.HeldLemmas.{strayed-is}
use Rattle.held_blocks.proofs.kept.KeptBlock.load_strayed.Goals as goal

pub returns : goal.returns
returns c =
    let within : c.args.off < c.size_of.result = omega (arith, c.requires.within, c.size_of.ensures) in
    let past : c.size_of.result < c.args.off + 8 = grind (arith, c.requires.outside, c.size_of.ensures) in
    rw c.from_vec.ensures
    (strayed-is (holding c.args.self.now) c.args.off c.size_of.result _ c.into_vec-bytes.result.items _ c.size_of.ensures within past
    (c.into_vec-bytes.ensures ∙ c.in_ok-read.ensures) (search rules) c.in_ok-resize.ensures.items)
