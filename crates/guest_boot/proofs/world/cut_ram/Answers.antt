use Rattle.std.proofs.Common.{◌≡◌, ◌^◌, ◌∙◌, List, ap, sym, subst}
use Rattle.std.specs.Prelude.{All, ◌≤◌}
use Rattle.guest_base.specs.declared.memory.Pages.{Pages}
use Rattle.event_core.specs.Cut.{pages_end, ram_ranges}
use Rattle.guest_boot.proofs.CutLemmas.{ranges-low}
use Rattle.guest_boot.proofs.world.cut_ram.Goals as goal

pub lay_out-requires-clause-low : goal.lay_out-requires-clause-low
lay_out-requires-clause-low c =
    let all : c.as_slice-2.result.now ≡ ram_ranges c.args.ram.now = c.as_slice-2.ensures.value ∙ c.in_ok-ranges.ensures ∙ ap ram_ranges c.as_slice.ensures in
    subst (λ (rs : List Pages). All (λ (r : Pages). pages_end r ≤ 2 ^ 28) rs) (sym all) (ranges-low (2 ^ 28) c.args.ram.now c.requires.low)

pub cut_blocks-requires-clause-low : goal.cut_blocks-requires-clause-low
cut_blocks-requires-clause-low c =
    let all : c.as_slice-3.result.now ≡ ram_ranges c.args.ram.now = c.as_slice-3.ensures.value ∙ c.in_ok-ranges.ensures ∙ ap ram_ranges c.as_slice.ensures in
    subst (λ (rs : List Pages). All (λ (r : Pages). pages_end r ≤ 2 ^ 28) rs) (sym all) (ranges-low (2 ^ 28) c.args.ram.now c.requires.low)
