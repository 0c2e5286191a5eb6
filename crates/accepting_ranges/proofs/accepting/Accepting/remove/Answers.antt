use Rattle.std.proofs.Common.{◌≡◌, None, Some, sym, ◌∙◌, ap, subst}
use Rattle.std.specs.Prelude.{slice_set}
use Rattle.accepting_ranges.specs.Claims.{kept_of, MeetsNone, AreApart}
use Rattle.accepting_ranges.proofs.ClaimLemmas.{AreApart-set, MeetsNone-taken, kept_of-inside, written-whole}
use Rattle.accepting_ranges.proofs.accepting.Accepting.remove.Goals as goal

pub invariant_of-self : goal.invariant_of-self
invariant_of-self g c =
    let units = g.T.Claim.units in
    let xs = c.self.inside.claims.items in
    let cpu = c.args.cpu.0 in
    let held : kept_of xs cpu ≡ Some c.take.result = ap (λ ys. kept_of ys cpu) (sym c.as_mut_slice.ensures.value) ∙ c.take.ensures.taken in
    subst (AreApart units) (sym (written-whole xs _ _ cpu None c.take.ensures.rest c.as_mut_slice.ensures.value))
    (AreApart-set units xs cpu None (kept_of-inside xs cpu c.take.result held) c.self.invariant (λ other e. cc))

pub returns-clause-rest : goal.returns-clause-rest
returns-clause-rest g c =
    written-whole c.self.inside.claims.items _ _ c.args.cpu.0 None c.take.ensures.rest c.as_mut_slice.ensures.value
    ∙ ap (λ xs. slice_set xs c.args.cpu.0 None) c.self.view_is

pub returns-clause-apart : goal.returns-clause-apart
returns-clause-apart g c =
    let units = g.T.Claim.units in
    let xs = c.self.inside.claims.items in
    let cpu = c.args.cpu.0 in
    let held : kept_of xs cpu ≡ Some c.take.result = ap (λ ys. kept_of ys cpu) (sym c.as_mut_slice.ensures.value) ∙ c.take.ensures.taken in
    subst (λ ys. MeetsNone units ys (units c.take.result)) (sym (written-whole xs _ _ cpu None c.take.ensures.rest c.as_mut_slice.ensures.value))
    (MeetsNone-taken units xs cpu c.take.result c.self.invariant held)
