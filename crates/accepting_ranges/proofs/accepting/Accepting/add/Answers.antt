use Rattle.std.proofs.Common.{◌≡◌, Some, sym, ◌∙◌, ap, subst, arith}
use Rattle.std.specs.Prelude.{slice_set}
use Rattle.accepting_ranges.specs.Claims.{MeetsNone, AreApart}
use Rattle.accepting_ranges.proofs.ClaimLemmas.{AreApart-set, written-whole}
use Rattle.accepting_ranges.proofs.accepting.Accepting.add.Goals as goal

pub invariant_of-self : goal.invariant_of-self
invariant_of-self g c =
    let units = g.T.Claim.units in
    let xs = c.self.inside.claims.items in
    let none = subst (λ claims. MeetsNone units claims (units c.args.claim)) (sym c.self.view_is) c.requires.apart in
    subst (AreApart units) (sym (written-whole xs _ _ c.args.cpu.0 (Some c.args.claim) c.put.ensures c.as_mut_slice.ensures.value))
    (AreApart-set units xs c.args.cpu.0 (Some c.args.claim) (omega (arith, c.requires.cpu, c.self.invariant.places)) c.self.invariant
    (λ held e. subst (λ k. MeetsNone units xs (units k)) (let same : c.args.claim ≡ held = cc in same) none))

pub returns : goal.returns
returns g c =
    written-whole c.self.inside.claims.items _ _ c.args.cpu.0 (Some c.args.claim) c.put.ensures c.as_mut_slice.ensures.value
    ∙ ap (λ xs. slice_set xs c.args.cpu.0 (Some c.args.claim)) c.self.view_is
