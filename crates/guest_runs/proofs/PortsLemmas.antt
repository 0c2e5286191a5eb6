use Rattle.std.proofs.Common.{◌≡◌, ℕ, zero, suc, ◌+◌, ◌-◌, ◌≤◌, Option, Some, List, [], ◌∷◌, refl, sym, ◌∙◌, ap, subst, inl, inr, arith}
use Rattle.std.specs.Prelude.{drop, slice_get}
use Rattle.std.proofs.lemmas.List.{drop-drop}
use Rattle.guest_base.specs.Counts.{Rose}
use Rattle.event_core.specs.declared.boot.Recorded.{Recorded}
use Rattle.event_core.specs.declared.module_call.ModuleCall.{ModuleCall}
use Rattle.guest_runs.specs.Asking.{asking, EachKept, PortKept, PortsKept}
use Rattle.guest_runs.specs.Recordings.{KeepsRun}

-- Ports before and after one call, and after another.

-- a count rose from an earlier one
pub rose_from : (before mid after : ℕ) → before ≤ mid → Rose mid after → Rose before after
rose_from before mid after le (inl less) = inl (omega (arith, le, less))
rose_from before mid after le (inr last) = inr last

module _ {P : Type 0} (made : P → List ModuleCall) (faults : P → ℕ) (never : P → Type 0) where
  pub each_same : (ports : List P) → EachKept faults never ports ports
  each_same [] = tt
  each_same (p ∷ ports) = (record { faults = omega arith; never_fails = λ n. n }, each_same ports)

  pub each_then : (before between after : List P) → EachKept faults never before between → EachKept faults never between after → EachKept faults never before after
  each_then [] [] [] a b = tt
  each_then [] [] (z ∷ after) a b = absurd b
  each_then [] (y ∷ between) after a b = absurd a
  each_then (x ∷ before) [] after a b = absurd a
  each_then (x ∷ before) (y ∷ between) [] a b = absurd b
  each_then (x ∷ before) (y ∷ between) (z ∷ after) a b =
      (record { faults = omega (arith, a.0.faults, b.0.faults); never_fails = λ n. b.0.never_fails (a.0.never_fails n) }, each_then before between after a.1 b.1)

  -- of no call
  pub kept_same : (cpus : ℕ) (ports : List P) → PortsKept cpus (asking made faults never ports ports)
  kept_same cpus ports = record { each = each_same ports; others = refl }

  -- behind more ports there are fewer
  others_more : (few more : ℕ) (before after : List P) → few ≤ more → drop few after ≡ drop few before → drop more after ≡ drop more before
  others_more few more before after le same =
      let split : few + (more - few) ≡ more = omega (arith, le) in
      ap (λ n. drop n after) (sym split) ∙ sym (drop-drop (more - few) few after)
      ∙ ap (drop (more - few)) same ∙ drop-drop (more - few) few before ∙ ap (λ n. drop n before) split

  pub kept_more : (few more : ℕ) (before after : List P) → few ≤ more → PortsKept few (asking made faults never before after) → PortsKept more (asking made faults never before after)
  kept_more few more before after le kept = record { each = kept.each; others = others_more few more before after le kept.others }

  -- of one call after another, on as many ports or more
  pub kept_then : (few more : ℕ) (before between after : List P) → few ≤ more → PortsKept few (asking made faults never before between) → PortsKept more (asking made faults never between after) → PortsKept more (asking made faults never before after)
  kept_then few more before between after le a b = record {
    each = each_then before between after a.each b.each;
    others = b.others ∙ others_more few more before between le a.others;
  }

  -- a port between
  each_at : (olds news : List P) (cpu : ℕ) (old : P) → EachKept faults never olds news → slice_get olds cpu ≡ Some old → (new : P) × (slice_get news cpu ≡ Some new) × PortKept faults never old new
  each_at [] news cpu old each at = cc
  each_at (x ∷ olds) [] cpu old each at = absurd each
  each_at (x ∷ olds) (y ∷ news) zero old each at = (let same : x ≡ old = cc in (y, refl, subst (λ q. PortKept faults never q y) same each.0))
  each_at (x ∷ olds) (y ∷ news) (suc cpu) old each at = each_at olds news cpu old each.1 at

  -- what a run keeps from earlier on
  pub keeps_from : (before between after : List P) (order : Option (List ℕ)) (r : Recorded) → EachKept faults never before between → KeepsRun (asking made faults never between after) order r → KeepsRun (asking made faults never before after) order r
  keeps_from before between after order r kept keeps = record {
    history = keeps.history;
    accepted_once = keeps.accepted_once;
    untouched = keeps.untouched;
    disjoint = keeps.disjoint;
    bytes = keeps.bytes;
    full = keeps.full;
    calls = keeps.calls;
    «module» = λ cpu old new at_old at_new some. (
        let mid = each_at before between cpu old kept at_old in
        rose_from (faults old) (faults mid.0) (faults new) mid.2.faults (keeps.«module» cpu mid.0 new mid.1 at_new some));
  }
