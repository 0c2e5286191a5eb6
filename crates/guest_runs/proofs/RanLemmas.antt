use Rattle.std.proofs.Common.{◌≡◌, ℕ, zero, suc, ◌≤◌, false, true, None, Some, List, [], ◌∷◌, ◌++◌, refl, sym, ◌∙◌, ap, subst, inl, inr, arith, eqb-true, append-nil}
use Rattle.std.specs.Prelude.{◌==◌, All, cond, slice_get, length}
use Rattle.std.proofs.lemmas.Bool.{cases_Bool}
use Rattle.std.proofs.lemmas.List.{drop_at}
use Rattle.std.proofs.lemmas.List.Elements.{All-tail}
use Rattle.guest_base.specs.Counts.{Rose}
use Rattle.event_core.specs.declared.boot.Boot.{Boot}
use Rattle.event_core.specs.declared.boot.Recorded.{Recorded}
use Rattle.event_core.specs.declared.entry.Entry.{Entry}
use Rattle.event_core.specs.declared.module_call.ModuleCall.{ModuleCall}
use Rattle.event_core.specs.Turns.{entries_by}
use Rattle.guest_steps.specs.Ground.{Ground}
use Rattle.guest_steps.specs.Replies.{calls_reported, some_module}
use Rattle.guest_steps.specs.Running.{AreOf}
use Rattle.guest_steps.specs.Seen.{Seen, entries_made}
use Rattle.guest_steps.specs.Standing.{Together, unreported}
use Rattle.guest_steps.proofs.TogetherLemmas.{list-none, list-some}
use Rattle.guest_runs.specs.Asking.{asking, EachKept, ModuleFailed, OthersUnmade, PortsKept, PortsMade, first_made, port_calls}
use Rattle.guest_runs.specs.OnPorts.{EachRan, RanOn}
use Rattle.guest_runs.proofs.PortsLemmas.{each_same}

-- What ports were asked by processors that ran on them.

module _ {P : Type 0} (made : P → List ModuleCall) (faults : P → ℕ) (never : P → Type 0) where
  -- a port that came back: a processor ran on it, or it stands behind those of the processors
  data PortAt (olds : List P) (all : List Seen) (rest : List P) (cpu : ℕ) (new : P) : Type 0 where
    Ran : (old : P) (c : Seen) → slice_get (olds ++ rest) cpu ≡ Some old → slice_get all cpu ≡ Some c
        → RanOn made faults never old c new → PortAt olds all rest cpu new
    Behind : slice_get all cpu ≡ None → slice_get (olds ++ rest) cpu ≡ Some new → PortAt olds all rest cpu new

  later-at : (old : P) (olds : List P) (c : Seen) (all : List Seen) (rest : List P) (cpu : ℕ) (new : P) → PortAt olds all rest cpu new → PortAt (old ∷ olds) (c ∷ all) rest (suc cpu) new
  later-at old olds c all rest cpu new (Ran o d at_old at ran) = Ran o d at_old at ran
  later-at old olds c all rest cpu new (Behind none at) = Behind none at

  port-at : (olds : List P) (all : List Seen) (news rest : List P) (cpu : ℕ) (new : P) → EachRan made faults never olds all news → slice_get (news ++ rest) cpu ≡ Some new → PortAt olds all rest cpu new
  port-at [] [] [] rest cpu new ran at = Behind refl at
  port-at (old ∷ olds) (c ∷ all) (n ∷ news) rest zero new ran at =
      let same : n ≡ new = cc in
      Ran old c refl refl (subst (λ q. RanOn made faults never old c q) same ran.0)
  port-at (old ∷ olds) (c ∷ all) (n ∷ news) rest (suc cpu) new ran at = later-at old olds c all rest cpu new (port-at olds all news rest cpu new ran.1 at)
  port-at [] [] (n ∷ news) rest cpu new ran at = absurd ran
  port-at [] (c ∷ all) news rest cpu new ran at = absurd ran
  port-at (old ∷ olds) [] news rest cpu new ran at = absurd ran
  port-at (old ∷ olds) (c ∷ all) [] rest cpu new ran at = absurd ran

  -- ---- what a port had made

  not-first : (cpu : ℕ) → (suc cpu == 0) ≡ false
  not-first cpu = elim (cases_Bool (suc cpu == 0)) [ inl t ↦ (let e = eqb-true (suc cpu) 0 t in absurd (omega (arith, e))) | inr f ↦ f ]

  unmade-at : (ports : List P) → All (λ p. made p ≡ []) ports → (cpu : ℕ) (port : P) → slice_get ports cpu ≡ Some port → made port ≡ []
  unmade-at [] unmade cpu port at = cc
  unmade-at (p ∷ ports) unmade zero port at = (let same : p ≡ port = cc in ap made (sym same) ∙ unmade 0 p (omega arith))
  unmade-at (p ∷ ports) unmade (suc cpu) port at = unmade-at ports (All-tail (λ p. made p ≡ []) p ports unmade) cpu port at

  pub had-made : (ports : List P) (calls : List ModuleCall) → first_made made ports ≡ calls → OthersUnmade made ports → (cpu : ℕ) (port : P) → slice_get ports cpu ≡ Some port → made port ≡ cond (cpu == 0) calls []
  had-made [] calls first others cpu port at = cc
  had-made (p ∷ ports) calls first others zero port at = (let same : p ≡ port = cc in ap made (sym same) ∙ first)
  had-made (p ∷ ports) calls first others (suc cpu) port at = unmade-at ports others cpu port at ∙ sym (rw (not-first cpu) refl)

  -- ---- what it was asked

  -- Processors that stand together ran on the first of these ports, of which the first had made
  -- boot's calls and the others none.
  pub record RanHere (boot : Boot) (all : List Seen) (base : Ground) (olds news rest : List P) : Type 0 where
    pub together : Together boot all base
    pub ran : EachRan made faults never olds all news
    pub first : first_made made (olds ++ rest) ≡ boot.calls
    pub others : OthersUnmade made (olds ++ rest)

  asked-of : (boot : Boot) (all : List Seen) (base : Ground) (olds news rest : List P) (r : Recorded) → RanHere boot all base olds news rest → r.boot ≡ boot → AreOf all r.entries → (cpu : ℕ) (new : P) → PortAt olds all rest cpu new → made new ≡ port_calls r cpu
  asked-of boot all base olds news rest r here same are cpu new (Ran old c at_old at ran) =
      let tells = (here.together.each cpu c at).2.port in
      let had : c.made_before ≡ cond (cpu == 0) boot.calls [] = ran.made_before ∙ had-made (olds ++ rest) boot.calls here.first here.others cpu old at_old in
      let has : entries_by cpu r.entries ≡ entries_made c = are cpu ∙ list-some all cpu c at in
      let told : c.made ≡ c.made_before ++ calls_reported (entries_made c) ++ [] = tells.made ∙ ap (λ d. c.made_before ++ calls_reported (entries_made c) ++ unreported d) ran.reported in
      sym ran.made_after ∙ told ∙ append-nil (c.made_before ++ calls_reported (entries_made c))
      ∙ ap (λ calls. calls ++ calls_reported (entries_made c)) had
      ∙ ap (λ es. cond (cpu == 0) boot.calls [] ++ calls_reported es) (sym has)
      ∙ ap (λ (b : Boot). cond (cpu == 0) b.calls [] ++ calls_reported (entries_by cpu r.entries)) (sym same)
  asked-of boot all base olds news rest r here same are cpu new (Behind none at) =
      let has : entries_by cpu r.entries ≡ [] = are cpu ∙ list-none all cpu none in
      had-made (olds ++ rest) boot.calls here.first here.others cpu new at
      ∙ sym (append-nil (cond (cpu == 0) boot.calls []))
      ∙ ap (λ es. cond (cpu == 0) boot.calls [] ++ calls_reported es) (sym has)
      ∙ ap (λ (b : Boot). cond (cpu == 0) b.calls [] ++ calls_reported (entries_by cpu r.entries)) (sym same)

  pub ports-made : (boot : Boot) (all : List Seen) (base : Ground) (olds news rest : List P) (r : Recorded) → RanHere boot all base olds news rest → r.boot ≡ boot → AreOf all r.entries → PortsMade (asking made faults never (olds ++ rest) (news ++ rest)) r
  ports-made boot all base olds news rest r here same are cpu port at =
      asked-of boot all base olds news rest r here same are cpu port (port-at olds all news rest cpu port here.ran at)

  failed-of : (boot : Boot) (all : List Seen) (base : Ground) (olds news rest : List P) (entries : List Entry) → RanHere boot all base olds news rest → AreOf all entries → (cpu : ℕ) (old new : P) → slice_get (olds ++ rest) cpu ≡ Some old → PortAt olds all rest cpu new → some_module (entries_by cpu entries) ≡ true → Rose (faults old) (faults new)
  failed-of boot all base olds news rest entries here are cpu old new at_old (Ran before c at_before at ran) some =
      let tells = (here.together.each cpu c at).2.port in
      let same : before ≡ old = (let both : Some before ≡ Some old = sym at_before ∙ at_old in cc) in
      let has : entries_by cpu entries ≡ entries_made c = are cpu ∙ list-some all cpu c at in
      subst (λ n. Rose n (faults new)) (ran.faults_before ∙ ap faults same)
      (subst (λ n. Rose c.faults_before n) ran.faults_after (tells.failed (sym (ap some_module has) ∙ some)))
  failed-of boot all base olds news rest entries here are cpu old new at_old (Behind none at) some =
      let has : entries_by cpu entries ≡ [] = are cpu ∙ list-none all cpu none in
      let no : false ≡ true = sym (ap some_module has) ∙ some in
      cc

  pub module-failed : (boot : Boot) (all : List Seen) (base : Ground) (olds news rest : List P) (r : Recorded) → RanHere boot all base olds news rest → AreOf all r.entries → ModuleFailed (asking made faults never (olds ++ rest) (news ++ rest)) r
  module-failed boot all base olds news rest r here are cpu old new at_old at_new some =
      failed-of boot all base olds news rest r.entries here are cpu old new at_old (port-at olds all news rest cpu new here.ran at_new) some

  -- ---- the ports that come back

  abbrev pub CountsRise : List Seen → Type 0
  CountsRise all = (cpu : ℕ) (c : Seen) → slice_get all cpu ≡ Some c → c.faults_before ≤ c.faults

  each-kept : (olds : List P) (all : List Seen) (news rest : List P) → CountsRise all → EachRan made faults never olds all news → EachKept faults never (olds ++ rest) (news ++ rest)
  each-kept [] [] [] rest rise ran = each_same made faults never rest
  each-kept (old ∷ olds) (c ∷ all) (new ∷ news) rest rise ran =
      let le = rise 0 c refl in
      let before = ran.0.faults_before in
      let after = ran.0.faults_after in
      (record { faults = omega (arith, le, before, after); never_fails = ran.0.never_fails }, each-kept olds all news rest (λ cpu d at. rise (suc cpu) d at) ran.1)
  each-kept [] [] (n ∷ news) rest rise ran = absurd ran
  each-kept [] (c ∷ all) news rest rise ran = absurd ran
  each-kept (old ∷ olds) [] news rest rise ran = absurd ran
  each-kept (old ∷ olds) (c ∷ all) [] rest rise ran = absurd ran

  same-length : (olds : List P) (all : List Seen) (news : List P) → EachRan made faults never olds all news → (length olds ≡ length all) × (length news ≡ length all)
  same-length [] [] [] ran = (refl, refl)
  same-length (old ∷ olds) (c ∷ all) (new ∷ news) ran = (let tail = same-length olds all news ran.1 in (ap suc tail.0, ap suc tail.1))
  same-length [] [] (n ∷ news) ran = absurd ran
  same-length [] (c ∷ all) news ran = absurd ran
  same-length (old ∷ olds) [] news ran = absurd ran
  same-length (old ∷ olds) (c ∷ all) [] ran = absurd ran

  pub ports-kept : (boot : Boot) (all : List Seen) (base : Ground) (olds news rest : List P) (cpus : ℕ) → RanHere boot all base olds news rest → cpus ≡ length all → PortsKept cpus (asking made faults never (olds ++ rest) (news ++ rest))
  ports-kept boot all base olds news rest cpus here count =
      let long = same-length olds all news here.ran in
      record {
        each = each-kept olds all news rest (λ cpu c at. (here.together.each cpu c at).2.port.faults) here.ran;
        others = drop_at news rest cpus (long.1 ∙ sym count) ∙ sym (drop_at olds rest cpus (long.0 ∙ sym count));
      }
