-- Pages that are out for an open claim are accepted where they aren't pending.
use Rattle.std.proofs.Common.{◌≡◌, ◌≢◌, ℕ, ◌+◌, ◌*◌, ◌<◌, ◌≤◌, true, false, Option, None, Some, List, [], ◌∷◌, ◌++◌, map, sym, ◌∙◌, ap, subst, inl, inr, arith, append_assoc}
use Rattle.std.specs.List.{AllByRecursion}
use Rattle.std.proofs.lemmas.Bool.{cases_Bool}
use Rattle.guest_base.specs.Ranges.{in_range}
use Rattle.guest_base.proofs.RangeLemmas.{in_range-elim}
use Rattle.guest_base.specs.declared.memory.Pages.{Pages}
use Rattle.guest_base.specs.declared.memory.PageState.TheVariants.{Accepted}
use Rattle.event_core.specs.declared.boot.Boot.{Boot}
use Rattle.event_core.specs.declared.module_call.ModuleCall.{ModuleCall}
use Rattle.event_core.specs.Boot.{InTurn, StagePart, Stage, Early, PoolAccepted, PoolShared, BlockAccepted, AcceptsRun, AcceptsRange, set_runs, pool_stages, stages_of}
use Rattle.event_core.specs.Cut.{cut}
use Rattle.event_core.specs.MemoryRows.{page_state, is_pending}
use Rattle.event_core.specs.Runs.{state_in}
use Rattle.event_core.specs.Units.{bit_after, units_end}
use Rattle.event_laws.specs.Coming.{BootMade}
use Rattle.event_laws.proofs.TurnLemmas.{turn-split}
use Rattle.block_laws.specs.Guarded.{IsPlainCall, PageIn}
use Rattle.block_laws.proofs.ListFacts.{all-back}
use Rattle.block_laws.proofs.PageFacts.{IsPrivate, not-pending-later}
use Rattle.block_laws.proofs.RunFacts.{runs-hold, turn-accepted}
use Rattle.block_laws.proofs.GuardFacts.{range-holds}
use Rattle.block_laws.proofs.CutPages.{private-by}
use Rattle.block_laws.proofs.HeldFacts.{cut-accepted}
use Rattle.block_laws.proofs.StandFacts.{SetUnit, set-unit, set-below, one-unit, bit-before, plain-takes}
use Rattle.block_laws.proofs.BootedFacts.{boot-stands}

-- ---- when boot has accepted the pool

-- the calls with which boot comes to the pool, those that accept it, and those behind them
record PoolParts (boot : Boot) (pool : Pages) : Type 0 where
  pub done : List ModuleCall
  pub now : List ModuleCall
  pub later : List ModuleCall
  pub calls : boot.calls ≡ done ++ (now ++ later)
  pub part : AcceptsRange boot done (4096 * pool.first) (4096 * pool.count) now None

pool-turn : (boot : Boot) (pool : Pages) (done rest : List ModuleCall) (stages : List Stage) → boot.calls ≡ done ++ rest → InTurn (StagePart boot) done (PoolAccepted pool ∷ stages) rest None → PoolParts boot pool
pool-turn boot pool done rest stages calls (inl stopped) = let no : None ≡ Some stopped.0 = stopped.2 in cc
pool-turn boot pool done rest stages calls (inr (now, later, is, part, after)) = record { done = done; now = now; later = later; calls = calls ∙ ap (λ cs. done ++ cs) is; part = part }

pool-parts : (boot : Boot) (pool : Pages) → BootMade boot → boot.pool ≡ Some pool → PoolParts boot pool
pool-parts boot pool made is =
    let right = made.right.made in
    let blocks : List Stage = map BlockAccepted (cut boot) in
    let stages : stages_of boot right.pieces ≡ map Early right.pieces ++ PoolAccepted pool ∷ PoolShared pool ∷ blocks =
    ap (λ (p : Option Pages). (map Early right.pieces ++ pool_stages p) ++ blocks) is ∙ append_assoc (map Early right.pieces) (PoolAccepted pool ∷ PoolShared pool ∷ []) blocks
    in
    let s = turn-split (StagePart boot) [] (map Early right.pieces) (PoolAccepted pool ∷ PoolShared pool ∷ blocks) boot.calls (subst (λ all. InTurn (StagePart boot) [] all boot.calls None) stages right.stages) in
    pool-turn boot pool s.first s.second (PoolShared pool ∷ blocks) s.is s.right

-- ---- a unit with a pending page has no page of the pool

module _ (boot : Boot) (made : BootMade boot) (more : List ModuleCall) (plain : AllByRecursion (IsPlainCall boot) (boot.calls ++ more)) where
  -- a unit that has a page of the pool was accepted with it
  pool-clear : (pool : Pages) (unit page other : ℕ) → boot.pool ≡ Some pool → SetUnit boot unit page → PageIn boot unit other → pool.first ≤ other → other < pool.first + pool.count → is_pending (page_state boot (boot.calls ++ more) page) ≡ true → ⊥
  pool-clear pool unit page other is at beside low high h =
      let parts = pool-parts boot pool made is in
      let booted = boot-stands boot made in
      let rest : List ModuleCall = parts.later ++ more in
      let all : boot.calls ++ more ≡ parts.done ++ (parts.now ++ rest) =
      ap (λ cs. cs ++ more) parts.calls ∙ append_assoc parts.done (parts.now ++ parts.later) more ∙ ap (λ cs. parts.done ++ cs) (append_assoc parts.now parts.later more)
      in
      let held = range-holds boot pool.first pool.count unit other booted.fits (set-below boot unit page at) beside (omega (arith, low, high)) low (omega (arith, high)) in
      let turn : InTurn (AcceptsRun boot) parts.done (set_runs boot parts.done (Some held.0)) parts.now None = subst (λ us. InTurn (AcceptsRun boot) parts.done (set_runs boot parts.done us) parts.now None) held.1 parts.part in
      let P : List ModuleCall → Type 0 = λ cs. AllByRecursion (IsPlainCall boot) cs in
      let plain_all = subst P all plain in
      let set = bit-before boot parts.done (parts.now ++ rest) unit page plain_all at (sym (ap (λ cs. is_pending (page_state boot cs page)) all) ∙ h) in
      let runs = runs-hold (bit_after boot parts.done) held.0.count held.0.first (units_end held.0) unit (omega arith) held.2.low held.2.high set in
      let gone = turn-accepted boot parts.done (set_runs boot parts.done (Some held.0)) parts.now turn unit page runs at.inside in
      let split : boot.calls ++ more ≡ (parts.done ++ parts.now) ++ rest = all ∙ sym (append_assoc parts.done parts.now rest) in
      let takes = plain-takes boot rest (all-back (IsPlainCall boot) (parts.done ++ parts.now) rest (subst P split plain)) in
      let no : true ≡ false = sym h ∙ ap (λ cs. is_pending (page_state boot cs page)) split ∙ not-pending-later boot (parts.done ++ parts.now) rest page takes gone in
      cc

  pub apart-from-pool : (pool : Pages) (unit page other : ℕ) → boot.pool ≡ Some pool → PageIn boot unit page → PageIn boot unit other → is_pending (page_state boot (boot.calls ++ more) page) ≡ true → in_range pool.first pool.count other ≡ false
  apart-from-pool pool unit page other is inside beside h =
      elim (cases_Bool (in_range pool.first pool.count other)) [
        | inr f ↦ f
        | inl t ↦
            (let found = set-unit boot (boot-stands boot made) more page (all-back (IsPlainCall boot) boot.calls more plain) h in
            let same : found.0 ≡ unit = one-unit boot found.0 unit page found.1.inside inside in
            let two = in_range-elim pool.first pool.count other t in
            absurd (pool-clear pool unit page other is (subst (λ u. SetUnit boot u page) same found.1) beside two.0 two.1 h))
      ]

  -- a page of RAM in such a unit is accepted where it isn't pending
  pub unit-accepted : (unit page other : ℕ) → PageIn boot unit page → PageIn boot unit other → is_pending (page_state boot (boot.calls ++ more) page) ≡ true → state_in boot.ram other ≢ None
      → is_pending (page_state boot (boot.calls ++ more) other) ≡ false → page_state boot (boot.calls ++ more) other ≡ Some Accepted
  unit-accepted unit page other inside beside h ram not =
      let first = made.right.uncalled.ram.each other in
      cut-accepted boot other (boot.calls ++ more)
      (record {
        first = subst IsPrivate (sym first) (private-by made.descriptors made.table other (λ none. ram (first ∙ none)));
        outside = λ pool is. apart-from-pool pool unit page other is inside beside h;
      })
      plain not
