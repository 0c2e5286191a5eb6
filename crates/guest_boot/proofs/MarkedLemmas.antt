-- After the early pieces each pending page lies in a unit whose bit is set, so that the acceptance of the pool leaves none in it.
use Rattle.std.proofs.Common.{◌≡◌, ℕ, ◌+◌, ◌-◌, ◌*◌, true, false, Option, None, Some, List, [], ◌++◌, map, sym, ◌∙◌, ap, subst, inl, inr, arith, append-nil}
use Rattle.std.specs.List.{AllByRecursion}
use Rattle.std.proofs.lemmas.Bool.{cases_Bool}
use Rattle.guest_base.specs.Ranges.{in_range}
use Rattle.guest_base.proofs.RangeLemmas.{in_range-elim}
use Rattle.guest_base.specs.declared.memory.HostRun.{HostRun}
use Rattle.guest_base.specs.declared.memory.Page.{Page}
use Rattle.guest_base.specs.declared.memory.Pages.{Pages}
use Rattle.guest_base.specs.declared.memory.PageRun.{PageRun}
use Rattle.guest_base.specs.declared.memory.Units.{Units}
use Rattle.event_core.specs.declared.boot.Boot.{Boot}
use Rattle.event_core.specs.declared.boot.Descriptor.{Descriptor}
use Rattle.event_core.specs.declared.module_call.CallKind.TheVariants.{Accept}
use Rattle.event_core.specs.declared.module_call.ModuleCall.{ModuleCall}
use Rattle.event_core.specs.Boot.{InTurn, StagePart, Stage, Early, AcceptsRun, AcceptsRange, HasRoom, Uncalled, set_runs}
use Rattle.event_core.specs.Given.{FitsGiven}
use Rattle.event_core.specs.Map.{MapRules}
use Rattle.event_core.specs.MemoryRows.{page_state, is_pending}
use Rattle.event_core.specs.Runs.{state_in}
use Rattle.event_core.specs.Table.{Bits}
use Rattle.event_core.specs.Units.{bit_after, units_end, guarded_units}
use Rattle.event_core.proofs.BootFacts.{TakesNone, in-turn-each, all-append}
use Rattle.event_laws.proofs.PlaceLemmas.{UnitFits}
use Rattle.event_laws.proofs.TurnLemmas.{all-map}
use Rattle.event_laws.proofs.UnitFacts.{units-fit}
use Rattle.block_laws.specs.Guarded.{IsPlainCall}
use Rattle.block_laws.proofs.CutPages.{private-by}
use Rattle.block_laws.proofs.PageFacts.{IsPrivate, KeepsPrivate, pending-first, pending-before, private-while, private-accepted}
use Rattle.block_laws.proofs.SizeFacts.{steps-accept}
use Rattle.block_laws.proofs.RunFacts.{AnyItem, each-any, runs-hold, turn-accepted}
use Rattle.block_laws.proofs.GuardFacts.{range-holds}
use Rattle.block_laws.proofs.EarlyFacts.{early-accepted, early-in-pieces}
use Rattle.block_laws.proofs.StandFacts.{SetUnit, bit-before, set-below, plain-takes, accept-plain}
use Rattle.block_laws.proofs.BootedFacts.{table-set, stub-set}
use Rattle.unaccepted_bitmap.specs.StubMap.{pending_run}
use Rattle.guest_boot.specs.Booting.{AcceptsRunPiece, GetsAccepted, early_stages}
use Rattle.guest_boot.specs.Starting.{EarlyRunsBy}
use Rattle.guest_boot.proofs.StageLemmas.{early-turn, kept-pieces}

-- ---- calls that accept

abbrev AllAccept : List ModuleCall → Type 0
AllAccept calls = AllByRecursion (λ (call : ModuleCall). call.kind ≡ Accept) calls

run-accepts : (boot : Boot) (before : List ModuleCall) (run : Units) (now : List ModuleCall) (stop : Option Page) → AnyItem run → AcceptsRun boot before run now stop → AllAccept now
run-accepts boot before run now stop any part = steps-accept boot.hosts _ _ _ None now part.0

range-accepts : (boot : Boot) (before : List ModuleCall) (start len : ℕ) (calls : List ModuleCall) (stop : Option Page) → AcceptsRange boot before start len calls stop → AllAccept calls
range-accepts boot before start len calls stop turn =
    in-turn-each (AcceptsRun boot) (λ (run : Units). AnyItem run) (λ (call : ModuleCall). call.kind ≡ Accept) (run-accepts boot) before (set_runs boot before (guarded_units boot start len)) calls stop (each-any (set_runs boot before (guarded_units boot start len))) turn

piece-accepts : (boot : Boot) (before : List ModuleCall) (piece : PageRun) (now : List ModuleCall) (stop : Option Page) → AnyItem piece → AcceptsRunPiece boot before piece now stop → AllAccept now
piece-accepts boot before piece now stop any part = steps-accept boot.hosts _ _ _ None now part.0

pieces-accept : (boot : Boot) (before : List ModuleCall) (pieces : List PageRun) (calls : List ModuleCall) (stop : Option Page) → InTurn (AcceptsRunPiece boot) before pieces calls stop → AllAccept calls
pieces-accept boot before pieces calls stop turn =
    in-turn-each (AcceptsRunPiece boot) (λ (piece : PageRun). AnyItem piece) (λ (call : ModuleCall). call.kind ≡ Accept) (piece-accepts boot) before pieces calls stop (each-any pieces) turn

accepts-take : (boot : Boot) (calls : List ModuleCall) → AllAccept calls → AllByRecursion TakesNone calls
accepts-take boot calls all = plain-takes boot calls (accept-plain boot calls all)

-- ---- after the early pieces

-- the pieces as the definition has them are accepted
pieces-turn : (boot : Boot) (runs : List PageRun) (pieces : List Pages) (calls : List ModuleCall) → runs ≡ map pending_run pieces → InTurn (AcceptsRunPiece boot) [] runs calls None → InTurn (StagePart boot) [] (map Early pieces ++ []) calls None
pieces-turn boot runs pieces calls are turn =
    let P : List Stage → Type 0 = λ stages. InTurn (StagePart boot) [] stages calls None in
    subst P (ap early_stages are ∙ kept-pieces pieces ∙ sym (append-nil (map Early pieces))) (early-turn boot [] runs calls None turn)

-- a page that is pending after them lies in a unit whose bit was set at first
left-in : (map : List Descriptor) (hosts : List HostRun) (table : Option Bits) (slots areas cpus : ℕ) (boot : Boot) (runs : List PageRun) (calls : List ModuleCall) → MapRules map hosts → FitsGiven map table → Uncalled map hosts table slots areas cpus boot → EarlyRunsBy map table runs → InTurn (AcceptsRunPiece boot) [] runs calls None
    → (page : ℕ) → is_pending (page_state boot calls page) ≡ true → (unit : ℕ) × SetUnit boot unit page
left-in map hosts (Some table) slots areas cpus boot runs calls rules fits plain early turn page h =
    let takes = accepts-take boot calls (pieces-accept boot [] runs calls None turn) in
    table-set map hosts table slots areas cpus boot fits plain page (ap is_pending (sym (plain.ram.each page)) ∙ pending-first (state_in boot.ram) calls page takes h)
left-in map hosts None slots areas cpus boot runs calls rules fits plain early turn page h =
    let takes = accepts-take boot calls (pieces-accept boot [] runs calls None turn) in
    elim (stub-set map hosts slots areas cpus boot rules plain page (ap is_pending (sym (plain.ram.each page)) ∙ pending-first (state_in boot.ram) calls page takes h)) [
      | inr set ↦ set
      | inl at ↦
          (let done = early-accepted boot early.pieces [] [] calls (pieces-turn boot runs early.pieces calls early.are turn) takes page (early-in-pieces map early.pieces page early.early at) in
          let no : true ≡ false = sym h ∙ done in
          cc)
    ]

-- ---- the pool

-- of its pages none is pending when its guarded units are accepted
pool-clear : (boot : Boot) (early now : List ModuleCall) (pool : Pages) → UnitFits boot.unit boot.base → AllAccept early → ((page : ℕ) → is_pending (page_state boot early page) ≡ true → (unit : ℕ) × SetUnit boot unit page)
    → AcceptsRange boot early (4096 * pool.first) (4096 * pool.count) now None → (page : ℕ) → in_range pool.first pool.count page ≡ true → is_pending (page_state boot (early ++ now) page) ≡ false
pool-clear boot early now pool fits accepts left part page inside =
    elim (cases_Bool (is_pending (page_state boot (early ++ now) page))) [
      | inr f ↦ f
      | inl t ↦
          (let at = in_range-elim pool.first pool.count page inside in
          let low = at.0 in
          let high = at.1 in
          let was = pending-before boot early now page (accepts-take boot now (range-accepts boot early _ _ now None part)) t in
          let found = left page was in
          let held = range-holds boot pool.first pool.count found.0 page fits (set-below boot found.0 page found.1) found.1.inside (omega (arith, low, high)) low (omega (arith, high)) in
          let units = held.0 in
          let P : List ModuleCall → Type 0 = λ calls. is_pending (page_state boot calls page) ≡ true in
          let set = bit-before boot early [] found.0 page (subst (AllByRecursion (IsPlainCall boot)) (sym (append-nil early)) (accept-plain boot early accepts)) found.1 (subst P (sym (append-nil early)) was) in
          let turn : InTurn (AcceptsRun boot) early (set_runs boot early (Some units)) now None = subst (λ us. InTurn (AcceptsRun boot) early (set_runs boot early us) now None) held.1 part in
          let ran = runs-hold (bit_after boot early) units.count units.first (units_end units) found.0 (omega arith) held.2.low held.2.high set in
          let gone = turn-accepted boot early (set_runs boot early (Some units)) now turn found.0 page ran found.1.inside in
          let no : true ≡ false = sym t ∙ gone in
          cc)
    ]

-- each of them is accepted
pub pool-accepted : (map : List Descriptor) (hosts : List HostRun) (table : Option Bits) (slots areas cpus : ℕ) (boot : Boot) (runs : List PageRun) (pool : Pages) (early : List ModuleCall) → MapRules map hosts → FitsGiven map table → Uncalled map hosts table slots areas cpus boot → EarlyRunsBy map table runs
    → HasRoom boot pool.count pool.first → InTurn (AcceptsRunPiece boot) [] runs early None → GetsAccepted boot early pool
pool-accepted map hosts table slots areas cpus boot runs pool early rules fits plain pieces room turn now part page inside =
    let accepts = pieces-accept boot [] runs early None turn in
    let more = range-accepts boot early (4096 * pool.first) (4096 * pool.count) now None part in
    let first = plain.ram.each page in
    let private : IsPrivate (state_in boot.ram page) = subst IsPrivate (sym first) (private-by map table page (λ none. room page inside (first ∙ none))) in
    let keeps : AllByRecursion (KeepsPrivate page) (early ++ now) = all-map (λ (call : ModuleCall). call.kind ≡ Accept) (KeepsPrivate page) (λ call is. inl is) (early ++ now) (all-append (λ (call : ModuleCall). call.kind ≡ Accept) early now accepts more) in
    private-accepted (page_state boot (early ++ now) page)
    (private-while (state_in boot.ram) (early ++ now) page keeps private)
    (pool-clear boot early now pool (units-fit map table boot.unit boot.base fits plain.unit plain.base) accepts
    (left-in map hosts table slots areas cpus boot runs early rules fits plain pieces turn) part page inside)
