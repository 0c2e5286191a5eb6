use Rattle.std.proofs.Common.{◌≡◌, ℕ, ◌+◌, ◌-◌, ◌*◌, ◌%◌, ◌^◌, Bool, true, Option, None, Some, List, [], ◌∷◌, ◌++◌, refl, sym, ◌∙◌, ap, subst, inl, inr, arith, append_assoc, append-nil}
use Rattle.std.specs.Prelude.{◌==◌}
use Rattle.std.proofs.lemmas.Bool.{cases_Bool}
use Rattle.guest_base.specs.Levels.{level_pages}
use Rattle.guest_base.specs.Search.{first_such}
use Rattle.guest_base.specs.declared.memory.Page.{Page}
use Rattle.guest_base.specs.declared.memory.Pages.{Pages}
use Rattle.guest_base.specs.declared.memory.Units.{Units}
use Rattle.guest_base.specs.declared.memory.Block.{Block}
use Rattle.guest_base.specs.declared.memory.HostRun.{HostRun}
use Rattle.guest_base.specs.declared.memory.Level.{Level}
use Rattle.guest_base.specs.declared.memory.Level.TheVariants.{Small, Large, Huge}
use Rattle.guest_base.proofs.SearchLemmas.{each_such_is, first_such-Some}
use Rattle.event_core.specs.declared.boot.Boot.{Boot}
use Rattle.event_core.specs.declared.module_call.CallKind.TheVariants.{Accept}
use Rattle.event_core.specs.declared.module_call.PortAnswer.TheVariants.{Ok as AnsweredOk, Failed}
use Rattle.event_core.specs.declared.module_call.ModuleCall.{ModuleCall}
use Rattle.event_core.specs.Acceptance.{AcceptanceSteps, fits, greatest_fitting, levels_below, place_of_next, stop_of}
use Rattle.event_core.specs.Boot.{IsFront, InTurn, AcceptsPiece, AcceptsRun, AcceptsRange, AcceptsBlock, share_call, Stage, Early, PoolAccepted, PoolShared, BlockAccepted, StagePart, pending_piece, set_runs}
use Rattle.event_core.specs.MemoryRows.{pending_in, pages_first, pages_count}
use Rattle.event_core.specs.Units.{guarded_units}

-- Whatever calls a boot has made, it can go on: there are calls of each of its parts, in which each call fails.

-- ---- acceptance by sizes

-- a call that failed
abbrev failed : ℕ → Level → ModuleCall
failed place level = record { kind = Accept; first = place; count = level_pages level; level = level; answer = Failed }

-- a 4 KiB call fits at each page of the set
small-fits : (set : ℕ → Bool) (place : ℕ) → set place ≡ true → fits set place Small ≡ true
unfolding fits
small-fits set place inside =
    let even : (place % 1 == 0) ≡ true = grind arith in
    rw (even, fits) (each_such_is set place 1 (record { passes = λ n low high. let same : n ≡ place = omega arith in ap set same ∙ inside }))

-- a failed call in front of others
failed-first : (hosts : List HostRun) (set : ℕ → Bool) (end from place : ℕ) (tried : Option Level) (level : Level) (calls : List ModuleCall) → place_of_next set end from tried ≡ Some place → greatest_fitting set place (levels_below tried) ≡ Some level
    → AcceptanceSteps hosts set end place (Some level) calls → AcceptanceSteps hosts set end from tried (failed place level ∷ calls)
failed-first hosts set end from place tried level calls next found steps = (next, found, record { kind = refl; count = refl }, inl refl, steps)

-- calls that go on where one of a level failed
abbrev GoesOn : List HostRun → (ℕ → Bool) → ℕ → ℕ → Option Level → Type 0
GoesOn hosts set end from tried = (calls : List ModuleCall) × AcceptanceSteps hosts set end from tried calls

-- the least level is tried, and fails
small-last : (hosts : List HostRun) (set : ℕ → Bool) (end from place : ℕ) (tried : Option Level) → place_of_next set end from tried ≡ Some place → greatest_fitting set place (levels_below tried) ≡ Some Small → GoesOn hosts set end from tried
small-last hosts set end from place tried next found = (failed place Small ∷ [], failed-first hosts set end from place tried Small [] next found refl)

after-large : (hosts : List HostRun) (set : ℕ → Bool) (end place : ℕ) → fits set place Small ≡ true → GoesOn hosts set end place (Some Large)
after-large hosts set end place small = small-last hosts set end place place (Some Large) refl (rw (small, greatest_fitting) refl)

large-next : (hosts : List HostRun) (set : ℕ → Bool) (end from place : ℕ) (tried : Option Level) → place_of_next set end from tried ≡ Some place → greatest_fitting set place (levels_below tried) ≡ Some Large → fits set place Small ≡ true → GoesOn hosts set end from tried
large-next hosts set end from place tried next found small =
    let rest = after-large hosts set end place small in
    (failed place Large ∷ rest.0, failed-first hosts set end from place tried Large rest.0 next found rest.1)

after-huge : (hosts : List HostRun) (set : ℕ → Bool) (end place : ℕ) → fits set place Small ≡ true → GoesOn hosts set end place (Some Huge)
after-huge hosts set end place small =
    elim (cases_Bool (fits set place Large)) [
      | inl t ↦ large-next hosts set end place place (Some Huge) refl (rw (t, greatest_fitting) refl) small
      | inr f ↦ small-last hosts set end place place (Some Huge) refl (rw (f, small, greatest_fitting) refl)
    ]

first-place : (hosts : List HostRun) (set : ℕ → Bool) (end from place : ℕ) → place_of_next set end from None ≡ Some place → fits set place Small ≡ true → GoesOn hosts set end from None
first-place hosts set end from place next small =
    elim (cases_Bool (fits set place Huge)) [
      | inl t ↦
          (let rest = after-huge hosts set end place small in
          (failed place Huge ∷ rest.0, failed-first hosts set end from place None Huge rest.0 next (rw (t, greatest_fitting) refl) rest.1))
      | inr f ↦
          elim (cases_Bool (fits set place Large)) [
            | inl l ↦ large-next hosts set end from place None next (rw (f, l, greatest_fitting) refl) small
            | inr s ↦ small-last hosts set end from place None next (rw (f, s, small, greatest_fitting) refl)
          ]
    ]

-- each size fails in turn at the first page of the set, or there is no page
pub steps-exist : (hosts : List HostRun) (set : ℕ → Bool) (end from : ℕ) → GoesOn hosts set end from None
steps-exist hosts set end from = by_place (first_such set from (end - from)) refl where
  by_place : (place : Option ℕ) → first_such set from (end - from) ≡ place → GoesOn hosts set end from None
  by_place None none = ([], none)
  by_place (Some place) found = first-place hosts set end from place found (small-fits set place (first_such-Some set from (end - from) place found).passes)

-- ---- the parts of boot

pub piece-exists : (boot : Boot) (before : List ModuleCall) (pages : Pages) → IsFront (AcceptsPiece boot before pages) []
piece-exists boot before pages =
    let steps = steps-exist boot.hosts (pending_piece boot before pages) (pages.first + pages.count) pages.first in
    (steps.0, stop_of steps.0, (steps.1, refl))

pub run-exists : (boot : Boot) (before : List ModuleCall) (run : Units) → IsFront (AcceptsRun boot before run) []
run-exists boot before run =
    let steps = steps-exist boot.hosts (pending_in boot before run) (pages_first boot run + pages_count boot run) (pages_first boot run) in
    (steps.0, stop_of steps.0, (steps.1, refl))

one-more : {Item : Type 0} (Part : List ModuleCall → Item → List ModuleCall → Option Page → Type 0) (before : List ModuleCall) (item : Item) (items : List Item) (calls : List ModuleCall)
    → ((after : List ModuleCall) → IsFront (InTurn Part after items) []) → IsFront (Part before item) calls → IsFront (InTurn Part before (item ∷ items)) calls
one-more Part before item items calls others (later, Some page, part) = (later, Some page, inl (page, part, refl))
one-more Part before item items calls others (later, None, part) =
    let rest = others (before ++ (calls ++ later)) in
    (later ++ rest.0, rest.1, inr (calls ++ later, rest.0, sym (append_assoc calls later rest.0), part, rest.2))

-- there are calls for all items in turn, where there are calls for each
pub turn-exists : {Item : Type 0} (Part : List ModuleCall → Item → List ModuleCall → Option Page → Type 0) → ((before : List ModuleCall) (item : Item) → IsFront (Part before item) []) → (before : List ModuleCall) (items : List Item) → IsFront (InTurn Part before items) []
turn-exists Part each before [] = ([], None, (refl, refl))
turn-exists Part each before (item ∷ items) = one-more Part before item items [] (λ after. turn-exists Part each after items) (each before item)

pub range-exists : (boot : Boot) (before : List ModuleCall) (start len : ℕ) → IsFront (AcceptsRange boot before start len) []
range-exists boot before start len = turn-exists (AcceptsRun boot) (run-exists boot) before (set_runs boot before (guarded_units boot start len))

pub block-exists : (boot : Boot) (before : List ModuleCall) (block : Block) → IsFront (AcceptsBlock boot before block) []
block-exists boot before block =
    elim (cases_Bool (block.order == 10)) [
      | inl ten ↦ ([], None, rw (ten, AcceptsBlock) (refl, refl))
      | inr less ↦
          (let range = range-exists boot before (4096 * block.first) (4096 * 2 ^ block.order) in
          (range.0, range.1, rw (less, AcceptsBlock) range.2))
    ]

pub stage-exists : (boot : Boot) (before : List ModuleCall) (stage : Stage) → IsFront (StagePart boot before stage) []
stage-exists boot before (Early pages) = piece-exists boot before pages
stage-exists boot before (PoolAccepted pages) = range-exists boot before (4096 * pages.first) (4096 * pages.count)
stage-exists boot before (PoolShared pages) = (share_call pages AnsweredOk ∷ [], None, refl)
stage-exists boot before (BlockAccepted block) = block-exists boot before block

-- ---- fronts of the work on items in turn

-- what is worked on to its end, or to a stop, is a front
pub front-whole : (Part : List ModuleCall → Option Page → Type 0) (calls : List ModuleCall) (stop : Option Page) → Part calls stop → IsFront Part calls
front-whole Part calls stop part = ([], stop, subst (λ cs. Part cs stop) (sym (append-nil calls)) part)

-- a front of the first item's calls is one of the calls of all
pub front-first : {Item : Type 0} (Part : List ModuleCall → Item → List ModuleCall → Option Page → Type 0) → ((before : List ModuleCall) (item : Item) → IsFront (Part before item) []) → (before : List ModuleCall) (item : Item) (items : List Item) (calls : List ModuleCall) → IsFront (Part before item) calls → IsFront (InTurn Part before (item ∷ items)) calls
front-first Part each before item items calls front = one-more Part before item items calls (λ after. turn-exists Part each after items) front
