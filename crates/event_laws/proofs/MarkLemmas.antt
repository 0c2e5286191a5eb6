use Rattle.std.proofs.Common.{◌≡◌, ℕ, ◌<◌, ◌≤◌, Bool, true, false, ◌&&◌, List, [], ◌∷◌, ◌++◌, refl, sym, ◌∙◌, ap, inl, inr, arith, cond, nat_lt}
use Rattle.std.specs.Prelude.{fold, ◌⊎◌}
use Rattle.std.specs.List.{AllByRecursion}
use Rattle.std.proofs.lemmas.Bool.{cases_Bool}
use Rattle.std.proofs.lemmas.Bool.Decides.{nat_tests}
use Rattle.event_core.specs.declared.module_call.CallKind.{CallKind}
use Rattle.event_core.specs.declared.module_call.CallKind.TheVariants.{Accept}
use Rattle.event_core.specs.declared.module_call.ModuleCall.{ModuleCall}
use Rattle.event_core.specs.Blocks.{shares, up_to_share, behind_share, calls_below}
use Rattle.event_core.specs.Calls.{is_done, covers}
use Rattle.event_core.specs.Units.{mark_made, mark_step}

-- The marks of pages after some of the calls, and after all.

-- ---- calls below a page

below-step : (end : ℕ) (call : ModuleCall) (calls : List ModuleCall) (b : Bool) → nat_lt call.first end ≡ b → calls_below end (call ∷ calls) ≡ cond b (call ∷ calls_below end calls) (calls_below end calls)
below-step end call calls b is = ap (λ (c : Bool). cond c (call ∷ calls_below end calls) (calls_below end calls)) is

pub below-none : (end : ℕ) (calls : List ModuleCall) → AllByRecursion (λ (call : ModuleCall). end ≤ call.first) calls → calls_below end calls ≡ []
below-none end [] all = refl
below-none end (call ∷ calls) all =
    let high = all.0 in
    let not : nat_lt call.first end ≡ false = grind (arith, nat_tests, high) in
    below-step end call calls false not ∙ below-none end calls all.1

pub below-all : (end : ℕ) (calls : List ModuleCall) → AllByRecursion (λ (call : ModuleCall). call.first < end) calls → calls_below end calls ≡ calls
below-all end [] all = refl
below-all end (call ∷ calls) all =
    let low = all.0 in
    let is : nat_lt call.first end ≡ true = grind (arith, nat_tests, low) in
    below-step end call calls true is ∙ ap (λ cs. call ∷ cs) (below-all end calls all.1)

-- ---- marks

uncovered : (done covered : Bool) (x y : Bool) → covered ≡ false → cond (done && covered) x y ≡ y
uncovered false covered x y out = refl
uncovered true false x y out = refl
uncovered true true x y out = cc

-- a call begins below a page, or isn't about another
abbrev pub Counts : ℕ → ℕ → ModuleCall → Type 0
Counts end page call = (call.first < end) ⊎ (covers call page ≡ false)

pub marks-below : (end page : ℕ) (marked : Bool) (calls : List ModuleCall) → AllByRecursion (Counts end page) calls → fold (mark_step page) marked (calls_below end calls) ≡ fold (mark_step page) marked calls
marks-below end page marked [] all = refl
marks-below end page marked (call ∷ calls) all =
    elim (cases_Bool (nat_lt call.first end)) [
      | inl below ↦ ap (fold (mark_step page) marked) (below-step end call calls true below) ∙ marks-below end page (mark_step page marked call) calls all.1
      | inr above ↦
          ap (fold (mark_step page) marked) (below-step end call calls false above) ∙ marks-below end page marked calls all.1
          ∙ ap (λ m. fold (mark_step page) m calls) (sym (uncovered (is_done call) (covers call page) (mark_made call.kind marked) marked (out above all.0)))
    ]
  where
    out : nat_lt call.first end ≡ false → Counts end page call → covers call page ≡ false
    out above (inl low) = absurd (grind (arith, nat_tests, low, above))
    out above (inr apart) = apart

-- what isn't marked stays so, where calls only accept
accept-marks : (b : Bool) (kind : CallKind) → kind ≡ Accept → cond b (mark_made kind false) false ≡ false
accept-marks true kind is = ap (λ k. mark_made k false) is
accept-marks false kind is = refl

pub marks-none : (page : ℕ) (calls : List ModuleCall) → AllByRecursion (λ (call : ModuleCall). call.kind ≡ Accept) calls → fold (mark_step page) false calls ≡ false
marks-none page [] all = refl
marks-none page (call ∷ calls) all =
    ap (λ m. fold (mark_step page) m calls) (accept-marks (is_done call && covers call page) call.kind all.0) ∙ marks-none page calls all.1

pub below-keep : (P : ModuleCall → Type 0) (end : ℕ) (calls : List ModuleCall) → AllByRecursion P calls → AllByRecursion P (calls_below end calls)
below-keep P end [] all = tt
below-keep P end (call ∷ calls) all =
    elim (cases_Bool (nat_lt call.first end)) [
      | inl below ↦ rw (below-step end call calls true below) (all.0, below-keep P end calls all.1)
      | inr above ↦ rw (below-step end call calls false above) (below-keep P end calls all.1)
    ]

-- ---- calls up to the share, and behind it

pub up-to : (xs : List ModuleCall) (share : ModuleCall) (ys : List ModuleCall) → AllByRecursion (λ (call : ModuleCall). call.kind ≡ Accept) xs → shares share.kind ≡ true → up_to_share (xs ++ share ∷ ys) ≡ xs ++ share ∷ []
up-to [] share ys all is = ap (λ (b : Bool). share ∷ elim b as (λ _. List ModuleCall) [ true ↦ [] | false ↦ up_to_share ys ]) is
up-to (x ∷ xs) share ys all is =
    let no : shares x.kind ≡ false = ap shares all.0 in
    ap (λ (b : Bool). x ∷ elim b as (λ _. List ModuleCall) [ true ↦ [] | false ↦ up_to_share (xs ++ share ∷ ys) ]) no ∙ ap (λ cs. x ∷ cs) (up-to xs share ys all.1 is)

pub behind : (xs : List ModuleCall) (share : ModuleCall) (ys : List ModuleCall) → AllByRecursion (λ (call : ModuleCall). call.kind ≡ Accept) xs → shares share.kind ≡ true → behind_share (xs ++ share ∷ ys) ≡ ys
behind [] share ys all is = ap (λ (b : Bool). elim b as (λ _. List ModuleCall) [ true ↦ ys | false ↦ behind_share ys ]) is
behind (x ∷ xs) share ys all is =
    let no : shares x.kind ≡ false = ap shares all.0 in
    ap (λ (b : Bool). elim b as (λ _. List ModuleCall) [ true ↦ xs ++ share ∷ ys | false ↦ behind_share (xs ++ share ∷ ys) ]) no ∙ behind xs share ys all.1 is
