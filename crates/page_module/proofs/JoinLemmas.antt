-- Lemmas on runs that are written anew, one after another.
use Rattle.std.proofs.Common.{◌≡◌, ◌≢◌, ℕ, ◌+◌, ◌<◌, ◌≤◌, List, [], ◌∷◌, ◌++◌, Option, Some, true, false, fold, ◌==◌, arith, refl, sym, ap, ◌∙◌, inl, inr, append_assoc}
use Rattle.std.specs.Option.{option_or}
use Rattle.std.proofs.lemmas.Bool.{cases_Bool}
use Rattle.std.proofs.lemmas.Bool.Decides.{nat_tests}
use Rattle.std.proofs.lemmas.Grind.{common_steps}
use Rattle.guest_base.specs.Ranges.{in_range}
use Rattle.guest_base.specs.declared.memory.PageRun.{PageRun}
use Rattle.guest_base.specs.declared.memory.PageState.{PageState}
use Rattle.guest_base.specs.declared.memory.PageState.TheVariants.{Pending, Accepted, Shared}
use Rattle.event_core.specs.Runs.{state_in, grown}
use Rattle.page_module.specs.Tables.{same_state, Rising, Differing}
use Rattle.page_module.specs.Building.{continues, both, joined, RunEnds}
use Rattle.event_core.specs.Runs.{run_end}
use Rattle.guest_base.proofs.RangeLemmas.{in_range-intro, in_range-below, in_range-past}
use Rattle.page_module.proofs.RangeCases.{where_is, below, within, past}

pub joined-snoc : (xs : List PageRun) (x r : PageRun) → joined (xs ++ x ∷ []) r ≡ xs ++ both x r
joined-snoc [] x r = refl
joined-snoc (y ∷ []) x r = refl
joined-snoc (y ∷ z ∷ zs) x r = ap (λ (l : List PageRun). y ∷ l) (joined-snoc (z ∷ zs) x r)

pub state_in-append : (xs ys : List PageRun) (page : ℕ) → state_in (xs ++ ys) page ≡ option_or (state_in xs page) (state_in ys page)
state_in-append [] ys page = refl
state_in-append (x ∷ xs) ys page =
    elim (cases_Bool (in_range x.pages.first x.pages.count page)) [ inl t ↦ rw t refl | inr f ↦ rw f (state_in-append xs ys page) ]

pub same_state-true : (a b : PageState) → same_state a b ≡ true → a ≡ b
same_state-true Pending Pending e = refl
same_state-true Pending Accepted e = cc
same_state-true Pending Shared e = cc
same_state-true Accepted Pending e = cc
same_state-true Accepted Accepted e = refl
same_state-true Accepted Shared e = cc
same_state-true Shared Pending e = cc
same_state-true Shared Accepted e = cc
same_state-true Shared Shared e = refl

pub same_state-refl : (a : PageState) → same_state a a ≡ true
same_state-refl Pending = refl
same_state-refl Accepted = refl
same_state-refl Shared = refl

-- what it says that a run goes on
record GoesOn (x r : PageRun) : Type 0 where
  pub touches : x.pages.first + x.pages.count ≡ r.pages.first
  pub same : x.state ≡ r.state

goes-on : (x r : PageRun) → continues x r ≡ true → GoesOn x r
goes-on x r e =
    elim (cases_Bool (x.pages.first + x.pages.count == r.pages.first)) [
      | inl t ↦ record {
        touches = grind (arith, nat_tests);
        same = same_state-true x.state r.state (rw t at e);
      }
      | inr f ↦ let z : false ≡ true = rw f at e in cc
    ]

stops : (x r : PageRun) → continues x r ≡ false → x.pages.first + x.pages.count ≡ r.pages.first → x.state ≢ r.state
stops x r e t s =
    let a : (x.pages.first + x.pages.count == r.pages.first) ≡ true = grind (arith, nat_tests) in
    let b : same_state x.state r.state ≡ true = rw s (same_state-refl r.state) in
    let z : true ≡ false = rw (a, b) at e in
    cc

both-states : (x r : PageRun) (page : ℕ) → state_in (both x r) page ≡ state_in (x ∷ r ∷ []) page
both-states x r page =
    elim (cases_Bool (continues x r)) [
      | inl e ↦ rw e (grown-states (goes-on x r e))
      | inr e ↦ rw e refl
    ]
  where
    grown-states : GoesOn x r → state_in (grown x r ∷ []) page ≡ state_in (x ∷ r ∷ []) page
    grown-states g =
        let t = g.touches in
        elim (where_is x.pages.first x.pages.count page) [
          | below u ↦ rw (
            in_range-below x.pages.first (x.pages.count + r.pages.count) page u,
            in_range-below x.pages.first x.pages.count page u,
            in_range-below r.pages.first r.pages.count page (omega arith),
          ) refl
          | within u v ↦ rw (in_range-intro x.pages.first (x.pages.count + r.pages.count) page u (omega arith), in_range-intro x.pages.first x.pages.count page u v) refl
          | past u ↦ elim (where_is r.pages.first r.pages.count page) [
            | below v ↦ absurd (omega arith)
            | within v w ↦ rw (
              in_range-intro x.pages.first (x.pages.count + r.pages.count) page (omega arith) (omega arith),
              in_range-past x.pages.first x.pages.count page u,
              in_range-intro r.pages.first r.pages.count page v w,
            ) (ap (λ (s : PageState). Some s) g.same)
            | past v ↦ rw (
              in_range-past x.pages.first (x.pages.count + r.pages.count) page (omega arith),
              in_range-past x.pages.first x.pages.count page u,
              in_range-past r.pages.first r.pages.count page v,
            ) refl
          ]
        ]

joined-states : (xs : List PageRun) (r : PageRun) (page : ℕ) → state_in (joined xs r) page ≡ state_in (xs ++ r ∷ []) page
joined-states [] r page = refl
joined-states (x ∷ []) r page = both-states x r page
joined-states (x ∷ y ∷ ys) r page =
    elim (cases_Bool (in_range x.pages.first x.pages.count page)) [ inl t ↦ rw t refl | inr f ↦ rw f (joined-states (y ∷ ys) r page) ]

-- writing runs anew changes no state
pub fold-states : (acc xs : List PageRun) (page : ℕ) → state_in (fold joined acc xs) page ≡ state_in (acc ++ xs) page
fold-states acc [] page = let e : acc ++ [] ≡ acc = grind (arith, common_steps) in rw e refl
fold-states acc (x ∷ xs) page =
    fold-states (joined acc x) xs page
    ∙ state_in-append (joined acc x) xs page
    ∙ ap (λ (o : Option PageState). option_or o (state_in xs page)) (joined-states acc x page)
    ∙ sym (state_in-append (acc ++ x ∷ []) xs page)
    ∙ ap (λ (l : List PageRun). state_in l page) (append_assoc acc (x ∷ []) xs)

-- where the last run ends
abbrev pub end_after : ℕ → List PageRun → ℕ
end_after from [] = from
end_after from (x ∷ xs) = end_after (run_end x) xs

pub rising-end : (from : ℕ) (xs : List PageRun) → Rising from xs → from ≤ end_after from xs
rising-end from [] h = omega arith
rising-end from (x ∷ xs) h = let e = rising-end (run_end x) xs h.3 in let a = h.0 in omega arith

both-rising : (from : ℕ) (x r : PageRun) → Rising from (x ∷ []) → run_end x ≤ r.pages.first → 0 < r.pages.count → RunEnds r →
    Rising from (both x r) × (end_after from (both x r) ≡ run_end r)
both-rising from x r h l c e =
    elim (cases_Bool (continues x r)) [
      | inl t ↦
          let g = goes-on x r t in
          let touch = g.touches in
          let a = h.1 in
          rw t ((h.0, omega arith, omega arith, tt), omega arith)
      | inr t ↦ rw t ((h.0, h.1, h.2, (l, c, e, tt)), refl)
    ]

joined-rising : (from : ℕ) (xs : List PageRun) (r : PageRun) → Rising from xs → end_after from xs ≤ r.pages.first → 0 < r.pages.count → RunEnds r →
    Rising from (joined xs r) × (end_after from (joined xs r) ≡ run_end r)
joined-rising from [] r h l c e = ((l, c, e, tt), refl)
joined-rising from (x ∷ []) r h l c e = both-rising from x r h l c e
joined-rising from (x ∷ y ∷ ys) r h l c e =
    let k = joined-rising (run_end x) (y ∷ ys) r h.3 l c e in
    ((h.0, h.1, h.2, k.0), k.1)

pub fold-rising : (from : ℕ) (acc xs : List PageRun) → Rising from acc → Rising (end_after from acc) xs → Rising from (fold joined acc xs)
fold-rising from acc [] h k = h
fold-rising from acc (x ∷ xs) h k =
    let j = joined-rising from acc x h k.0 k.1 k.2 in
    fold-rising from (joined acc x) xs j.0 (rw j.1 k.3)

joined-differing : (xs : List PageRun) (r : PageRun) → Differing xs → Differing (joined xs r)
joined-differing [] r h = tt
joined-differing (x ∷ []) r h =
    elim (cases_Bool (continues x r)) [ inl e ↦ rw e tt | inr e ↦ rw e (stops x r e, tt) ]
joined-differing (x ∷ y ∷ []) r h =
    elim (cases_Bool (continues y r)) [ inl e ↦ rw e (h.0, tt) | inr e ↦ rw e (h.0, (stops y r e, tt)) ]
joined-differing (x ∷ y ∷ z ∷ zs) r h = (h.0, joined-differing (y ∷ z ∷ zs) r h.1)

pub fold-differing : (acc xs : List PageRun) → Differing acc → Differing (fold joined acc xs)
fold-differing acc [] h = h
fold-differing acc (x ∷ xs) h = fold-differing (joined acc x) xs (joined-differing acc x h)
