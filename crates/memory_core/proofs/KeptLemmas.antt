use Rattle.std.proofs.Common.{◌≡◌, ℕ, zero, suc, ◌+◌, ◌-◌, ◌<◌, ◌≤◌, Bool, None, Some, List, [], ◌∷◌, ◌++◌, refl, sym, ◌∙◌, ap, subst, arith, append-nil, length}
use Rattle.std.specs.Prelude.{drop, slice_get, slice_set, Vec, vec_capacity}
use Rattle.std.specs.declared.alloc.Global.{Global}
use Rattle.std.proofs.lemmas.List.{length_push}
use Rattle.std.proofs.lemmas.Option.{slice_get_within}
use Rattle.guest_base.specs.Search.{count_such}
use Rattle.guest_base.specs.declared.memory.Units.{Units}
use Rattle.event_core.specs.Units.{first_run, units_end}
use Rattle.accept_sizes.specs.declared.accept.RunEnd.{RunEnd}
use Rattle.accept_sizes.specs.declared.accept.RunEnd.TheVariants.{Whole, Stopped}
use Rattle.memory_core.specs.Bitmaps.{AreRunsFrom, next_of}
use Rattle.memory_core.proofs.UnitsLemmas.{first_run-facts, first_run-same, run-counts}

-- ---- the runs that a claim keeps

-- they depend on the bits alone
pub runs-same : (test other : ℕ → Bool) → ((unit : ℕ) → test unit ≡ other unit) → (from end : ℕ) (runs : List Units) → AreRunsFrom test from end runs → AreRunsFrom other from end runs
runs-same test other same from end [] are = sym (first_run-same test other from end (λ unit low high. same unit)) ∙ are
runs-same test other same from end (run ∷ runs) are = (sym (first_run-same test other from end (λ unit low high. same unit)) ∙ are.0, runs-same test other same (units_end run) end runs are.1)

-- the next one that is kept is the first run behind
pub kept-first : (test : ℕ → Bool) (from end : ℕ) (runs : List Units) (at : ℕ) → AreRunsFrom test from end (drop at runs) → slice_get runs at ≡ first_run test from end
kept-first test from end [] zero are = sym are
kept-first test from end [] (suc at) are = sym are
kept-first test from end (run ∷ runs) zero are = sym are.0
kept-first test from end (run ∷ runs) (suc at) are = kept-first test from end runs at are

kept-suc : (test : ℕ → Bool) (from end : ℕ) (runs : List Units) (at : ℕ) (run : Units) → AreRunsFrom test from end (drop at runs) → slice_get runs at ≡ Some run → AreRunsFrom test (units_end run) end (drop (suc at) runs)
kept-suc test from end [] zero run are is = cc
kept-suc test from end [] (suc at) run are is = cc
kept-suc test from end (first ∷ runs) zero run are is = (let same : first ≡ run = cc in subst (λ r. AreRunsFrom test (units_end r) end runs) same are.1)
kept-suc test from end (first ∷ runs) (suc at) run are is = kept-suc test from end runs at run are is

-- and those behind it are the runs behind that one
pub kept-rest : (test : ℕ → Bool) (from end : ℕ) (runs : List Units) (at : ℕ) (run : Units) → AreRunsFrom test from end (drop at runs) → slice_get runs at ≡ Some run → AreRunsFrom test (units_end run) end (drop (at + 1) runs)
kept-rest test from end runs at run are is = (let next : suc at ≡ at + 1 = omega arith in subst (λ n. AreRunsFrom test (units_end run) end (drop n runs)) next (kept-suc test from end runs at run are is))

-- one that is found has a place in the list
pub opened-less : (runs : List Units) (opened : ℕ) (end : RunEnd) (run : Units) → next_of runs opened end ≡ Some run → opened < length runs
opened-less runs opened Whole run is = slice_get_within runs opened run is
opened-less runs opened (Stopped page) run is = cc

-- ---- a list of runs is written

-- what is written goes on with the runs behind it, for which there is room
pub record Written (test : ℕ → Bool) (from at end : ℕ) (runs : Vec Units Global) : Type 0 where
  pub so_far : (rest : List Units) → AreRunsFrom test at end rest → AreRunsFrom test from end (runs.items ++ rest)
  pub room : length runs.items + count_such test at (end - at) ≤ vec_capacity runs

pub written-start : (test : ℕ → Bool) (from end : ℕ) (runs : Vec Units Global) → runs.items ≡ [] → count_such test from (end - from) ≤ vec_capacity runs → Written test from from end runs
written-start test from end runs none enough =
    let long : length runs.items ≡ 0 = ap (λ (rs : List Units). length rs) none in
    record { so_far = λ rest are. subst (λ rs. AreRunsFrom test from end (rs ++ rest)) (sym none) are; room = omega (arith, long, enough) }

append-assoc : (xs : List Units) (run : Units) (rest : List Units) → (xs ++ run ∷ []) ++ rest ≡ xs ++ run ∷ rest
append-assoc [] run rest = refl
append-assoc (x ∷ xs) run rest = ap (λ rs. x ∷ rs) (append-assoc xs run rest)

pub written-more : (test : ℕ → Bool) (from at end : ℕ) (runs runs' : Vec Units Global) (run : Units) → Written test from at end runs → first_run test at end ≡ Some run → runs'.items ≡ runs.items ++ run ∷ [] → vec_capacity runs ≤ vec_capacity runs' → Written test from (run.first + run.count) end runs'
written-more test from at end runs runs' run w found is more =
    let facts = first_run-facts test at end run found in
    let counts = run-counts test at end run facts in
    let some = facts.some in
    let fits = w.room in
    let long : length runs'.items ≡ length runs.items + 1 = ap (λ (rs : List Units). length rs) is ∙ length_push runs.items run in
    record {
      so_far = λ rest are. subst (λ rs. AreRunsFrom test from end rs) (sym (ap (λ rs. rs ++ rest) is ∙ append-assoc runs.items run rest)) (w.so_far (run ∷ rest) (found, are));
      room = omega (arith, counts, some, fits, long, more);
    }

pub written-end : (test : ℕ → Bool) (from at end : ℕ) (runs : Vec Units Global) → Written test from at end runs → first_run test at end ≡ None → AreRunsFrom test from end runs.items
written-end test from at end runs w none = subst (λ rs. AreRunsFrom test from end rs) (append-nil runs.items) (w.so_far [] none)

-- a place is free for one more
pub written-free : (test : ℕ → Bool) (from at end : ℕ) (runs : Vec Units Global) (run : Units) → Written test from at end runs → first_run test at end ≡ Some run → length runs.items < vec_capacity runs
written-free test from at end runs run w found =
    let facts = first_run-facts test at end run found in
    let counts = run-counts test at end run facts in
    let some = facts.some in
    let fits = w.room in
    omega (arith, counts, some, fits)

-- ---- a place of a list that is set twice

pub set-twice : {A : Type 0} (xs : List A) (at : ℕ) (a b : A) → slice_set (slice_set xs at a) at b ≡ slice_set xs at b
set-twice [] zero a b = refl
set-twice [] (suc at) a b = refl
set-twice (x ∷ xs) zero a b = refl
set-twice (x ∷ xs) (suc at) a b = ap (λ ys. x ∷ ys) (set-twice xs at a b)
