use Rattle.std.proofs.Common.{◌≡◌, ℕ, ◌+◌, ◌^◌, ◌<◌, ◌≤◌, Bool, Option, None, Some, List, [], ◌∷◌, ◌++◌, sym, ◌∙◌, ap, subst, arith, append_assoc, append-nil}
use Rattle.std.specs.Prelude.{All, SomeIff, sum_by}
use Rattle.std.proofs.lemmas.List.{map-append}
use Rattle.std.proofs.lemmas.List.Sums.{sum_by-append}
use Rattle.std.proofs.lemmas.List.Elements.{All-append, All-cons, All-nil}
use Rattle.event_core.specs.declared.boot.Boot.{Boot}
use Rattle.guest_base.specs.declared.memory.Units.{Units}
use Rattle.event_core.specs.Units.{first_run, units_end}
use Rattle.memory_core.specs.Bitmaps.{AreRunsFrom}
use Rattle.guest_cpu.specs.declared.progress.RunRoom.{RunRoom}
use Rattle.guest_cpu.specs.Kept.{HasRoom, most_of, runs_in}

-- Room for one run after another.

in-more : (rooms : List RunRoom) (room : RunRoom) (run : Units) (rest : List Units) → room.run ≡ run → runs_in (rooms ++ room ∷ []) ++ rest ≡ runs_in rooms ++ (run ∷ rest)
in-more rooms room run rest is =
    ap (λ (rs : List Units). rs ++ rest) (map-append (λ (r : RunRoom). r.run) rooms (room ∷ []))
    ∙ append_assoc (runs_in rooms) (room.run ∷ []) rest
    ∙ ap (λ (r : Units). runs_in rooms ++ (r ∷ rest)) is

pub rooms-more : (test : ℕ → Bool) (first at end : ℕ) (rooms : List RunRoom) (room : RunRoom) (run : Units) → first_run test at end ≡ Some run → room.run ≡ run
    → ((rest : List Units) → AreRunsFrom test at end rest → AreRunsFrom test first end (runs_in rooms ++ rest))
    → (rest : List Units) → AreRunsFrom test (units_end run) end rest → AreRunsFrom test first end (runs_in (rooms ++ room ∷ []) ++ rest)
rooms-more test first at end rooms room run next is so_far rest behind =
    let R : List Units → Type 0 = λ rs. AreRunsFrom test first end rs in
    subst R (sym (in-more rooms room run rest is)) (so_far (run ∷ rest) (next, behind))

pub rooms-end : (test : ℕ → Bool) (first at end : ℕ) (rooms : List RunRoom) → first_run test at end ≡ None
    → ((rest : List Units) → AreRunsFrom test at end rest → AreRunsFrom test first end (runs_in rooms ++ rest)) → AreRunsFrom test first end (runs_in rooms)
rooms-end test first at end rooms none so_far =
    let R : List Units → Type 0 = λ rs. AreRunsFrom test first end rs in
    subst R (append-nil (runs_in rooms)) (so_far [] none)

-- room for one more run
pub enough-more : (boot : Boot) (rooms : List RunRoom) (room : RunRoom) → All (HasRoom boot) rooms → HasRoom boot room → All (HasRoom boot) (rooms ++ room ∷ [])
enough-more boot rooms room all here = All-append (HasRoom boot) rooms (room ∷ []) all (All-cons (HasRoom boot) room [] here (All-nil (HasRoom boot)))

pub most-more : (boot : Boot) (rooms : List RunRoom) (room : RunRoom) (run : Units) (calls more : ℕ) → room.run ≡ run → sum_by (most_of boot) (runs_in rooms) ≤ calls → more ≡ calls + most_of boot run → sum_by (most_of boot) (runs_in (rooms ++ room ∷ [])) ≤ more
most-more boot rooms room run calls more is most all =
    let split = ap (sum_by (most_of boot)) (map-append (λ (r : RunRoom). r.run) rooms (room ∷ [])) ∙ sum_by-append (most_of boot) (runs_in rooms) (room.run ∷ []) ∙ ap (λ (r : Units). sum_by (most_of boot) (runs_in rooms) + sum_by (most_of boot) (r ∷ [])) is in
    let one = one-sum (most_of boot) run in
    omega (arith, split, one, most, all)
  where
    one-sum : (f : Units → ℕ) (x : Units) → sum_by f (x ∷ []) ≡ f x
    one-sum f x = omega arith

-- a sum that was found to fit
pub summed : (o : Option ℕ) (sum found : ℕ) → SomeIff o (sum < 2 ^ 64) sum → o ≡ Some found → (sum < 2 ^ 64) × (found ≡ sum)
summed o sum found iff is =
    let S : Option ℕ → Type 0 = λ x. SomeIff x (sum < 2 ^ 64) sum in
    subst S is iff
