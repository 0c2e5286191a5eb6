use Rattle.std.proofs.Common.{◌≡◌, ℕ, zero, suc, Bool, true, false, Option, None, Some, List, [], ◌∷◌, refl, arith, cond, if◌then◌else◌}
use Rattle.std.specs.Prelude.{◌<◌, ◌==◌, ◌&&◌, fold}
use Rattle.std.specs.List.{list_all}
use Rattle.std.specs.Option.{option_map}
use Rattle.std.proofs.lemmas.Bool.Decides.{nat_tests}
use Rattle.guest_base.specs.Ranges.{in_range}
use Rattle.guest_base.specs.declared.memory.PageRun.{PageRun}
use Rattle.guest_base.specs.declared.memory.PageState.{PageState}
use Rattle.guest_base.specs.declared.memory.PageState.TheVariants.{Pending, Accepted}
use Rattle.event_core.specs.declared.module_call.PortAnswer.TheVariants as answer
use Rattle.event_core.specs.declared.entry.Entry.{Entry}
use Rattle.event_core.specs.Runs.{state_in}
use Rattle.event_core.specs.Calls.{calls_of, SoundCalls}
use Rattle.event_core.specs.Claims.{Claimed, Standing, claim_of, claim_step, standing_step, ClaimsApart}
use Rattle.event_core.specs.AcceptedOnce.{AcceptedOnce}
use Rattle.event_rows.proofs.SplitLemmas.{AfterEach, each-prefix}
use Rattle.event_rows.specs.Giving.{giving_guest, giving_history, given_block, give_call}

-- ---- each call finds its pages as it needs them

at_first : (inside : Bool) → inside ≡ true → option_map (λ (run : PageRun). run.state) (cond inside (Some (record { pages = record { first = 0; count = 1024 }; state = Accepted })) None) ≡ Some Accepted
at_first true h = refl
at_first false h = cc

when_given : (inside : Bool) (state : Option PageState) → inside ≡ true → (if inside then Some Pending else state) ≡ Some Pending
when_given true state h = refl
when_given false state h = cc

behind_other : (other inside : Bool) (state : Option PageState) → other ≡ false → inside ≡ true → (if other then Some Accepted else (if inside then Some Pending else state)) ≡ Some Pending
behind_other true inside state o h = cc
behind_other false true state o h = refl
behind_other false false state o h = cc

in_low : (page : ℕ) → in_range 0 512 page ≡ true → in_range 0 1024 page ≡ true
in_low page h = grind (arith, nat_tests, h)

in_high : (page : ℕ) → in_range 512 512 page ≡ true → in_range 0 1024 page ≡ true
in_high page h = grind (arith, nat_tests, h)

not_low : (page : ℕ) → in_range 512 512 page ≡ true → in_range 0 512 page ≡ false
not_low page h = grind (arith, nat_tests, h)

giving-sound : SoundCalls (state_in giving_guest.ram) (calls_of giving_guest (giving_history true))
giving-sound = (
  λ page h. at_first (in_range 0 1024 page) h,
  (
    λ page h. at_first (in_range 0 1024 page) h,
    (
      λ page h. when_given (in_range 0 1024 page) (state_in giving_guest.ram page) (in_low page h),
      (λ page h. behind_other (in_range 0 512 page) (in_range 0 1024 page) (state_in giving_guest.ram page) (not_low page h) (in_high page h), tt),
    ),
  ),
)

-- ---- one processor alone has claims

left_as : (same : Bool) (made was : Option Claimed) → same ≡ false → was ≡ None → (if same then made else was) ≡ None
left_as true made was h w = cc
left_as false made was h w = w

unlike : (a b : ℕ) → a ≡ 0 → 0 < b → (a == b) ≡ false
unlike a b h low = grind (arith, nat_tests, h, low)

by_first : List Entry → Bool
by_first entries = list_all (λ (e : Entry). e.cpu.0 == 0) entries

is_first : (a : ℕ) → (a == 0) ≡ true → a ≡ 0
is_first a h = grind (arith, nat_tests, h)

split_and : (b c : Bool) → (b && c) ≡ true → (b ≡ true) × (c ≡ true)
split_and true c h = (refl, h)
split_and false c h = cc

none_of_others : (cpu : ℕ) → 0 < cpu → (entries : List Entry) (at : Standing) → by_first entries ≡ true → at.claim ≡ None → (fold (standing_step giving_guest cpu) at entries).claim ≡ None
unfolding by_first
none_of_others cpu low [] at h none = none
none_of_others cpu low (e ∷ entries) at h none =
    let first = split_and (e.cpu.0 == 0) (by_first entries) h in
    none_of_others cpu low entries (standing_step giving_guest cpu at e) first.1
    (left_as (e.cpu.0 == cpu) (claim_step giving_guest at.calls at.claim e.event) at.claim (unlike e.cpu.0 cpu (is_first e.cpu.0 first.0) low) none)

other_claims : (entries : List Entry) (cpu : ℕ) → 0 < cpu → by_first entries ≡ true → claim_of giving_guest entries cpu ≡ None
unfolding claim_of
other_claims entries cpu low h = none_of_others cpu low entries (record { calls = giving_guest.calls; claim = None }) h refl

abbrev Alone : List Entry → Type 0
Alone before = by_first before ≡ true

alone : AfterEach Alone [] (giving_history true)
unfolding by_first
alone = (refl, (refl, (refl, (refl, (refl, (refl, (refl, (refl, (refl, (refl, (refl, (refl, (refl, refl)))))))))))))

some_none : (claim : Option Claimed) (a : Claimed) → claim ≡ None → claim ≡ Some a → ⊥
some_none None a h k = cc
some_none (Some b) a h k = cc

apart_of : (before : List Entry) → Alone before → ClaimsApart giving_guest before
apart_of before only zero zero a b other h k = absurd (other refl)
apart_of before only (suc c) d a b other h k = absurd (some_none (claim_of giving_guest before (suc c)) a (other_claims before (suc c) (omega arith) only) h)
apart_of before only zero (suc d) a b other h k = absurd (some_none (claim_of giving_guest before (suc d)) b (other_claims before (suc d) (omega arith) only) k)

pub giving-once : AcceptedOnce giving_guest (giving_history true)
giving-once = record { sound = giving-sound; apart = λ before later is. apart_of before (each-prefix Alone (giving_history true) alone before later is) }

pub given_twice-not : SoundCalls (state_in giving_guest.ram) (give_call given_block answer.Ok ∷ give_call given_block answer.Ok ∷ []) → ⊥
given_twice-not sound = let no : Some Pending ≡ Some Accepted = sound.1.0 0 refl in cc
