use Rattle.std.proofs.Common.{◌≡◌, ℕ, zero, suc, Some, List, [], ◌∷◌, set, ◌∙◌, subst, sym, ap, refl, slice_get}
use Rattle.guest_steps.specs.Running.{EachLater, IsFresh, StaysLater}
use Rattle.guest_steps.specs.Seen.{Seen}

-- The same processors later.

module _ {T : Type 0} (seen : T → Seen) (NeverFails : T → Type 0) where
  pub stays-later : (a b c : T) → StaysLater seen NeverFails a b → StaysLater seen NeverFails b c → StaysLater seen NeverFails a c
  stays-later a b c one other = record {
    later = record {
      boot = other.later.boot ∙ one.later.boot;
      number = other.later.number ∙ one.later.number;
      script = other.later.script ∙ one.later.script;
      made_before = other.later.made_before ∙ one.later.made_before;
      faults_before = other.later.faults_before ∙ one.later.faults_before;
      reported = other.later.reported;
    };
    never_fails = λ never. other.never_fails (one.never_fails never);
  }

  -- one of them goes on
  pub later-set : (first all : List T) (cpu : ℕ) (was now : T) → EachLater seen NeverFails first all → slice_get all cpu ≡ Some was → StaysLater seen NeverFails was now
      → EachLater seen NeverFails first (set all cpu now)
  later-set [] [] cpu was now each at stays = cc
  later-set [] (x ∷ xs) cpu was now each at stays = absurd each
  later-set (f ∷ fs) [] cpu was now each at stays = absurd each
  later-set (f ∷ fs) (x ∷ xs) zero was now each at stays =
      let same : x ≡ was = cc in
      (stays-later f x now each.0 (subst (λ y. StaysLater seen NeverFails y now) (sym same) stays), each.1)
  later-set (f ∷ fs) (x ∷ xs) (suc cpu) was now each at stays = (each.0, later-set fs xs cpu was now each.1 at stays)

  -- nothing is left to report of a processor that has made no entry
  fresh-later : (c : T) → IsFresh (seen c) → StaysLater seen NeverFails c c
  fresh-later c fresh = record {
    later = record { boot = refl; number = refl; script = refl; made_before = refl; faults_before = refl; reported = ap (λ (s : Seen). s.done) fresh };
    never_fails = λ never. never;
  }

  pub later-first : (all : List T) → ((cpu : ℕ) (c : T) → slice_get all cpu ≡ Some c → IsFresh (seen c)) → EachLater seen NeverFails all all
  later-first [] fresh = tt
  later-first (c ∷ all) fresh = (fresh-later c (fresh 0 c refl), later-first all (λ cpu d at. fresh (suc cpu) d at))
