use Rattle.std.proofs.Common.{◌≡◌, ℕ, Bool, true, false, List, [], ◌∷◌, ◌++◌, map, length, ◌≤◌, refl, sym, ◌∙◌, ap, subst, inl, inr, arith, append_assoc, append-nil, cond, eqb-true}
use Rattle.std.specs.Prelude.{AllPairs, filter, ◌==◌}
use Rattle.std.proofs.lemmas.List.{map-append, length-append}
use Rattle.std.proofs.lemmas.List.Elements.{filter-append}
use Rattle.std.proofs.lemmas.List.Kept.{AllPairs-filter}
use Rattle.std.proofs.lemmas.List.Quantifiers.{all_pairs_push}
use Rattle.std.proofs.lemmas.Bool.{eq-eqb, cases_lt}
use Rattle.event_core.specs.declared.boot.Boot.{Boot}
use Rattle.event_core.specs.declared.command.Command.{Command}
use Rattle.event_core.specs.declared.entry.Place.{Place}
use Rattle.event_core.specs.declared.entry.Place.TheVariants as place
use Rattle.event_core.specs.declared.entry.Entry.{Entry}
use Rattle.event_core.specs.Moved.{Moved, entries_of, made_by}
use Rattle.event_core.specs.Legal.{ComesBefore, bare, same_place, at_place, Follows, with_bytes, moved_after, with_moved, LegalAfter, Legal}
use Rattle.event_core.specs.Splits.{Lists, SplitsInto}
use Rattle.event_core.specs.Locally.{Rising, FollowsLocally, StoodBefore, EachFollows}
use Rattle.event_core.proofs.SoundLemmas.{entries_of-push}
use Rattle.event_core.proofs.RisingLemmas.{filter-at, pairs-nil, Before, before-none, pairs-before, pairs-map, pairs-unmap, split-once}

-- The law of lists: entries of which each follows locally make a legal history.

-- a filter at an item that it keeps
kept-at : {X : Type 0} (p : X → Bool) (xs : List X) (y : X) (ys : List X) → p y ≡ true → filter p (xs ++ y ∷ ys) ≡ filter p xs ++ y ∷ filter p ys
kept-at p xs y ys is = filter-append p xs (y ∷ ys) ∙ ap (λ (b : Bool). filter p xs ++ cond b (y ∷ filter p ys) (filter p ys)) is

pub same_place-refl : (p : Place) → same_place p p ≡ true
same_place-refl place.Memory = refl
same_place-refl (place.Area a) = eq-eqb a a refl
same_place-refl place.Own = refl

-- what stood in the list of a lock before an entry is what the history before it has there
there-is : (p : Moved → Bool) (history done rest there later : List Moved) (m : Moved) → AllPairs Before history → history ≡ done ++ m ∷ rest → p m ≡ true → map bare (filter p history) ≡ there ++ bare m ∷ later → there ≡ map bare (filter p done)
there-is p history done rest there later m rising is kept stood =
    let at : map bare (filter p history) ≡ map bare (filter p done) ++ bare m ∷ map bare (filter p rest) =
    ap (λ h. map bare (filter p h)) is ∙ ap (map bare) (kept-at p done m rest kept) ∙ map-append bare (filter p done) (m ∷ filter p rest)
    in
    let pairs : AllPairs Before (map bare (filter p history)) = pairs-map bare Before (filter p history) (AllPairs-filter Before p history rising) in
    sym (split-once Before before-none (map bare (filter p done)) (bare m) (map bare (filter p rest)) there later (subst (AllPairs Before) at pairs) (sym at ∙ stood))

stood-is : (history done rest there : List Moved) (m : Moved) (lists : Lists) → AllPairs Before history → SplitsInto history lists → history ≡ done ++ m ∷ rest → (at : Place) → same_place at m.entry.place ≡ true → StoodBefore lists at there m → there ≡ at_place at done
stood-is history done rest there m lists rising splits is place.Memory same stood =
    there-is (λ n. same_place place.Memory n.entry.place) history done rest there stood.0 m rising is same (sym splits.memory ∙ stood.1)
stood-is history done rest there m lists rising splits is (place.Area a) same stood =
    there-is (λ n. same_place (place.Area a) n.entry.place) history done rest there stood.0 m rising is same (sym (splits.areas a) ∙ stood.1)
stood-is history done rest there m lists rising splits is place.Own same stood = stood

-- an entry that follows locally follows the history before it
pub local-follows : (boot : Boot) (scripts : List (List Command)) (history : List Moved) (m : Moved) → FollowsLocally boot scripts (made_by m.entry.cpu.0 history) (at_place m.entry.place history) m
    → Follows boot scripts history m.entry × (with_bytes boot scripts history m.entry ≡ m)
local-follows boot scripts history m local =
    (record { over = local.over; stamp = local.stamp }, ap (λ (bytes : List ℕ). let moved : Moved = record { entry = m.entry; bytes = bytes } in moved) (sym local.bytes))

each-follows : (boot : Boot) (scripts : List (List Command)) (history : List Moved) (lists : Lists) → AllPairs Before history → SplitsInto history lists → EachFollows boot scripts lists
    → (done rest : List Moved) (m : Moved) → history ≡ done ++ m ∷ rest → Follows boot scripts done m.entry × (with_bytes boot scripts done m.entry ≡ m)
each-follows boot scripts history lists rising splits each done rest m is =
    let cpu = m.entry.cpu.0 in
    let at : lists.by_cpu cpu ≡ made_by cpu done ++ m ∷ made_by cpu rest = splits.cpus cpu ∙ ap (made_by cpu) is ∙ kept-at (λ (n : Moved). n.entry.cpu.0 == cpu) done m rest (eq-eqb cpu cpu refl) in
    let found = each cpu (made_by cpu done) (made_by cpu rest) m at in
    let same : found.0 ≡ at_place m.entry.place done = stood-is history done rest found.0 m lists rising splits is m.entry.place (same_place-refl m.entry.place) found.1 in
    local-follows boot scripts done m (subst (λ there. FollowsLocally boot scripts (made_by cpu done) there m) same found.2)

law-from : (boot : Boot) (scripts : List (List Command)) (history : List Moved) (lists : Lists) → AllPairs Before history → SplitsInto history lists → EachFollows boot scripts lists
    → (done rest : List Moved) → history ≡ done ++ rest → LegalAfter boot scripts done (entries_of rest) × (moved_after boot scripts done (entries_of rest) ≡ history)
law-from boot scripts history lists rising splits each done [] is = (tt, sym (is ∙ append-nil done))
law-from boot scripts history lists rising splits each done (m ∷ rest) is =
    let one = each-follows boot scripts history lists rising splits each done rest m is in
    let more : history ≡ (done ++ m ∷ []) ++ rest = is ∙ sym (append_assoc done (m ∷ []) rest) in
    let others = law-from boot scripts history lists rising splits each (done ++ m ∷ []) rest more in
    let grown : done ++ m ∷ [] ≡ done ++ with_bytes boot scripts done m.entry ∷ [] = ap (λ n. done ++ n ∷ []) (sym one.1) in (
      (one.0, pairs-before Before done m rest (subst (AllPairs Before) is rising), subst (λ h. LegalAfter boot scripts h (entries_of rest)) grown others.0),
      ap (λ h. moved_after boot scripts h (entries_of rest)) (sym grown) ∙ others.1,
    )

-- a history that rises and stands in lists of which each entry follows locally is legal, and has the bytes that it says
pub split-legal : (boot : Boot) (scripts : List (List Command)) (history : List Moved) (lists : Lists) → Rising (entries_of history) → SplitsInto history lists → EachFollows boot scripts lists
    → Legal boot scripts (entries_of history) × (with_moved boot scripts (entries_of history) ≡ history)
split-legal boot scripts history lists rising splits each =
    law-from boot scripts history lists (pairs-unmap (λ (m : Moved). m.entry) ComesBefore history rising) splits each [] history refl

-- ---- a legal history in its own lists

-- where an item of a filtered list stands in the whole
record Unfiltered {X : Type 0} (p : X → Bool) (xs own : List X) (m : X) : Type 0 where
  pub done : List X
  pub rest : List X
  pub is : xs ≡ done ++ m ∷ rest
  pub before : filter p done ≡ own
  pub kept : p m ≡ true

unfiltered : {X : Type 0} (p : X → Bool) (xs own : List X) (m : X) (later : List X) → filter p xs ≡ own ++ m ∷ later → Unfiltered p xs own m
unfiltered p [] [] m later is = cc
unfiltered p [] (o ∷ own) m later is = cc
unfiltered {X} p (x ∷ xs) own m later is = by_test (p x) refl own is (λ others at. unfiltered p xs others m later at) where
  Rest : Type 0
  Rest = (others : List X) → filter p xs ≡ others ++ m ∷ later → Unfiltered p xs others m

  by_test : (b : Bool) → p x ≡ b → (o : List X) → filter p (x ∷ xs) ≡ o ++ m ∷ later → Rest → Unfiltered p (x ∷ xs) o m
  by_test true at [] is rest =
      let here : x ∷ filter p xs ≡ m ∷ later = sym (filter-at p x xs true at) ∙ is in
      let first : x ≡ m = cc in
      record { done = []; rest = xs; is = ap (λ y. y ∷ xs) first; before = refl; kept = ap p (sym first) ∙ at }
  by_test true at (o ∷ others) is rest =
      let here : x ∷ filter p xs ≡ o ∷ (others ++ m ∷ later) = sym (filter-at p x xs true at) ∙ is in
      let first : x ≡ o = cc in
      let behind : filter p xs ≡ others ++ m ∷ later = cc in
      let u = rest others behind in
      record { done = x ∷ u.done; rest = u.rest; is = ap (λ ys. x ∷ ys) u.is; before = filter-at p x u.done true at ∙ ap (λ ys. x ∷ ys) u.before ∙ ap (λ y. y ∷ others) first; kept = u.kept }
  by_test false at o is rest =
      let u = rest o (sym (filter-at p x xs false at) ∙ is) in
      record { done = x ∷ u.done; rest = u.rest; is = ap (λ ys. x ∷ ys) u.is; before = filter-at p x u.done false at ∙ u.before; kept = u.kept }

-- two splits of one list behind as many items are one
same-split : {X : Type 0} (xs : List X) (x : X) (ys us : List X) (u : X) (vs : List X) → length xs ≡ length us → xs ++ x ∷ ys ≡ us ++ u ∷ vs → (xs ≡ us) × (x ≡ u)
same-split [] x ys [] u vs long is = (refl, (let same : x ≡ u = cc in same))
same-split [] x ys (z ∷ us) u vs long is = absurd (omega (arith, long))
same-split (w ∷ xs) x ys [] u vs long is = absurd (omega (arith, long))
same-split (w ∷ xs) x ys (z ∷ us) u vs long is =
    let first : w ≡ z = cc in
    let rest : xs ++ x ∷ ys ≡ us ++ u ∷ vs = cc in
    let found = same-split xs x ys us u vs (omega (arith, long)) rest in
    (ap (λ a. a ∷ xs) first ∙ ap (λ as_. z ∷ as_) found.0, found.1)

moved-begins : (boot : Boot) (scripts : List (List Command)) (history : List Moved) (entries : List Entry) → (rest : List Moved) × (moved_after boot scripts history entries ≡ history ++ rest)
moved-begins boot scripts history [] = ([], sym (append-nil history))
moved-begins boot scripts history (entry ∷ entries) =
    let one = with_bytes boot scripts history entry in
    let found = moved-begins boot scripts (history ++ one ∷ []) entries in
    (one ∷ found.0, found.1 ∙ append_assoc history (one ∷ []) found.0)

legal-at : (boot : Boot) (scripts : List (List Command)) (history : List Moved) (entries : List Entry) → LegalAfter boot scripts history entries → (done rest : List Moved) (m : Moved) → moved_after boot scripts history entries ≡ done ++ m ∷ rest → length history ≤ length done
    → Follows boot scripts done m.entry × (with_bytes boot scripts done m.entry ≡ m)
legal-at boot scripts history [] legal done rest m is long = absurd (let l = length-append done (m ∷ rest) in let same : length history ≡ length (done ++ m ∷ rest) = ap (λ (ms : List Moved). length ms) is in omega (arith, long, l, same))
legal-at boot scripts history (entry ∷ entries) legal done rest m is long =
    elim (cases_lt (length history) (length done)) [
      | inl less ↦ legal-at boot scripts (history ++ one ∷ []) entries legal.2 done rest m is (let l = length-append history (one ∷ []) in omega (arith, less, l))
      | inr more ↦
          (let found = moved-begins boot scripts (history ++ one ∷ []) entries in
          let split = same-split history one found.0 done m rest (omega (arith, long, more)) (sym (append_assoc history (one ∷ []) found.0) ∙ sym found.1 ∙ is) in
          let at : m.entry ≡ entry = ap (λ (n : Moved). n.entry) (sym split.1) in (
            subst (λ e. Follows boot scripts done e) (sym at) (subst (λ h. Follows boot scripts h entry) split.0 legal.0),
            ap (with_bytes boot scripts done) at ∙ ap (λ h. with_bytes boot scripts h entry) (sym split.0) ∙ split.1,
          ))
    ]
  where
    one : Moved
    one = with_bytes boot scripts history entry

stands-there : (history done rest : List Moved) (m : Moved) (lists : Lists) → SplitsInto history lists → history ≡ done ++ m ∷ rest → (at : Place) → same_place at m.entry.place ≡ true → StoodBefore lists at (at_place at done) m
stands-there history done rest m lists splits is place.Memory same = (map bare (filter there rest), splits.memory ∙ ap (λ h. map bare (filter there h)) is ∙ ap (map bare) (kept-at there done m rest same) ∙ map-append bare (filter there done) (m ∷ filter there rest)) where
  there : Moved → Bool
  there n = same_place place.Memory n.entry.place
stands-there history done rest m lists splits is (place.Area a) same = (map bare (filter there rest), splits.areas a ∙ ap (λ h. map bare (filter there h)) is ∙ ap (map bare) (kept-at there done m rest same) ∙ map-append bare (filter there done) (m ∷ filter there rest)) where
  there : Moved → Bool
  there n = same_place (place.Area a) n.entry.place
stands-there history done rest m lists splits is place.Own same = refl

-- each entry of a legal history follows where it was made
pub legal-follows : (boot : Boot) (scripts : List (List Command)) (entries : List Entry) (lists : Lists) → Legal boot scripts entries → SplitsInto (with_moved boot scripts entries) lists → EachFollows boot scripts lists
legal-follows boot scripts entries lists legal splits cpu own later m is =
    let u = unfiltered (λ (n : Moved). n.entry.cpu.0 == cpu) (with_moved boot scripts entries) own m later (sym (splits.cpus cpu) ∙ is) in
    let found = legal-at boot scripts [] entries legal u.done u.rest m u.is (omega arith) in
    let by : m.entry.cpu.0 ≡ cpu = eqb-true m.entry.cpu.0 cpu u.kept in
    let mine : made_by m.entry.cpu.0 u.done ≡ own = ap (λ n. made_by n u.done) by ∙ u.before in (
      at_place m.entry.place u.done,
      stands-there (with_moved boot scripts entries) u.done u.rest m lists splits u.is m.entry.place (same_place-refl m.entry.place),
      subst (λ o. FollowsLocally boot scripts o (at_place m.entry.place u.done) m) mine (record { over = found.0.over; stamp = found.0.stamp; bytes = ap (λ (n : Moved). n.bytes) (sym found.1) }),
    )

-- the entries of a history, and the bytes that they move, after others
pub moved-entries : (boot : Boot) (scripts : List (List Command)) (before : List Moved) (entries : List Entry) → entries_of (moved_after boot scripts before entries) ≡ entries_of before ++ entries
moved-entries boot scripts before [] = sym (append-nil (entries_of before))
moved-entries boot scripts before (e ∷ entries) =
    moved-entries boot scripts (before ++ with_bytes boot scripts before e ∷ []) entries
    ∙ ap (λ es. es ++ entries) (entries_of-push before (with_bytes boot scripts before e))
    ∙ append_assoc (entries_of before) (e ∷ []) entries

pairs-after : (boot : Boot) (scripts : List (List Command)) (history : List Moved) (entries : List Entry) → LegalAfter boot scripts history entries → AllPairs Before history → AllPairs Before (moved_after boot scripts history entries)
pairs-after boot scripts history [] legal all = all
pairs-after boot scripts history (entry ∷ entries) legal all =
    let one = with_bytes boot scripts history entry in
    pairs-after boot scripts (history ++ one ∷ []) entries legal.2 (all_pairs_push Before history one all legal.1)

-- a legal history rises
pub legal-pairs : (boot : Boot) (scripts : List (List Command)) (entries : List Entry) → Legal boot scripts entries → AllPairs Before (with_moved boot scripts entries)
legal-pairs boot scripts entries legal = pairs-after boot scripts [] entries legal (pairs-nil Before)

pub legal-rising : (boot : Boot) (scripts : List (List Command)) (entries : List Entry) → Legal boot scripts entries → Rising entries
legal-rising boot scripts entries legal =
    subst Rising (moved-entries boot scripts [] entries) (pairs-map (λ (m : Moved). m.entry) ComesBefore (with_moved boot scripts entries) (legal-pairs boot scripts entries legal))
