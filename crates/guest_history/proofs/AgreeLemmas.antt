use Rattle.std.proofs.Common.{◌≡◌, ℕ, ◌⊎◌, Bool, true, false, cond, List, [], ◌∷◌, map, refl, sym, ◌∙◌, ap, subst, inl, inr, unwrap_or, slice_get}
use Rattle.std.specs.Prelude.{AllPairs, filter, ◌==◌}
use Rattle.std.proofs.lemmas.Bool.{cases_eq, eq-eqb, ne_eqb}
use Rattle.std.proofs.lemmas.List.Kept.{AllPairs-filter}
use Rattle.event_core.specs.declared.boot.Boot.{Boot}
use Rattle.event_core.specs.declared.command.Command.{Command}
use Rattle.event_core.specs.declared.entry.Place.TheVariants as place
use Rattle.event_core.specs.declared.entry.Entry.{Entry}
use Rattle.event_core.specs.Moved.{Moved, entries_of, made_by}
use Rattle.event_core.specs.Own.{replied}
use Rattle.event_core.specs.Legal.{ComesBefore, bare, same_place, Legal, Whole, with_moved}
use Rattle.event_core.specs.Splits.{Lists, SplitsInto}
use Rattle.event_core.specs.Turns.{entries_by}
use Rattle.event_core.specs.Locally.{Rising, EachFollows}
use Rattle.event_core.proofs.RisingLemmas.{filter-at, Before, before-one-way, pairs-map, pairs-unmap, same-by-key}
use Rattle.event_core.proofs.LocalLemmas.{split-legal, legal-follows, legal-pairs, legal-rising}
use Rattle.guest_history.specs.Agreeing.{AreMadeBy, Agree, AllReplied}

-- Lists that agree are those of one history.

-- two lists that rise are one where each processor has the same entries in both
pub rising-one : (a b : List Entry) → Rising a → Rising b → ((cpu : ℕ) → entries_by cpu a ≡ entries_by cpu b) → a ≡ b
rising-one a b left right same = same-by-key (λ (e : Entry). e.cpu.0) ComesBefore before-one-way a b left right (λ x. same x.cpu.0)

pub moved-one : (a b : List Moved) → AllPairs Before a → AllPairs Before b → ((cpu : ℕ) → made_by cpu a ≡ made_by cpu b) → a ≡ b
moved-one a b left right same = same-by-key (λ (m : Moved). m.entry.cpu.0) Before (λ x y. before-one-way x.entry y.entry) a b left right (λ x. same x.entry.cpu.0)

-- ---- the entries with the bytes of the processors' lists

no-entries : (ms : List Moved) → entries_of ms ≡ [] → ms ≡ []
no-entries [] is = refl
no-entries (m ∷ ms) is = cc

-- the lists when one processor has another
abbrev with_list : ℕ → List Moved → (ℕ → List Moved) → ℕ → List Moved
with_list cpu ms by_cpu k = cond (k == cpu) ms (by_cpu k)

-- a history with the bytes of the lists
abbrev pub HasBytes : List Entry → (ℕ → List Moved) → Type 0
HasBytes entries by_cpu = (history : List Moved) × (entries_of history ≡ entries) × ((cpu : ℕ) → by_cpu cpu ≡ made_by cpu history)

one-more : (e : Entry) (entries : List Entry) (by_cpu : ℕ → List Moved) → ((k : ℕ) → entries_by k (e ∷ entries) ≡ entries_of (by_cpu k))
    → ((others : ℕ → List Moved) → ((k : ℕ) → entries_by k entries ≡ entries_of (others k)) → HasBytes entries others) → (ms : List Moved) → by_cpu e.cpu.0 ≡ ms → HasBytes (e ∷ entries) by_cpu
one-more e entries by_cpu same rest [] is =
    let none : e ∷ entries_by e.cpu.0 entries ≡ [] = sym (filter-at (λ (x : Entry). x.cpu.0 == e.cpu.0) e entries true (eq-eqb e.cpu.0 e.cpu.0 refl)) ∙ same e.cpu.0 ∙ ap entries_of is in
    cc
one-more e entries by_cpu same rest (m ∷ ms) is =
    let here : e ∷ entries_by e.cpu.0 entries ≡ m.entry ∷ entries_of ms = sym (filter-at (λ (x : Entry). x.cpu.0 == e.cpu.0) e entries true (eq-eqb e.cpu.0 e.cpu.0 refl)) ∙ same e.cpu.0 ∙ ap entries_of is in
    let first : e ≡ m.entry = cc in
    let later : entries_by e.cpu.0 entries ≡ entries_of ms = cc in
    let found = rest (with_list e.cpu.0 ms by_cpu) (λ k. others k later (cases_eq k e.cpu.0)) in
    (m ∷ found.0, ap (λ x. m.entry ∷ x) found.1 ∙ ap (λ x. x ∷ entries) (sym first), λ k. lists k found.0 first (found.2 k) (cases_eq k e.cpu.0))
  where
    others : (k : ℕ) → entries_by e.cpu.0 entries ≡ entries_of ms → (k ≡ e.cpu.0) ⊎ (k ≡ e.cpu.0 → ⊥) → entries_by k entries ≡ entries_of (with_list e.cpu.0 ms by_cpu k)
    others k later (inl at) =
        ap (λ (n : ℕ). entries_by n entries) at ∙ later ∙ ap (λ (b : Bool). entries_of (cond b ms (by_cpu k))) (sym (eq-eqb k e.cpu.0 at))
    others k later (inr apart) =
        sym (filter-at (λ (x : Entry). x.cpu.0 == k) e entries false (ne_eqb e.cpu.0 k (λ at. apart (sym at)))) ∙ same k ∙ ap (λ (b : Bool). entries_of (cond b ms (by_cpu k))) (sym (ne_eqb k e.cpu.0 apart))

    lists : (k : ℕ) (history : List Moved) → e ≡ m.entry → with_list e.cpu.0 ms by_cpu k ≡ made_by k history → (k ≡ e.cpu.0) ⊎ (k ≡ e.cpu.0 → ⊥) → by_cpu k ≡ made_by k (m ∷ history)
    lists k history first kept (inl at) =
        let own : m.entry.cpu.0 ≡ k = ap (λ (x : Entry). x.cpu.0) (sym first) ∙ sym at in
        let behind : ms ≡ made_by k history = ap (λ (b : Bool). cond b ms (by_cpu k)) (sym (eq-eqb k e.cpu.0 at)) ∙ kept in
        ap by_cpu at ∙ is ∙ ap (λ x. m ∷ x) behind ∙ sym (filter-at (λ (x : Moved). x.entry.cpu.0 == k) m history true (eq-eqb m.entry.cpu.0 k own))
    lists k history first kept (inr apart) =
        let other : m.entry.cpu.0 ≡ k → ⊥ = λ at. apart (sym at ∙ ap (λ (x : Entry). x.cpu.0) (sym first)) in
        ap (λ (b : Bool). cond b ms (by_cpu k)) (sym (ne_eqb k e.cpu.0 apart)) ∙ kept ∙ sym (filter-at (λ (x : Moved). x.entry.cpu.0 == k) m history false (ne_eqb m.entry.cpu.0 k other))

pub has-bytes : (entries : List Entry) (by_cpu : ℕ → List Moved) → ((cpu : ℕ) → entries_by cpu entries ≡ entries_of (by_cpu cpu)) → HasBytes entries by_cpu
has-bytes [] by_cpu same = ([], refl, λ cpu. no-entries (by_cpu cpu) (sym (same cpu)))
has-bytes (e ∷ entries) by_cpu same = one-more e entries by_cpu same (λ others kept. has-bytes entries others kept) (by_cpu e.cpu.0) refl

-- ---- the lists of the locks

-- what a processor made at a place is, of what it made, what it made at the place
made-there : (p : Moved → Bool) (cpu : ℕ) (history : List Moved) → made_by cpu (map bare (filter p history)) ≡ map bare (filter p (made_by cpu history))
made-there p cpu [] = refl
made-there p cpu (m ∷ history) = by_tests (p m) (m.entry.cpu.0 == cpu) refl refl (made-there p cpu history) where
  its : Moved → Bool
  its n = n.entry.cpu.0 == cpu

  by_tests : (b c : Bool) → p m ≡ b → its m ≡ c → made_by cpu (map bare (filter p history)) ≡ map bare (filter p (made_by cpu history)) → made_by cpu (map bare (filter p (m ∷ history))) ≡ map bare (filter p (made_by cpu (m ∷ history)))
  by_tests true true at by rest =
      ap (λ ms. made_by cpu (map bare ms)) (filter-at p m history true at) ∙ filter-at its (bare m) (map bare (filter p history)) true by ∙ ap (λ ms. bare m ∷ ms) rest
      ∙ ap (map bare) (sym (filter-at p m (made_by cpu history) true at)) ∙ ap (λ ms. map bare (filter p ms)) (sym (filter-at its m history true by))
  by_tests true false at by rest =
      ap (λ ms. made_by cpu (map bare ms)) (filter-at p m history true at) ∙ filter-at its (bare m) (map bare (filter p history)) false by ∙ rest
      ∙ ap (λ ms. map bare (filter p ms)) (sym (filter-at its m history false by))
  by_tests false true at by rest =
      ap (λ ms. made_by cpu (map bare ms)) (filter-at p m history false at) ∙ rest
      ∙ ap (map bare) (sym (filter-at p m (made_by cpu history) false at)) ∙ ap (λ ms. map bare (filter p ms)) (sym (filter-at its m history true by))
  by_tests false false at by rest =
      ap (λ ms. made_by cpu (map bare ms)) (filter-at p m history false at) ∙ rest
      ∙ ap (λ ms. map bare (filter p ms)) (sym (filter-at its m history false by))

there-one : (p : Moved → Bool) (history there : List Moved) (by_cpu : ℕ → List Moved) → AllPairs Before history → ((cpu : ℕ) → by_cpu cpu ≡ made_by cpu history) → Rising (entries_of there)
    → ((cpu : ℕ) → made_by cpu there ≡ map bare (filter p (by_cpu cpu))) → there ≡ map bare (filter p history)
there-one p history there by_cpu rising cpus rises same =
    moved-one there (map bare (filter p history)) (pairs-unmap (λ (m : Moved). m.entry) ComesBefore there rises) (pairs-map bare Before (filter p history) (AllPairs-filter Before p history rising))
    (λ cpu. same cpu ∙ ap (λ ms. map bare (filter p ms)) (cpus cpu) ∙ sym (made-there p cpu history))

-- entries that rise stand in lists that agree and are theirs, processor by processor
pub agreeing-history : (entries : List Entry) (lists : Lists) → Rising entries → ((cpu : ℕ) → entries_by cpu entries ≡ entries_of (lists.by_cpu cpu)) → Agree lists
    → (history : List Moved) × (entries_of history ≡ entries) × SplitsInto history lists
agreeing-history entries lists rising same agree =
    let found = has-bytes entries lists.by_cpu same in
    let pairs : AllPairs Before found.0 = pairs-unmap (λ (m : Moved). m.entry) ComesBefore found.0 (subst Rising (sym found.1) rising) in (
      found.0,
      found.1,
      record {
        cpus = found.2;
        memory = there-one (λ (m : Moved). same_place place.Memory m.entry.place) found.0 lists.by_memory lists.by_cpu pairs found.2 agree.memory.rises agree.memory.same;
        areas = λ area. (let at = agree.areas area in there-one (λ (m : Moved). same_place (place.Area area) m.entry.place) found.0 (lists.by_area area) lists.by_cpu pairs found.2 at.rises at.same);
      },
    )

-- ---- the lists of a history agree

place-agrees : (p : Moved → Bool) (history there : List Moved) (by_cpu : ℕ → List Moved) → AllPairs Before history → ((cpu : ℕ) → by_cpu cpu ≡ made_by cpu history) → there ≡ map bare (filter p history)
    → Rising (entries_of there) × ((cpu : ℕ) → made_by cpu there ≡ map bare (filter p (by_cpu cpu)))
place-agrees p history there by_cpu rising cpus is = (
  subst (λ ms. Rising (entries_of ms)) (sym is) (pairs-map (λ (m : Moved). m.entry) ComesBefore (map bare (filter p history)) (pairs-map bare Before (filter p history) (AllPairs-filter Before p history rising))),
  λ cpu. ap (made_by cpu) is ∙ made-there p cpu history ∙ ap (λ ms. map bare (filter p ms)) (sym (cpus cpu)),
)

splits-agree : (history : List Moved) (lists : Lists) → AllPairs Before history → SplitsInto history lists → Agree lists
splits-agree history lists rising splits = record {
  memory = (let at = place-agrees (λ (m : Moved). same_place place.Memory m.entry.place) history lists.by_memory lists.by_cpu rising splits.cpus splits.memory in record { rises = at.0; same = at.1 });
  areas = λ area. (let at = place-agrees (λ (m : Moved). same_place (place.Area area) m.entry.place) history (lists.by_area area) lists.by_cpu rising splits.cpus (splits.areas area) in record { rises = at.0; same = at.1 });
}

pub legal-lists : (boot : Boot) (scripts : List (List Command)) (entries : List Entry) (lists : Lists) → Legal boot scripts entries → SplitsInto (with_moved boot scripts entries) lists → Rising entries × Agree lists × EachFollows boot scripts lists
legal-lists boot scripts entries lists legal splits = (
  legal-rising boot scripts entries legal,
  splits-agree (with_moved boot scripts entries) lists (legal-pairs boot scripts entries legal) splits,
  legal-follows boot scripts entries lists legal splits,
)

-- ---- gathered entries

pub gathered-legal : (boot : Boot) (scripts : List (List Command)) (made : List (List Entry)) (entries : List Entry) → Rising entries → ((cpu : ℕ) → entries_by cpu entries ≡ unwrap_or (slice_get made cpu) [])
    → (kept : Lists) → AreMadeBy made kept → Agree kept → EachFollows boot scripts kept → Legal boot scripts entries × SplitsInto (with_moved boot scripts entries) kept
gathered-legal boot scripts made entries rising same kept are agree each =
    let found = agreeing-history entries kept rising (λ cpu. same cpu ∙ sym (are cpu)) agree in
    let law = split-legal boot scripts found.0 kept (subst Rising (sym found.1) rising) found.2 each in
    let is : with_moved boot scripts entries ≡ found.0 = ap (with_moved boot scripts) (sym found.1) ∙ law.1 in
    (subst (Legal boot scripts) found.1 law.0, subst (λ h. SplitsInto h kept) (sym is) found.2)

pub gathered-whole : (boot : Boot) (scripts : List (List Command)) (entries : List Entry) (kept : Lists) → Legal boot scripts entries × SplitsInto (with_moved boot scripts entries) kept → AllReplied scripts kept → Whole boot scripts entries
gathered-whole boot scripts entries kept law all =
    let splits = law.1 in
    record { legal = law.0; all = λ cpu script at. ap replied (sym (splits.cpus cpu)) ∙ all cpu script at }
