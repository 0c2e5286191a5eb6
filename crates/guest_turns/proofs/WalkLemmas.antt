use Rattle.std.proofs.Common.{◌≡◌, ◌≢◌, ◌⊎◌, ℕ, Bool, true, false, Option, Some, List, [], ◌∷◌, ◌++◌, set, refl, sym, ◌∙◌, ap, subst, inl, inr, append-nil, slice_get, eqb-true}
use Rattle.std.specs.Prelude.{is_none, unwrap_or, ◌==◌}
use Rattle.std.specs.Option.{option_map}
use Rattle.std.proofs.lemmas.Bool.{both_ways, cases_Bool, eq-eqb}
use Rattle.std.proofs.Math.Seq.{map-set_same}
use Rattle.std.proofs.lemmas.List.Elements.{filter-append}
use Rattle.std.proofs.lemmas.Option.{get_or_from_slice_get, slice_get-map}
use Rattle.event_core.specs.declared.boot.Boot.{Boot}
use Rattle.event_core.specs.declared.command.Command.{Command}
use Rattle.event_core.specs.declared.entry.Place.{Place}
use Rattle.event_core.specs.declared.entry.Place.TheVariants.{Memory}
use Rattle.event_core.specs.Legal.{at_place, with_moved}
use Rattle.event_core.specs.Locally.{FollowsLocally}
use Rattle.event_core.specs.Moved.{Moved, made_by}
use Rattle.event_core.specs.Next.{next_step}
use Rattle.event_core.specs.Turns.{TakenIn, is_idle}
use Rattle.event_core.proofs.LocalLemmas.{local-follows}
use Rattle.event_core.proofs.RisingLemmas.{filter-at}
use Rattle.guest_steps.specs.Ground.{Ground, there_in}
use Rattle.guest_steps.specs.Seen.{Seen}
use Rattle.guest_steps.specs.Standing.{moved_at, scripts_of}
use Rattle.guest_steps.specs.Steps.{HaveScript, IsIdle, MakesIn}
use Rattle.guest_steps.proofs.ListLemmas.{slice_get-set_other, slice_get-set_same}
use Rattle.guest_steps.proofs.StandLemmas.{kept-after}
use Rattle.guest_steps.proofs.TogetherLemmas.{moved-some, script-some}
use Rattle.guest_turns.specs.Walks.{Walked}
use Rattle.guest_turns.proofs.TakenLemmas.{if-busy, moved-append, taken-append}

-- The entries so far, and one more turn.

-- ---- what a processor finds

pub has-script : (all : List Seen) (cpu : ℕ) (c : Seen) → slice_get all cpu ≡ Some c → c.number ≡ cpu → HaveScript (scripts_of all) c
has-script all cpu c at number = ap (slice_get (scripts_of all)) number ∙ script-some all cpu c at

own-is : (boot : Boot) (all : List Seen) (base : Ground) (turns : List ℕ) (cpu : ℕ) (c : Seen) (w : Walked boot all base turns) → slice_get all cpu ≡ Some c → made_by cpu (with_moved boot (scripts_of all) w.taken) ≡ c.moved
own-is boot all base turns cpu c w at = w.made cpu ∙ moved-some all cpu c at

abbrev none_next : Boot → List (List Command) → ℕ → List Moved → List Moved → Bool
none_next boot scripts cpu own there = is_none (next_step boot scripts cpu own there [])

-- whether a processor has no next event
pub idle-is : (boot : Boot) (all : List Seen) (base : Ground) (turns : List ℕ) (cpu : ℕ) (c : Seen) (w : Walked boot all base turns) → slice_get all cpu ≡ Some c
    → c.number ≡ cpu → c.boot ≡ boot
    → is_none (next_step c.boot (scripts_of all) c.number c.moved (there_in base Memory) []) ≡ is_idle boot (scripts_of all) (with_moved boot (scripts_of all) w.taken) cpu
idle-is boot all base turns cpu c w at number same =
    let scripts = scripts_of all in
    let there = there_in base Memory in
    let history = with_moved boot scripts w.taken in
    ap (λ b. none_next b scripts c.number c.moved there) same
    ∙ ap (λ n. none_next boot scripts n c.moved there) number
    ∙ ap (λ own. none_next boot scripts cpu own there) (sym (own-is boot all base turns cpu c w at))
    ∙ ap (λ t. none_next boot scripts cpu (made_by cpu history) t) (sym (w.there Memory))

-- ---- a turn without an entry

-- a processor that has the same script and the same entries
pub scripts-same : (all : List Seen) (cpu : ℕ) (was now : Seen) → slice_get all cpu ≡ Some was → now.script ≡ was.script → scripts_of (set all cpu now) ≡ scripts_of all
scripts-same all cpu was now at is = map-set_same (λ (c : Seen). c.script) all cpu now was (is ∙ sym (ap (λ (c : Seen). c.script) (get_or_from_slice_get all cpu was was at)))

pub moved-same : (all : List Seen) (cpu : ℕ) (was now : Seen) → slice_get all cpu ≡ Some was → now.moved ≡ was.moved → (k : ℕ) → moved_at (set all cpu now) k ≡ moved_at all k
moved-same all cpu was now at is k =
    ap (λ (lists : List (List Moved)). unwrap_or (slice_get lists k) [])
    (map-set_same (λ (c : Seen). c.moved) all cpu now was (is ∙ sym (ap (λ (c : Seen). c.moved) (get_or_from_slice_get all cpu was was at))))

pub walk-same : (boot : Boot) (all other : List Seen) (before after : Ground) (turns : List ℕ) → ((k : ℕ) → moved_at other k ≡ moved_at all k) → scripts_of other ≡ scripts_of all
    → ((place : Place) → there_in after place ≡ there_in before place) → Walked boot all before turns → Walked boot other after turns
walk-same boot all other before after turns moved scripts there w = record {
  taken = w.taken;
  made = λ cpu. ap (λ s. made_by cpu (with_moved boot s w.taken)) scripts ∙ w.made cpu ∙ sym (moved cpu);
  there = λ place. ap (λ s. at_place place (with_moved boot s w.taken)) scripts ∙ w.there place ∙ sym (there place);
  walk = subst (λ s. TakenIn boot s [] turns w.taken) (sym scripts) w.walk;
}

pub walk-rests : (boot : Boot) (all : List Seen) (base : Ground) (turns : List ℕ) (cpu : ℕ) (c : Seen) → slice_get all cpu ≡ Some c → c.number ≡ cpu → c.boot ≡ boot
    → IsIdle c base.memory.entries → Walked boot all base turns → Walked boot all base (turns ++ cpu ∷ [])
walk-rests boot all base turns cpu c at number same idle w =
    let scripts = scripts_of all in
    let rests : is_idle boot scripts (with_moved boot scripts w.taken) cpu ≡ true = sym (idle-is boot all base turns cpu c w at number same) ∙ idle scripts (has-script all cpu c at number) in
    record {
      taken = w.taken;
      made = w.made;
      there = w.there;
      walk = subst (λ es. TakenIn boot scripts [] (turns ++ cpu ∷ []) es) (append-nil w.taken) (taken-append boot scripts [] turns w.taken (cpu ∷ []) [] w.walk (rests, refl));
    }

-- ---- a turn with an entry

-- the processors' lists with one more entry in one of them
made-push : (all : List Seen) (history : List Moved) (cpu : ℕ) (was now : Seen) (m : Moved) → m.entry.cpu.0 ≡ cpu → slice_get all cpu ≡ Some was → now.moved ≡ was.moved ++ m ∷ []
    → ((k : ℕ) → made_by k history ≡ moved_at all k) → (k : ℕ) → made_by k (history ++ m ∷ []) ≡ moved_at (set all cpu now) k
made-push all history cpu was now m who at moved made k = filter-append test history (m ∷ []) ∙ by_test (cases_Bool (m.entry.cpu.0 == k)) where
  test : Moved → Bool
  test x = x.entry.cpu.0 == k

  by_test : (m.entry.cpu.0 == k ≡ true) ⊎ (m.entry.cpu.0 == k ≡ false) → made_by k history ++ made_by k (m ∷ []) ≡ moved_at (set all cpu now) k
  by_test (inl here) =
      let same : cpu ≡ k = sym who ∙ eqb-true m.entry.cpu.0 k here in
      ap (λ ms. made_by k history ++ ms) (filter-at test m [] true here)
      ∙ ap (λ ms. ms ++ m ∷ []) (made k ∙ ap (moved_at all) (sym same) ∙ moved-some all cpu was at)
      ∙ sym moved
      ∙ sym (ap (moved_at (set all cpu now)) (sym same) ∙ moved-some (set all cpu now) cpu now (slice_get-set_same all cpu was now at))
  by_test (inr other) =
      let differ : k ≢ cpu = λ same. both_ways (m.entry.cpu.0 == k) other (eq-eqb m.entry.cpu.0 k (who ∙ sym same)) in
      ap (λ ms. made_by k history ++ ms) (filter-at test m [] false other)
      ∙ append-nil (made_by k history)
      ∙ made k
      ∙ sym (ap (λ (o : Option (List Moved)). unwrap_or o [])
      (slice_get-map (λ (c : Seen). c.moved) (set all cpu now) k ∙ ap (option_map (λ (c : Seen). c.moved)) (slice_get-set_other all cpu k now differ) ∙ sym (slice_get-map (λ (c : Seen). c.moved) all k)))

pub walk-makes : (boot : Boot) (all : List Seen) (cpu : ℕ) (was now : Seen) (before after : Ground) (turns : List ℕ) → slice_get all cpu ≡ Some was → was.number ≡ cpu → was.boot ≡ boot
    → MakesIn was now before after → Walked boot all before turns → Walked boot (set all cpu now) after (turns ++ cpu ∷ [])
walk-makes boot all cpu was now before after turns at number same m w =
    let scripts = scripts_of all in
    let entry = m.m.entry in
    let next = m.makes.next in
    let history = with_moved boot scripts w.taken in
    let who : entry.cpu.0 ≡ cpu = next.mine ∙ number in
    let have = has-script all cpu was at number in
    let placed = there_in before entry.place in
    let local : FollowsLocally boot scripts was.moved placed m.m = subst (λ b. FollowsLocally b scripts was.moved placed m.m) same (next.follows scripts have) in
    let own : was.moved ≡ made_by entry.cpu.0 history = sym (own-is boot all before turns cpu was w at) ∙ ap (λ n. made_by n history) (sym who) in
    let there : placed ≡ at_place entry.place history = sym (w.there entry.place) in
    let found = local-follows boot scripts history m.m
    (subst (λ t. FollowsLocally boot scripts (made_by entry.cpu.0 history) t m.m) there
    (subst (λ o. FollowsLocally boot scripts o placed m.m) own local)) in
    let busy : is_idle boot scripts history cpu ≡ false = sym (idle-is boot all before turns cpu was w at number same) ∙ m.busy scripts have in
    let same_scripts : scripts ≡ scripts_of (set all cpu now) = sym (scripts-same all cpu was now at m.makes.same.script) in
    let moved : with_moved boot scripts (w.taken ++ entry ∷ []) ≡ history ++ m.m ∷ [] =
    moved-append boot scripts [] w.taken (entry ∷ []) ∙ ap (λ (n : Moved). history ++ n ∷ []) found.1 in
    let now_moved : with_moved boot (scripts_of (set all cpu now)) (w.taken ++ entry ∷ []) ≡ history ++ m.m ∷ [] = ap (λ s. with_moved boot s (w.taken ++ entry ∷ [])) (sym same_scripts) ∙ moved in
    let walk = taken-append boot scripts [] turns w.taken (cpu ∷ []) (entry ∷ []) w.walk
    (if-busy (is_idle boot scripts history cpu) _ _ busy (who, found.0, refl)) in
    record {
      taken = w.taken ++ entry ∷ [];
      made = λ k. ap (made_by k) now_moved ∙ made-push all history cpu was now m.m who at m.makes.moved w.made k;
      there = λ place. ap (at_place place) now_moved ∙ kept-after place (there_in before place) history m.m (w.there place) ∙ sym (m.there place);
      walk = subst (λ s. TakenIn boot s [] (turns ++ cpu ∷ []) (w.taken ++ entry ∷ [])) same_scripts walk;
    }
