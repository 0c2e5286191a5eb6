use Rattle.std.proofs.Common.{◌≡◌, Option, ℕ, Bool, true, false, None, Some, List, [], ◌∷◌, ◌++◌, cond, map, refl, sym, ◌∙◌, ap, subst, arith, slice_get}
use Rattle.std.specs.Prelude.{All, is_none, ◌==◌}
use Rattle.std.specs.Option.{option_and_then, option_map}
use Rattle.std.proofs.lemmas.List.{get_or-map, length-map}
use Rattle.std.proofs.lemmas.List.Elements.{All-map}
use Rattle.std.proofs.lemmas.Option.{slice_get-map}
use Rattle.event_core.specs.declared.boot.Boot.{Boot}
use Rattle.event_core.specs.declared.command.Command.{Command}
use Rattle.event_core.specs.declared.entry.Place.TheVariants.{Memory}
use Rattle.event_core.specs.Legal.{at_place, with_moved}
use Rattle.event_core.specs.Moved.{Moved, entries_of, made_by}
use Rattle.event_core.specs.Next.{step_of}
use Rattle.event_core.specs.Own.{own_of, replied, script_of}
use Rattle.event_core.specs.Turns.{TakenIn, entries_by, is_idle, rounds_of}
use Rattle.event_core.proofs.LocalLemmas.{moved-entries}
use Rattle.guest_steps.specs.declared.processor.Need.TheVariants.{Finished}
use Rattle.guest_steps.specs.Ground.{Ground}
use Rattle.guest_steps.specs.Running.{AllFinished, AreOf, AtFirst, EachLater, IsFresh, TurnedBy}
use Rattle.guest_steps.specs.Seen.{Seen, need_of}
use Rattle.guest_steps.specs.Standing.{Together, moved_at, scripts_of}
use Rattle.guest_steps.proofs.BeginningLemmas.{all-got, nothing-at}
use Rattle.guest_steps.proofs.TogetherLemmas.{moved-none, moved-some, together-made}
use Rattle.guest_turns.specs.Walks.{Walked}
use Rattle.guest_turns.proofs.LaterLemmas.{later-first}
use Rattle.guest_turns.proofs.RestLemmas.{finished-idle}
use Rattle.guest_turns.proofs.StandLemmas.{seen-at}
use Rattle.guest_turns.proofs.WalkLemmas.{has-script, idle-is}

-- The first turn, and the end of all turns.

-- before the first turn no entry was taken
pub walk-start : (boot : Boot) (all : List Seen) (base : Ground) → AtFirst all base → Walked boot all base []
walk-start boot all base first = record {
  taken = [];
  made = λ cpu. sym (by_place cpu (slice_get all cpu) refl);
  there = λ place. nothing-at place ∙ sym (first.entries place);
  walk = refl;
}
  where
    by_place : (cpu : ℕ) (found : Option Seen) → slice_get all cpu ≡ found → moved_at all cpu ≡ []
    by_place cpu (Some c) at = moved-some all cpu c at ∙ ap (λ (c : Seen). c.moved) (all-got IsFresh all cpu c first.fresh at)
    by_place cpu None none = moved-none all cpu none

-- the entries of a processor, with the bytes that they moved and without
made-entries : (cpu : ℕ) (moved : List Moved) → entries_of (made_by cpu moved) ≡ entries_by cpu (entries_of moved)
made-entries cpu [] = refl
made-entries cpu (m ∷ ms) = by_test (m.entry.cpu.0 == cpu) (made-entries cpu ms) where
  by_test : (b : Bool) → entries_of (made_by cpu ms) ≡ entries_by cpu (entries_of ms)
      → entries_of (cond b (m ∷ made_by cpu ms) (made_by cpu ms)) ≡ cond b (m.entry ∷ entries_by cpu (entries_of ms)) (entries_by cpu (entries_of ms))
  by_test true rest = ap (λ es. m.entry ∷ es) rest
  by_test false rest = rest

-- each processor made its own of the entries that were taken
taken-of : (boot : Boot) (all : List Seen) (base : Ground) (turns : List ℕ) (w : Walked boot all base turns) → AreOf all w.taken
taken-of boot all base turns w cpu =
    ap (entries_by cpu) (sym (moved-entries boot (scripts_of all) [] w.taken))
    ∙ sym (made-entries cpu (with_moved boot (scripts_of all) w.taken))
    ∙ ap entries_of (w.made cpu)
    ∙ together-made all base cpu

-- a number without a processor has no next event
nobody-idle : (boot : Boot) (all : List Seen) (history : List Moved) (cpu : ℕ) → slice_get all cpu ≡ None → is_idle boot (scripts_of all) history cpu ≡ true
nobody-idle boot all history cpu none =
    let scripts = scripts_of all in
    let own = made_by cpu history in
    let step = λ (command : Command). step_of boot cpu (own_of (script_of scripts cpu) own) (at_place Memory history) command [] in
    let absent : slice_get scripts cpu ≡ None = slice_get-map (λ (c : Seen). c.script) all cpu ∙ ap (option_map (λ (c : Seen). c.script)) none in
    ap (λ s. is_none (option_and_then step (option_and_then (λ script. slice_get script (replied own)) s))) absent

pub walk-ends : (boot : Boot) (all : List Seen) (base : Ground) (order : List ℕ) (rounds : ℕ) → Together boot all base → AllFinished all
    → Walked boot all base (order ++ rounds_of boot.cpus rounds) → TurnedBy boot all order
walk-ends boot all base order rounds t finished w entries made = record {
  taken = w.taken;
  same = λ cpu. taken-of boot all base (order ++ rounds_of boot.cpus rounds) w cpu ∙ sym (made cpu);
  rounds = rounds;
  turns = subst (λ cpus. TakenIn boot (scripts_of all) [] (order ++ rounds_of cpus rounds) w.taken) (sym (length-map all (λ (c : Seen). c.script) ∙ t.count)) w.walk;
  ended = λ cpu. by_place cpu (slice_get all cpu) refl;
}
  where
    by_place : (cpu : ℕ) (found : Option Seen) → slice_get all cpu ≡ found → is_idle boot (scripts_of all) (with_moved boot (scripts_of all) w.taken) cpu ≡ true
    by_place cpu (Some c) at =
        let its = t.each cpu c at in
        sym (idle-is boot all base (order ++ rounds_of boot.cpus rounds) cpu c w at its.0 its.1)
        ∙ finished-idle c base.memory.entries (all-got (λ (c : Seen). need_of c ≡ Finished) all cpu c finished at) (scripts_of all) (has-script all cpu c at its.0)
    by_place cpu None none = nobody-idle boot all (with_moved boot (scripts_of all) w.taken) cpu none

-- ---- in the types of the processors

module _ {T : Type 0} (seen : T → Seen) where
  pub first-later : (NeverFails : T → Type 0) (all : List T) (base : Ground) → AtFirst (map seen all) base → EachLater seen NeverFails all all
  first-later NeverFails all base first = later-first seen NeverFails all (λ cpu c at. all-got IsFresh (map seen all) cpu (seen c) first.fresh (seen-at seen all cpu c at))

  pub each-finished : (all : List T) → All (λ c. need_of (seen c) ≡ Finished) all → AllFinished (map seen all)
  each-finished all each = All-map (λ (c : Seen). need_of c ≡ Finished) seen all each

  pub finished-each : (all : List T) → AllFinished (map seen all) → All (λ c. need_of (seen c) ≡ Finished) all
  finished-each all finished k d within =
      subst (λ (c : Seen). need_of c ≡ Finished) (get_or-map seen all k d (seen d) within) (finished k (seen d) (let long = length-map all seen in omega (arith, long, within)))
