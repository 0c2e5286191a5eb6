use Rattle.std.proofs.Common.{◌≡◌, ◌≢◌, ℕ, ◌≤◌, ◌<◌, Option, None, Some, List, [], ◌∷◌, ◌++◌, refl, sym, ◌∙◌, ap, subst, arith, unwrap_or, slice_get}
use Rattle.std.specs.Prelude.{All}
use Rattle.std.specs.Option.{option_map}
use Rattle.std.proofs.lemmas.List.Elements.{All-weaker}
use Rattle.std.proofs.lemmas.Option.{slice_get-map}
use Rattle.event_core.specs.declared.boot.Boot.{Boot}
use Rattle.event_core.specs.declared.command.Command.{Command}
use Rattle.event_core.specs.declared.entry.Entry.{Entry}
use Rattle.event_core.specs.declared.entry.Place.{Place}
use Rattle.event_core.specs.declared.entry.Place.TheVariants.{Memory, Area, Own}
use Rattle.event_core.specs.Legal.{at_place}
use Rattle.event_core.specs.Locally.{EachFollows, FollowsLocally, StoodBefore}
use Rattle.event_core.specs.Moved.{Moved, entries_of, made_by}
use Rattle.guest_history.specs.Agreeing.{Agree, AreMadeBy}
use Rattle.guest_steps.specs.Ground.{Ground, there_in}
use Rattle.guest_steps.specs.Seen.{Seen, entries_made}
use Rattle.guest_steps.specs.Standing.{StoodIn, Together, kept_by, lists_of, moved_at, scripts_of}
use Rattle.guest_steps.proofs.BeginningLemmas.{nothing-at}
use Rattle.guest_steps.proofs.GroundLemmas.{none-made-by}
use Rattle.guest_steps.proofs.ListLemmas.{not-in-nil, past-none}

-- The lists of processors that stand together agree with those of the places.

-- ---- the list of a number

pub list-some : (all : List Seen) (cpu : ℕ) (c : Seen) → slice_get all cpu ≡ Some c → unwrap_or (slice_get (lists_of all) cpu) [] ≡ entries_made c
list-some all cpu c at = ap (λ (o : Option (List Entry)). unwrap_or o []) (slice_get-map (λ (x : Seen). entries_made x) all cpu ∙ ap (option_map (λ (x : Seen). entries_made x)) at)

pub list-none : (all : List Seen) (cpu : ℕ) → slice_get all cpu ≡ None → unwrap_or (slice_get (lists_of all) cpu) [] ≡ []
list-none all cpu at = ap (λ (o : Option (List Entry)). unwrap_or o []) (slice_get-map (λ (x : Seen). entries_made x) all cpu ∙ ap (option_map (λ (x : Seen). entries_made x)) at)

pub moved-some : (all : List Seen) (cpu : ℕ) (c : Seen) → slice_get all cpu ≡ Some c → moved_at all cpu ≡ c.moved
moved-some all cpu c at = ap (λ (o : Option (List Moved)). unwrap_or o []) (slice_get-map (λ (x : Seen). x.moved) all cpu ∙ ap (option_map (λ (x : Seen). x.moved)) at)

pub moved-none : (all : List Seen) (cpu : ℕ) → slice_get all cpu ≡ None → moved_at all cpu ≡ []
moved-none all cpu at = ap (λ (o : Option (List Moved)). unwrap_or o []) (slice_get-map (λ (x : Seen). x.moved) all cpu ∙ ap (option_map (λ (x : Seen). x.moved)) at)

pub script-some : (all : List Seen) (cpu : ℕ) (c : Seen) → slice_get all cpu ≡ Some c → slice_get (scripts_of all) cpu ≡ Some c.script
script-some all cpu c at = slice_get-map (λ (x : Seen). x.script) all cpu ∙ ap (option_map (λ (x : Seen). x.script)) at

-- ---- the lists agree

-- no entry of a place is another's
none-past : (boot : Boot) (all : List Seen) (base : Ground) (place : Place) (cpu : ℕ) → Together boot all base → slice_get all cpu ≡ None → made_by cpu (there_in base place) ≡ []
none-past boot all base place cpu t at =
    let past = past-none all cpu at in
    let count = t.count in
    none-made-by cpu (there_in base place)
    (All-weaker (λ (m : Moved). m.entry.cpu.0 < boot.cpus) (λ (m : Moved). m.entry.cpu.0 ≢ cpu) (λ m low same. omega (arith, low, same, past, count)) (there_in base place) (t.named place))

-- a place has of each number what its list has there
pub agree-there : (boot : Boot) (all : List Seen) (base : Ground) (place : Place) (cpu : ℕ) → Together boot all base → (found : Option Seen) → slice_get all cpu ≡ found
    → made_by cpu (there_in base place) ≡ at_place place (moved_at all cpu)
agree-there boot all base place cpu t None at = none-past boot all base place cpu t at ∙ sym (ap (at_place place) (moved-none all cpu at) ∙ nothing-at place)
agree-there boot all base place cpu t (Some c) at =
    let was = t.each cpu c at in
    ap (λ n. made_by n (there_in base place)) (sym was.0) ∙ was.2.mine place ∙ sym (ap (at_place place) (moved-some all cpu c at))

pub together-agree : (boot : Boot) (all : List Seen) (base : Ground) → Together boot all base → Agree (kept_by all base)
together-agree boot all base t = record {
  memory = record { rises = t.rises Memory; same = λ cpu. agree-there boot all base Memory cpu t (slice_get all cpu) refl };
  areas = λ area. record { rises = t.rises (Area area); same = λ cpu. agree-there boot all base (Area area) cpu t (slice_get all cpu) refl };
}

made-there : (all : List Seen) (cpu : ℕ) (found : Option Seen) → slice_get all cpu ≡ found → entries_of (moved_at all cpu) ≡ unwrap_or (slice_get (lists_of all) cpu) []
made-there all cpu None at = ap entries_of (moved-none all cpu at) ∙ sym (list-none all cpu at)
made-there all cpu (Some c) at = ap entries_of (moved-some all cpu c at) ∙ sym (list-some all cpu c at)

pub together-made : (all : List Seen) (base : Ground) → AreMadeBy (lists_of all) (kept_by all base)
together-made all base cpu = made-there all cpu (slice_get all cpu) refl

-- ---- each entry follows

stood-before : (place : Place) (m : Moved) (all : List Seen) (base : Ground) (there : List Moved) → StoodIn place m (there_in base) there → StoodBefore (kept_by all base) place there m
stood-before Memory m all base there stood = stood
stood-before (Area area) m all base there stood = stood
stood-before Own m all base there stood = stood

-- an entry of a list stands behind others there, and follows these and those before it in its place
abbrev FollowsThere : Boot → List Seen → Ground → List Moved → Moved → Type 0
FollowsThere boot all base own m = (there : List Moved) × StoodBefore (kept_by all base) m.entry.place there m × FollowsLocally boot (scripts_of all) own there m

list-follows : (boot : Boot) (all : List Seen) (base : Ground) (cpu : ℕ) → Together boot all base → (found : Option Seen) → slice_get all cpu ≡ found
    → (own later : List Moved) (m : Moved) → moved_at all cpu ≡ own ++ m ∷ later → FollowsThere boot all base own m
list-follows boot all base cpu t None at own later m is = absurd (not-in-nil own later m (sym (moved-none all cpu at) ∙ is))
list-follows boot all base cpu t (Some c) at own later m is =
    let was = t.each cpu c at in
    let follows = was.2.follows own later m (sym (moved-some all cpu c at) ∙ is) in (
      follows.0,
      stood-before m.entry.place m all base follows.0 follows.1,
      subst (λ b. FollowsLocally b (scripts_of all) own follows.0 m) was.1 (follows.2 (scripts_of all) (ap (slice_get (scripts_of all)) was.0 ∙ script-some all cpu c at)),
    )

pub together-follows : (boot : Boot) (all : List Seen) (base : Ground) → Together boot all base → EachFollows boot (scripts_of all) (kept_by all base)
together-follows boot all base t cpu own later m is = list-follows boot all base cpu t (slice_get all cpu) refl own later m is

pub lists-agree : (boot : Boot) (all : List Seen) (base : Ground) → Together boot all base
    → AreMadeBy (lists_of all) (kept_by all base) × Agree (kept_by all base) × EachFollows boot (scripts_of all) (kept_by all base)
lists-agree boot all base t = (together-made all base, together-agree boot all base t, together-follows boot all base t)
