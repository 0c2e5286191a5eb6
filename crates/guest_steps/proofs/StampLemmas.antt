use Rattle.std.proofs.Common.{◌≡◌, ℕ, ◌+◌, ◌*◌, ◌^◌, ◌≤◌, ◌<◌, max, Bool, true, false, Option, None, Some, List, [], ◌∷◌, ◌++◌, refl, sym, ◌∙◌, ap, subst, arith, map, slice_get}
use Rattle.std.specs.Prelude.{All, filter, fold, length, ◌==◌}
use Rattle.std.proofs.lemmas.Bool.{eq-eqb}
use Rattle.std.proofs.lemmas.List.{length-append, length-map}
use Rattle.std.proofs.lemmas.List.Elements.{All-nil, All-cons, All-head, All-tail, All-push, All-weaker, All-filter, All-map}
use Rattle.guest_base.specs.declared.limits.TheConstants.{MAX_COMMANDS, MAX_CPUS, PAGE_END}
use Rattle.event_core.specs.declared.boot.Boot.{Boot}
use Rattle.event_core.specs.declared.command.Command.{Command}
use Rattle.event_core.specs.declared.entry.Entry.{Entry}
use Rattle.event_core.specs.declared.entry.Place.{Place}
use Rattle.event_core.specs.declared.entry.Place.TheVariants.{Memory, Area, Own}
use Rattle.event_core.specs.Legal.{Legal, LegalAfter, at_place, bare, greatest_stamp, same_place, with_bytes}
use Rattle.event_core.specs.Moved.{Moved, made_by}
use Rattle.event_core.proofs.RisingLemmas.{filter-at}
use Rattle.io_areas.specs.Value.{AreaValue}
use Rattle.memory_core.specs.UnderLock.{unmoved}
use Rattle.memory_core.proofs.StepLemmas.{fewer}
use Rattle.guest_steps.specs.Ground.{Ground, HasArea, there_in}
use Rattle.guest_steps.specs.Seen.{Seen, STEPS, entries_made}
use Rattle.guest_steps.specs.Standing.{Together, lists_of, moved_at, scripts_of}
use Rattle.guest_steps.specs.Steps.{stamp_before, stamp_in}
use Rattle.guest_steps.proofs.GroundLemmas.{there-of}
use Rattle.guest_steps.proofs.HistoryLemmas.{all-entries, entries-legal, list-owner}
use Rattle.guest_steps.proofs.ListLemmas.{all-unmap}
use Rattle.guest_steps.proofs.TogetherLemmas.{agree-there, list-some, moved-none, moved-some}

-- The stamps of processors that stand together are at most as many as their entries.

-- ---- the greatest of stamps that have a bound

abbrev AtMost : ℕ → Moved → Type 0
AtMost most m = m.entry.stamp ≤ most

greatest-most : (most from : ℕ) (moved : List Moved) → from ≤ most → All (AtMost most) moved → fold (λ greatest (m : Moved). max greatest m.entry.stamp) from moved ≤ most
greatest-most most from [] low all = low
greatest-most most from (m ∷ ms) low all =
    greatest-most most (max from m.entry.stamp) ms (let first = All-head (AtMost most) m ms all in omega (arith, low, first)) (All-tail (AtMost most) m ms all)

last-most : (most from : ℕ) (entries : List Entry) → from ≤ most → All (λ (e : Entry). e.stamp ≤ most) entries → fold (λ last (e : Entry). max last e.stamp) from entries ≤ most
last-most most from [] low all = low
last-most most from (e ∷ es) low all =
    last-most most (max from e.stamp) es (let first = All-head (λ (x : Entry). x.stamp ≤ most) e es all in omega (arith, low, first)) (All-tail (λ (x : Entry). x.stamp ≤ most) e es all)

there-most : (most : ℕ) (p : Moved → Bool) (moved : List Moved) → All (AtMost most) moved → All (AtMost most) (map bare (filter p moved))
there-most most p moved all = All-map (AtMost most) bare (filter p moved) (All-filter p (AtMost most) moved all)

place-most : (most : ℕ) (place : Place) (moved : List Moved) → All (AtMost most) moved → greatest_stamp (at_place place moved) ≤ most
place-most most Memory moved all = greatest-most most 0 (at_place Memory moved) (omega arith) (there-most most (λ (m : Moved). same_place Memory m.entry.place) moved all)
place-most most (Area area) moved all = greatest-most most 0 (at_place (Area area) moved) (omega arith) (there-most most (λ (m : Moved). same_place (Area area) m.entry.place) moved all)
place-most most Own moved all = omega arith

-- ---- a legal history

-- each entry's stamp is at most the count of entries up to it
stamps-after : (boot : Boot) (scripts : List (List Command)) (history : List Moved) (entries : List Entry) → LegalAfter boot scripts history entries → All (AtMost (length history)) history
    → All (λ (e : Entry). e.stamp ≤ length history + length entries) entries
stamps-after boot scripts history [] legal all = All-nil (λ (e : Entry). e.stamp ≤ length history + 0)
stamps-after boot scripts history (e ∷ es) legal all =
    let m = with_bytes boot scripts history e in
    let f = legal.0 in
    let own = greatest-most (length history) 0 (made_by e.cpu.0 history) (omega arith) (All-filter (λ (x : Moved). x.entry.cpu.0 == e.cpu.0) (AtMost (length history)) history all) in
    let there = place-most (length history) e.place history all in
    let stamp = f.stamp in
    let long : length (history ++ m ∷ []) ≡ length history + 1 = length-append history (m ∷ []) in
    let low : e.stamp ≤ length history + 1 = omega (arith, own, there, stamp) in
    let P : ℕ → Entry → Type 0 = λ n x. x.stamp ≤ n in
    All-cons (P (length history + length (e ∷ es))) e es (omega (arith, low))
    (All-weaker (P (length (history ++ m ∷ []) + length es)) (P (length history + length (e ∷ es))) (λ x h. omega (arith, h, long)) es
    (stamps-after boot scripts (history ++ m ∷ []) es legal.2
    (All-push (AtMost (length (history ++ m ∷ []))) history m (All-weaker (AtMost (length history)) (AtMost (length (history ++ m ∷ []))) (λ x h. omega (arith, h, long)) history all) (omega (arith, low, long)))))

pub legal-stamps : (boot : Boot) (scripts : List (List Command)) (entries : List Entry) → Legal boot scripts entries → All (λ (e : Entry). e.stamp ≤ length entries) entries
legal-stamps boot scripts entries legal =
    All-weaker (λ (e : Entry). e.stamp ≤ 0 + length entries) (λ (e : Entry). e.stamp ≤ length entries) (λ e h. omega (arith, h)) entries
    (stamps-after boot scripts [] entries legal (All-nil (AtMost 0)))

-- ---- all processors

own-most : (boot : Boot) (all : List Seen) (base : Ground) (t : Together boot all base) (cpu : ℕ) (c : Seen) → slice_get all cpu ≡ Some c
    → All (AtMost (length (all-entries boot all base t).entries)) c.moved
own-most boot all base t cpu c at =
    let one = all-entries boot all base t in
    let P : Entry → Type 0 = λ e. e.stamp ≤ length one.entries in
    all-unmap P (λ (m : Moved). m.entry) c.moved
    (subst (All P) (one.same cpu ∙ list-some all cpu c at) (All-filter (λ (e : Entry). e.cpu.0 == cpu) P one.entries (legal-stamps boot (scripts_of all) one.entries (entries-legal boot all base t))))

-- what holds of each processor's entries holds of all
each-by : (P : Moved → Type 0) (moved : List Moved) → ((cpu : ℕ) → All P (made_by cpu moved)) → All P moved
each-by P [] each = All-nil P
each-by P (m ∷ ms) each =
    All-cons P m ms
    (All-head P m (made_by m.entry.cpu.0 ms) (subst (All P) (filter-at (λ (x : Moved). x.entry.cpu.0 == m.entry.cpu.0) m ms true (eq-eqb m.entry.cpu.0 m.entry.cpu.0 refl)) (each m.entry.cpu.0)))
    (each-by P ms (λ cpu. behind cpu (m.entry.cpu.0 == cpu) refl))
  where
    behind : (cpu : ℕ) (b : Bool) → (m.entry.cpu.0 == cpu) ≡ b → All P (made_by cpu ms)
    behind cpu true is = All-tail P m (made_by cpu ms) (subst (All P) (filter-at (λ (x : Moved). x.entry.cpu.0 == cpu) m ms true is) (each cpu))
    behind cpu false is = subst (All P) (filter-at (λ (x : Moved). x.entry.cpu.0 == cpu) m ms false is) (each cpu)

at-most : (most : ℕ) (place : Place) (moved : List Moved) → All (AtMost most) moved → All (AtMost most) (at_place place moved)
at-most most Memory moved all = there-most most (λ (m : Moved). same_place Memory m.entry.place) moved all
at-most most (Area area) moved all = there-most most (λ (m : Moved). same_place (Area area) m.entry.place) moved all
at-most most Own moved all = All-nil (AtMost most)

there-by : (boot : Boot) (all : List Seen) (base : Ground) (t : Together boot all base) (place : Place) (cpu : ℕ) (found : Option Seen) → slice_get all cpu ≡ found
    → All (AtMost (length (all-entries boot all base t).entries)) (made_by cpu (there_in base place))
there-by boot all base t place cpu None at =
    let most = length (all-entries boot all base t).entries in
    subst (All (AtMost most)) (sym (agree-there boot all base place cpu t None at)) (at-most most place (moved_at all cpu) (subst (All (AtMost most)) (sym (moved-none all cpu at)) (All-nil (AtMost most))))
there-by boot all base t place cpu (Some c) at =
    let most = length (all-entries boot all base t).entries in
    subst (All (AtMost most)) (sym (agree-there boot all base place cpu t (Some c) at)) (at-most most place (moved_at all cpu) (subst (All (AtMost most)) (sym (moved-some all cpu c at)) (own-most boot all base t cpu c at)))

-- all entries of a place
there-all : (boot : Boot) (all : List Seen) (base : Ground) (t : Together boot all base) (place : Place) → All (AtMost (length (all-entries boot all base t).entries)) (there_in base place)
there-all boot all base t place =
    each-by (AtMost (length (all-entries boot all base t).entries)) (there_in base place) (λ cpu. there-by boot all base t place cpu (slice_get all cpu) refl)

-- no more entries than the steps of all scripts
list-few : (boot : Boot) (all : List Seen) (base : Ground) → Together boot all base → (cpu : ℕ) (list : List Entry) → slice_get (lists_of all) cpu ≡ Some list → length list ≤ (MAX_COMMANDS + PAGE_END) * STEPS
list-few boot all base t cpu list at =
    let o = list-owner all cpu list at in
    let c = o.0 in
    let stands = (t.each cpu c o.1).2 in
    let spent = stands.spent in
    let few = stands.readable.few in
    let most = fewer (length c.script + PAGE_END) (MAX_COMMANDS + PAGE_END) STEPS (omega (arith, few)) in
    let same : length (entries_made c) ≡ length list = ap (λ (es : List Entry). length es) o.2 in
    let long : length (entries_made c) ≡ length c.moved = length-map c.moved (λ (m : Moved). m.entry) in
    omega (arith, spent, most, same, long)

pub entries-few : (boot : Boot) (all : List Seen) (base : Ground) (t : Together boot all base) → boot.cpus ≤ MAX_CPUS → length (all-entries boot all base t).entries < 2 ^ 64
entries-few boot all base t cpus =
    let one = all-entries boot all base t in
    let long = one.long ((MAX_COMMANDS + PAGE_END) * STEPS) (list-few boot all base t) in
    let count : length (lists_of all) ≡ boot.cpus = length-map all (λ (c : Seen). entries_made c) ∙ t.count in
    let most = fewer (length (lists_of all)) MAX_CPUS ((MAX_COMMANDS + PAGE_END) * STEPS) (omega (arith, count, cpus)) in
    omega (arith, long, most)

own-stamp-low : (boot : Boot) (all : List Seen) (base : Ground) (t : Together boot all base) (cpu : ℕ) (c : Seen) → slice_get all cpu ≡ Some c
    → greatest_stamp c.moved ≤ length (all-entries boot all base t).entries
own-stamp-low boot all base t cpu c at =
    greatest-most (length (all-entries boot all base t).entries) 0 c.moved (omega arith) (own-most boot all base t cpu c at)

few-here : (boot : Boot) (all : List Seen) (base : Ground) (t : Together boot all base) (cpu : ℕ) (c : Seen) → slice_get all cpu ≡ Some c → length (all-entries boot all base t).entries < 2 ^ 64
few-here boot all base t cpu c at =
    let was = t.each cpu c at in
    let booted = was.2.booted in
    let low = booted.cpus in
    let same : c.boot.cpus ≡ boot.cpus = ap (λ (b : Boot). b.cpus) was.1 in
    entries-few boot all base t (omega (arith, low, same))

-- the stamps of one processor's entries
pub own-stamp-small : (boot : Boot) (all : List Seen) (base : Ground) (cpu : ℕ) (c : Seen) → Together boot all base → slice_get all cpu ≡ Some c → greatest_stamp c.moved < 2 ^ 64
own-stamp-small boot all base cpu c t at =
    let low = own-stamp-low boot all base t cpu c at in
    let few = few-here boot all base t cpu c at in
    omega (arith, low, few)

-- and those before a step over the memory
pub stamp-before-small : (boot : Boot) (all : List Seen) (base : Ground) (cpu : ℕ) (c : Seen) → Together boot all base → slice_get all cpu ≡ Some c → stamp_before c base.memory < 2 ^ 64
stamp-before-small boot all base cpu c t at =
    let most = length (all-entries boot all base t).entries in
    let low = own-stamp-low boot all base t cpu c at in
    let few = few-here boot all base t cpu c at in
    let last = last-most most 0 base.memory.entries (omega arith) (all-unmap (AtMost most) unmoved base.memory.entries (there-all boot all base t Memory)) in
    omega (arith, low, few, last)

-- or in an area
pub stamp-in-small : (boot : Boot) (all : List Seen) (base : Ground) (cpu : ℕ) (c : Seen) (area : AreaValue) → Together boot all base → slice_get all cpu ≡ Some c → HasArea base area → stamp_in c area < 2 ^ 64
stamp-in-small boot all base cpu c area t at has =
    let most = length (all-entries boot all base t).entries in
    let low = own-stamp-low boot all base t cpu c at in
    let few = few-here boot all base t cpu c at in
    let there = subst (All (AtMost most)) (there-of base area.number area has) (there-all boot all base t (Area area.number)) in
    let last = greatest-most most 0 area.moved (omega arith) there in
    omega (arith, low, few, last)

pub stamps-small : (boot : Boot) (all : List Seen) (base : Ground) (cpu : ℕ) (c : Seen) → Together boot all base → slice_get all cpu ≡ Some c
    → (stamp_before c base.memory < 2 ^ 64) × ((area : AreaValue) → HasArea base area → stamp_in c area < 2 ^ 64)
stamps-small boot all base cpu c t at = (stamp-before-small boot all base cpu c t at, λ area has. stamp-in-small boot all base cpu c area t at has)
