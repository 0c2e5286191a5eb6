use Rattle.std.proofs.Common.{◌%◌, subst, ◌≡◌, ℕ, zero, suc, ◌+◌, ◌≤◌, true, false, Option, None, Some, List, [], ◌∷◌, refl, sym, ◌∙◌, ap, inl, inr, arith}
use Rattle.std.specs.Prelude.{All, ◌⊎◌}
use Rattle.guest_base.specs.declared.memory.Pages.{Pages}
use Rattle.std.specs.List.{AllPairs, list_any}
use Rattle.std.proofs.lemmas.Bool.Decides.{nat_tests}
use Rattle.guest_base.specs.Ranges.{in_range}
use Rattle.guest_base.specs.Slots.{InOneSegment}
use Rattle.guest_base.specs.declared.memory.PageState.{PageState}
use Rattle.guest_base.specs.declared.memory.PageState.TheVariants.{Accepted}
use Rattle.guest_base.specs.declared.transfer.SlotRun.{SlotRun}
use Rattle.event_core.specs.declared.entry.Entry.{Entry}
use Rattle.event_core.specs.declared.reply.Found.TheVariants.{Absent}
use Rattle.event_core.specs.Own.{own_of}
use Rattle.event_core.specs.Pool.{live_runs}
use Rattle.event_core.specs.PoolBytes.{pool_byte, bytes_moved}
use Rattle.event_core.specs.Absent.{is_absent}
use Rattle.event_core.specs.Calls.{calls_of}
use Rattle.event_core.specs.MemoryRows.{page_state}
use Rattle.event_core.specs.Touches.{strayed_into}
use Rattle.event_core.specs.Untouched.{Untouched, touched_pages, among, StraysSafely}
use Rattle.event_core.specs.Disjoint.{Disjoint, ApartRuns}
use Rattle.event_rows.specs.Touched.{touched_along, alone, none}
use Rattle.event_rows.specs.Conversions.{pair_guest, pair_script, pair_history}
use Rattle.event_rows.specs.Bounces.{pool_guest, bounce_script, bounce_history, slots_at}
use Rattle.event_rows.proofs.RowLemmas.{some-same}
use Rattle.event_rows.proofs.SplitLemmas.{AtEach, AfterEach, each-entry, each-prefix}

pub bounces-touch : touched_along pool_guest (bounce_script ∷ []) [] (bounce_history (1 ∷ 170 ∷ 187 ∷ 204 ∷ 5 ∷ []) (7 ∷ 170 ∷ []))
    ≡ alone 64 ∷ alone 64 ∷ alone 64 ∷ none ∷ alone 64 ∷ alone 64 ∷ alone 64 ∷ none ∷ none ∷ alone 64 ∷ alone 64 ∷ alone 64 ∷ alone 64
    ∷ none ∷ none ∷ alone 64 ∷ alone 64 ∷ none ∷ none ∷ none ∷ alone 64 ∷ none ∷ []
unfolding own_of bytes_moved pool_byte
bounces-touch = refl

pub pair-touch : touched_along pair_guest (pair_script ∷ []) [] (pair_history (0 ∷ []) Absent)
    ≡ alone 1 ∷ alone 2 ∷ alone 2 ∷ none ∷ none ∷ none ∷ alone 1 ∷ none ∷ none ∷ none ∷ none ∷ alone 1 ∷ none ∷ none ∷ alone 2 ∷ none ∷ []
unfolding own_of bytes_moved pool_byte
pair-touch = refl

-- ---- no pending page is touched in the conversions

only : (k page : ℕ) → among (alone k) page → page ≡ k
only k page h = grind (arith, nat_tests, h)

-- an entry touches nothing, or one accepted page
abbrev Touches : List Entry → Entry → Type 0
Touches before entry =
    (touched_pages pair_guest (pair_script ∷ []) before entry ≡ none)
    ⊎ ((k : ℕ) × (touched_pages pair_guest (pair_script ∷ []) before entry ≡ alone k) × (page_state pair_guest (calls_of pair_guest before) k ≡ Some Accepted))

safe : (states : ℕ → Option PageState) (ranges : List Pages) → (ranges ≡ none) ⊎ ((k : ℕ) × (ranges ≡ alone k) × (states k ≡ Some Accepted)) → (page : ℕ) → among ranges page → states page ≡ Some Accepted
safe states ranges (inl nothing) page h = let no : false ≡ true = sym (ap (λ (rs : List Pages). list_any (λ (pages : Pages). in_range pages.first pages.count page) rs) nothing) ∙ h in cc
safe states ranges (inr one) page h = ap states (only one.0 page (subst (λ (rs : List Pages). among rs page) one.1 h)) ∙ one.2

-- an entry strays nowhere, or safely
abbrev Strays : List Entry → Entry → Type 0
Strays before entry = (strayed_into entry.event ≡ None) ⊎ ((k : ℕ) × (strayed_into entry.event ≡ Some k) × StraysSafely pair_guest before k)

safely : (F : ℕ → Type 0) (into : Option ℕ) → (into ≡ None) ⊎ ((k : ℕ) × (into ≡ Some k) × F k) → (page : ℕ) → into ≡ Some page → F page
safely F into (inl nothing) page h = cc
safely F into (inr one) page h = subst F (some-same one.0 page (sym one.1 ∙ h)) one.2

touches : AtEach Touches [] (pair_history (0 ∷ []) Absent)
unfolding own_of bytes_moved pool_byte
touches = (inr (1, refl, refl), (inr (2, refl, refl), (inr (2, refl, refl), (inl refl, (inl refl, (inl refl, (inr (1, refl, refl), (inl refl, (inl refl, (inl refl, (inl refl, (inr (1, refl, refl), (inl refl, (inl refl, (inr (2, refl, refl), (inl refl, tt))))))))))))))))

strays : AtEach Strays [] (pair_history (0 ∷ []) Absent)
unfolding is_absent
strays = (inl refl, (inl refl, (inl refl, (inl refl, (inl refl, (inl refl, (inr (2, refl, inr (inr (inr refl))), (inl refl, (inl refl, (inl refl, (inl refl, (inr (2, refl, inr (inl refl)), (inl refl, (inl refl, (inl refl, (inl refl, tt))))))))))))))))

pub pair-untouched : Untouched pair_guest (pair_script ∷ []) (pair_history (0 ∷ []) Absent)
pair-untouched = record {
  touched = λ before later entry is. safe (page_state pair_guest (calls_of pair_guest before)) (touched_pages pair_guest (pair_script ∷ []) before entry) (each-entry Touches (pair_history (0 ∷ []) Absent) touches before later entry is);
  strayed = λ before later entry is. safely (StraysSafely pair_guest before) (strayed_into entry.event) (each-entry Strays (pair_history (0 ∷ []) Absent) strays before later entry is);
}

-- ---- the live mappings of the bounces

one_run : (run : SlotRun) → AllPairs ApartRuns (run ∷ [])
one_run run i j d less low = absurd (omega (arith, less, low))

no_run : AllPairs ApartRuns []
no_run i j d less low = absurd (omega (arith, low))

one_within : (run : SlotRun) → InOneSegment run.first run.count → All (λ (r : SlotRun). InOneSegment r.first r.count) (run ∷ [])
one_within run h zero d low = h
one_within run h (suc k) d low = absurd (omega (arith, low))

no_within : All (λ (r : SlotRun). InOneSegment r.first r.count) []
no_within k d low = absurd (omega (arith, low))

abbrev Fine : List Entry → Type 0
Fine before = AllPairs ApartRuns (live_runs before) × All (λ (r : SlotRun). InOneSegment r.first r.count) (live_runs before)

here : (first len : ℕ) → first % 128 + 1 ≤ 128 → AllPairs ApartRuns (slots_at first len ∷ []) × All (λ (r : SlotRun). InOneSegment r.first r.count) (slots_at first len ∷ [])
here first len h = (one_run (slots_at first len), one_within (slots_at first len) h)

nowhere : AllPairs ApartRuns [] × All (λ (r : SlotRun). InOneSegment r.first r.count) []
nowhere = (no_run, no_within)

fine : AfterEach Fine [] (bounce_history (1 ∷ 170 ∷ 187 ∷ 204 ∷ 5 ∷ []) (7 ∷ 170 ∷ []))
unfolding live_runs
fine = (nowhere, (nowhere, (nowhere, (here 0 5 (omega arith), (here 0 5 (omega arith), (nowhere, (nowhere, (here 1 5 (omega arith), (here 1 5 (omega arith), (nowhere, (nowhere, (here 2 2 (omega arith), (here 2 2 (omega arith), (here 2 2 (omega arith), (here 2 2 (omega arith), (here 2 2 (omega arith), (here 2 2 (omega arith), (here 2 2 (omega arith), (here 2 2 (omega arith), (here 2 2 (omega arith), (here 2 2 (omega arith), (nowhere, nowhere))))))))))))))))))))))

pub bounces-disjoint : Disjoint (bounce_history (1 ∷ 170 ∷ 187 ∷ 204 ∷ 5 ∷ []) (7 ∷ 170 ∷ []))
bounces-disjoint = record {
  apart = λ before later is. (each-prefix Fine (bounce_history (1 ∷ 170 ∷ 187 ∷ 204 ∷ 5 ∷ []) (7 ∷ 170 ∷ [])) fine before later is).0;
  segments = λ before later is. (each-prefix Fine (bounce_history (1 ∷ 170 ∷ 187 ∷ 204 ∷ 5 ∷ []) (7 ∷ 170 ∷ [])) fine before later is).1;
}
