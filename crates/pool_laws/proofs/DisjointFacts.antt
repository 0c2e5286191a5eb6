-- The live mappings of each legal history have slots of their own.
use Rattle.std.proofs.Common.{◌≡◌, ℕ, ◌<◌, Bool, true, false, not, Option, None, Some, List, [], ◌∷◌, ◌++◌, filter, cond, refl, sym, ◌∙◌, ap, subst, inl, inr, arith, ◌+◌, ◌*◌}
use Rattle.std.specs.Prelude.{◌==◌, All, fold}
use Rattle.std.specs.List.{AllByRecursion, AllPairs}
use Rattle.std.proofs.lemmas.Bool.{cases_Bool, cases_eq, eq-eqb, ne_eqb}
use Rattle.std.proofs.lemmas.List.Elements.{All-nil, All-cons, All-filter}
use Rattle.std.proofs.lemmas.List.Kept.{AllPairs-cons, AllPairs-filter}
use Rattle.guest_base.specs.declared.limits.TheConstants.{PAGE_BYTES}
use Rattle.guest_base.specs.declared.transfer.Request.{Request}
use Rattle.guest_base.specs.declared.transfer.SlotRun.{SlotRun}
use Rattle.guest_base.specs.Requests.{request_of}
use Rattle.guest_base.specs.Slots.{InOneSegment}
use Rattle.event_core.specs.declared.boot.Boot.{Boot}
use Rattle.event_core.specs.declared.command.Command.{Command}
use Rattle.event_core.specs.declared.entry.Entry.{Entry}
use Rattle.event_core.specs.declared.entry.Place.TheVariants as place
use Rattle.event_core.specs.declared.event.Event.{Event}
use Rattle.event_core.specs.declared.event.Event.TheVariants as event
use Rattle.event_core.specs.AreaRows.{area_looked_in}
use Rattle.event_core.specs.Disjoint.{ApartRuns, Disjoint}
use Rattle.event_core.specs.Legal.{Follows, Legal, LegalAfter, at_place, moved_after, place_of, same_place, with_bytes}
use Rattle.event_core.specs.Moved.{Moved, entries_of}
use Rattle.event_core.specs.Next.{Step}
use Rattle.event_core.specs.Pool.{is_used, live_after, live_runs, run_found, same_run}
use Rattle.event_core.proofs.LocalLemmas.{moved-entries}
use Rattle.event_core.proofs.RisingLemmas.{pairs-nil}
use Rattle.event_core.proofs.SoundLemmas.{legal-front}
use Rattle.event_core.proofs.StandingLemmas.{IsPlaced}
use Rattle.pool_laws.specs.Live.{live_in}
use Rattle.pool_laws.proofs.LiveLemmas.{apart-from-live, found-free, live-in-push, same-run, without}
use Rattle.event_core.proofs.CommandLemmas.{command-of, some-same, step_told}
use Rattle.pool_laws.proofs.StepFacts.{IsLook, NoLook, known-of, need-some, own_after}

-- ---- an area's own entries tell its live runs

-- a run that an event found lies in the area that was looked in
abbrev pub IsFoundThere : Event → Type 0
IsFoundThere (event.Looked area (Some run)) = run.area ≡ area
IsFoundThere _ = Unit {0}

abbrev pub in_area : ℕ → List SlotRun → List SlotRun
in_area area live = filter (λ (r : SlotRun). r.area == area) live

either : {A : Type 0} (b : Bool) (x : A) → x ≡ cond b x x
either true x = refl
either false x = refl

eqb-swap : (a b : ℕ) → (a == b) ≡ (b == a)
eqb-swap a b =
    elim (cases_eq a b) [
      | inl same ↦ eq-eqb a b same ∙ sym (eq-eqb b a (sym same))
      | inr other ↦ ne_eqb a b other ∙ sym (ne_eqb b a (λ same. other (sym same)))
    ]

-- a release in the area, and in another
released-there : (area : ℕ) (run : SlotRun) (live : List SlotRun) → in_area area (without run live) ≡ without run (in_area area live)
released-there area run [] = refl
released-there area run (x ∷ live) =
    let rest = released-there area run live in
    elim (cases_Bool (same_run x run)) [
      | inl t ↦
          elim (cases_Bool (x.area == area)) [
            | inl a ↦ rw (t, a, t) rest
            | inr b ↦ rw (t, b) rest
          ]
      | inr f ↦
          elim (cases_Bool (x.area == area)) [
            | inl a ↦ rw (f, a, f) (ap (λ (l : List SlotRun). x ∷ l) rest)
            | inr b ↦ rw (f, b) rest
          ]
    ]

released-elsewhere : (area : ℕ) (run : SlotRun) (live : List SlotRun) → (run.area == area) ≡ false → in_area area (without run live) ≡ in_area area live
released-elsewhere area run [] out = refl
released-elsewhere area run (x ∷ live) out =
    let rest = released-elsewhere area run live out in
    elim (cases_Bool (same_run x run)) [
      | inl t ↦ (let b : (x.area == area) ≡ false = ap (λ (r : SlotRun). r.area == area) (same-run x run t) ∙ out in rw (t, b) rest)
      | inr f ↦
          elim (cases_Bool (x.area == area)) [
            | inl a ↦ rw (f, a) (ap (λ (l : List SlotRun). x ∷ l) rest)
            | inr b ↦ rw (f, b) rest
          ]
    ]

-- an event changes the live runs of its own area alone
area-after : (boot : Boot) (e : Event) (area : ℕ) (live : List SlotRun) → IsFoundThere e
    → in_area area (live_after live e) ≡ cond (same_place (place.Area area) (place_of boot e)) (live_after (in_area area live) e) (in_area area live)
area-after boot (event.Looked looked None) area live found = either (area == looked) (in_area area live)
area-after boot (event.Looked looked (Some run)) area live found =
    let same : (run.area == area) ≡ (area == looked) = ap (λ n. n == area) found ∙ eqb-swap looked area in
    ap (λ (b : Bool). cond b (run ∷ in_area area live) (in_area area live)) same
area-after boot (event.Released run copied) area live found =
    let same : (area == run.area) ≡ (run.area == area) = eqb-swap area run.area in
    elim (cases_Bool (run.area == area)) [
      | inl t ↦ rw (same, t) (released-there area run live)
      | inr f ↦ rw (same, f) (released-elsewhere area run live f)
    ]
area-after boot e area live found = either (same_place (place.Area area) (place_of boot e)) (in_area area live)

-- the live runs after entries, from some on
abbrev lives : List SlotRun → List Moved → List SlotRun
lives live moved = fold (λ live (e : Entry). live_after live e.event) live (entries_of moved)

area-lives : (boot : Boot) (area : ℕ) (live : List SlotRun) (history : List Moved) → AllByRecursion (IsPlaced boot) history → AllByRecursion (λ (m : Moved). IsFoundThere m.entry.event) history
    → lives (in_area area live) (at_place (place.Area area) history) ≡ in_area area (lives live history)
area-lives boot area live [] placed found = refl
area-lives boot area live (m ∷ history) placed found =
    let after = area-after boot m.entry.event area live found.0 in
    let rest = area-lives boot area (live_after live m.entry.event) history placed.1 found.1 in
    elim (cases_Bool (same_place (place.Area area) m.entry.place)) [
      | inl t ↦
          (let there : same_place (place.Area area) (place_of boot m.entry.event) ≡ true = ap (same_place (place.Area area)) (sym placed.0) ∙ t in
          let now : in_area area (live_after live m.entry.event) ≡ live_after (in_area area live) m.entry.event = after ∙ ap (λ b. cond b (live_after (in_area area live) m.entry.event) (in_area area live)) there in
          rw t (ap (λ l. lives l (at_place (place.Area area) history)) (sym now) ∙ rest))
      | inr f ↦
          (let out : same_place (place.Area area) (place_of boot m.entry.event) ≡ false = ap (same_place (place.Area area)) (sym placed.0) ∙ f in
          let now : in_area area (live_after live m.entry.event) ≡ in_area area live = after ∙ ap (λ b. cond b (live_after (in_area area live) m.entry.event) (in_area area live)) out in
          rw f (ap (λ l. lives l (at_place (place.Area area) history)) (sym now) ∙ rest))
    ]

pub area-live : (boot : Boot) (area : ℕ) (history : List Moved) → AllByRecursion (IsPlaced boot) history → AllByRecursion (λ (m : Moved). IsFoundThere m.entry.event) history
    → live_in (at_place (place.Area area) history) ≡ in_area area (live_in history)
unfolding live_runs
area-live boot area history placed found = area-lives boot area [] history placed found

-- ---- the live runs of a history

-- live runs have slots of their own, each in one segment
pub record AreApart (live : List SlotRun) : Type 0 where
  pub some : All (λ (r : SlotRun). 0 < r.count) live
  pub segments : All (λ (r : SlotRun). InOneSegment r.first r.count) live
  pub apart : AllPairs ApartRuns live

pub record PoolStands (boot : Boot) (history : List Moved) : Type 0 where
  pub placed : AllByRecursion (IsPlaced boot) history
  pub found : AllByRecursion (λ (m : Moved). IsFoundThere m.entry.event) history
  pub live : AreApart (live_in history)

apart-plain : (e : Event) (live : List SlotRun) → NoLook e → AreApart live → AreApart (live_after live e)
apart-plain (event.Looked area run) live plain are = absurd plain
apart-plain (event.Released run copied) live plain are = record {
  some = All-filter (λ (r : SlotRun). not (same_run r run)) (λ (r : SlotRun). 0 < r.count) live are.some;
  segments = All-filter (λ (r : SlotRun). not (same_run r run)) (λ (r : SlotRun). InOneSegment r.first r.count) live are.segments;
  apart = AllPairs-filter ApartRuns (λ (r : SlotRun). not (same_run r run)) live are.apart;
}
apart-plain e live plain are = are

found-plain : (e : Event) → NoLook e → IsFoundThere e
found-plain (event.Looked area run) plain = absurd plain
found-plain e plain = tt

-- what a look in an area found is apart from what lives
look-apart : (boot : Boot) (there : List Entry) (area : ℕ) (request : Request) (live : List SlotRun) (found : Option SlotRun) → 0 < request.need → live_runs there ≡ in_area area live
    → run_found boot there area request ≡ found → AreApart live → (IsFoundThere (event.Looked area found)) × AreApart (live_after live (event.Looked area found))
look-apart boot there area request live None some stood is are = (tt, are)
look-apart boot there area request live (Some run) some stood is are =
    let its = found-free boot there area request run is in
    let slots : 0 < run.count = omega (arith, its.count) in (
      its.area,
      record {
        some = All-cons (λ (r : SlotRun). 0 < r.count) run live slots are.some;
        segments = All-cons (λ (r : SlotRun). InOneSegment r.first r.count) run live its.fits.segment are.segments;
        apart =
            AllPairs-cons ApartRuns run live
            (apart-from-live run live slots are.some
            (λ slot within. ap (λ l. is_used l slot) (ap (λ n. in_area n live) its.area ∙ sym stood) ∙ its.fits.free slot within))
            are.apart;
      },
    )

all-push : {A : Type 0} (P : A → Type 0) (xs : List A) (x : A) → AllByRecursion P xs → P x → AllByRecursion P (xs ++ x ∷ [])
all-push P [] x all here = (here, tt)
all-push P (y ∷ xs) x all here = (all.0, all-push P xs x all.1 here)

-- what an entry that follows leaves
after-look : (boot : Boot) (scripts : List (List Command)) (history : List Moved) (entry : Entry) (c : Command) → PoolStands boot history → Follows boot scripts history entry
    → IsLook boot entry.cpu.0 (own_after scripts history entry.cpu.0) (at_place entry.place history) c (step_told entry) → (IsFoundThere entry.event) × AreApart (live_after (live_in history) entry.event)
after-look boot scripts history entry c stands f look =
    let request : Request = request_of (PAGE_BYTES * look.holding.block.first + look.off) look.len look.mask in
    let area = area_looked_in boot entry.cpu.0 (own_after scripts history entry.cpu.0).looks in
    let there = entries_of (at_place entry.place history) in
    let looking : event.Looked area (run_found boot there area request) ≡ entry.event = ap (λ (s : Step). s.event) (some-same _ (step_told entry) look.step) in
    let at : entry.place ≡ place.Area area = f.over.place ∙ ap (place_of boot) (sym looking) in
    let live : live_runs there ≡ in_area area (live_in history) = ap (λ p. live_in (at_place p history)) at ∙ area-live boot area history stands.placed stands.found in
    let P : Event → Type 0 = λ e. (IsFoundThere e) × AreApart (live_after (live_in history) e) in
    subst P looking (look-apart boot there area request (live_in history) (run_found boot there area request) (need-some (PAGE_BYTES * look.holding.block.first + look.off) look.len look.mask look.some) live refl stands.live)

after-entry : (boot : Boot) (scripts : List (List Command)) (history : List Moved) (entry : Entry) → PoolStands boot history → Follows boot scripts history entry
    → (IsFoundThere entry.event) × AreApart (live_after (live_in history) entry.event)
after-entry boot scripts history entry stands f =
    let c = command-of boot scripts history entry f in
    elim (known-of boot scripts history entry f) [
      | inl plain ↦ (found-plain entry.event plain.event, apart-plain entry.event (live_in history) plain.event stands.live)
      | inr look ↦ after-look boot scripts history entry c.command stands f look
    ]

pub pool-push : (boot : Boot) (scripts : List (List Command)) (history : List Moved) (entry : Entry) → PoolStands boot history → Follows boot scripts history entry → PoolStands boot (history ++ with_bytes boot scripts history entry ∷ [])
pool-push boot scripts history entry stands f =
    let m = with_bytes boot scripts history entry in
    let after = after-entry boot scripts history entry stands f in
    record {
      placed = all-push (IsPlaced boot) history m stands.placed f.over.place;
      found = all-push (λ (n : Moved). IsFoundThere n.entry.event) history m stands.found after.0;
      live = subst AreApart (sym (live-in-push history m)) after.1;
    }

pool-first : (boot : Boot) → PoolStands boot []
unfolding live_runs
pool-first boot = record {
  placed = tt;
  found = tt;
  live = record {
    some = All-nil (λ (r : SlotRun). 0 < r.count);
    segments = All-nil (λ (r : SlotRun). InOneSegment r.first r.count);
    apart = pairs-nil ApartRuns;
  };
}

pub pool-after : (boot : Boot) (scripts : List (List Command)) (history : List Moved) (entries : List Entry) → PoolStands boot history → LegalAfter boot scripts history entries → PoolStands boot (moved_after boot scripts history entries)
pool-after boot scripts history [] stands legal = stands
pool-after boot scripts history (entry ∷ entries) stands legal = pool-after boot scripts (history ++ with_bytes boot scripts history entry ∷ []) entries (pool-push boot scripts history entry stands legal.0) legal.2

pub legal-apart-runs : (boot : Boot) (scripts : List (List Command)) (entries before later : List Entry) → Legal boot scripts entries → entries ≡ before ++ later → AreApart (live_runs before)
legal-apart-runs boot scripts entries before later legal is =
    let front = legal-front boot scripts [] before later (subst (LegalAfter boot scripts []) is legal) in
    subst (λ es. AreApart (live_runs es)) (moved-entries boot scripts [] before) (pool-after boot scripts [] before (pool-first boot) front).live

pub legal-disjoint : (boot : Boot) (scripts : List (List Command)) (entries : List Entry) → Legal boot scripts entries → Disjoint entries
legal-disjoint boot scripts entries legal = record {
  apart = λ before later is. (legal-apart-runs boot scripts entries before later legal is).apart;
  segments = λ before later is. (legal-apart-runs boot scripts entries before later legal is).segments;
}
