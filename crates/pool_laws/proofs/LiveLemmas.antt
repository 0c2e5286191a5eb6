-- The live mappings of an area with its entries, and the slots that they use.
use Rattle.std.proofs.Common.{◌≡◌, ◌⊎◌, ℕ, zero, suc, ◌+◌, ◌*◌, ◌-◌, ◌%◌, ◌<◌, ◌≤◌, Bool, true, false, not, ◌&&◌, ◌||◌, Option, None, Some, List, [], ◌∷◌, ◌++◌, filter, cond, refl, sym, ◌∙◌, ap, subst, inl, inr, arith, append-nil}
use Rattle.std.specs.Prelude.{◌==◌, nat_le, All, slice_index_or}
use Rattle.std.specs.List.{AllPairs}
use Rattle.std.specs.Option.{option_map, option_or}
use Rattle.std.proofs.lemmas.Bool.{cases_Bool, cases_lt, and_parts, and_from, or_cases, or_parts, or_from, or_left, or_right, eqb-true, eq-eqb, leb-true, lt-leb, not-true, false_from_ne_true, both_ways}
use Rattle.std.proofs.lemmas.List.Elements.{All-nil, All-cons, All-head, All-tail, All-filter, filter-append}
use Rattle.std.proofs.lemmas.List.Kept.{AllPairs-cons, AllPairs-filter}
use Rattle.std.proofs.lemmas.List.Sums.{fold-append}
use Rattle.guest_base.specs.declared.limits.TheConstants.{SLOT_BYTES, SEGMENT_SLOTS}
use Rattle.guest_base.specs.declared.transfer.Align.{Align}
use Rattle.guest_base.specs.declared.transfer.Request.{Request}
use Rattle.guest_base.specs.declared.transfer.SlotRun.{SlotRun}
use Rattle.guest_base.specs.Ranges.{in_range}
use Rattle.guest_base.specs.Search.{first_such, each_such}
use Rattle.guest_base.specs.Slots.{InOneSegment, choose, fits_at, meets_align}
use Rattle.guest_base.proofs.RangeLemmas.{in_range-intro, in_range-elim, in_range-below, in_range-past}
use Rattle.guest_base.proofs.SearchLemmas.{first_such-Some, first_such-None, first_such_same, each_such-true, each_such-zero, each_such-pass, each_such-fail}
use Rattle.event_core.specs.declared.boot.Boot.{Boot}
use Rattle.event_core.specs.declared.entry.Entry.{Entry}
use Rattle.event_core.specs.declared.event.Event.TheVariants.{Looked, Released}
use Rattle.event_core.specs.Disjoint.{ApartRuns}
use Rattle.event_core.specs.FullOnlyWhereFull.{NothingFits}
use Rattle.event_core.specs.Moved.{Moved, entries_of, made_by}
use Rattle.event_core.specs.Pool.{area_slots, hint_of, is_used, live_after, live_runs, run_for, run_found, same_run}
use Rattle.event_core.proofs.RisingLemmas.{pairs-nil, pairs-head, pairs-tail}
use Rattle.event_core.proofs.SoundLemmas.{entries_of-push}
use Rattle.pool_laws.specs.Live.{IsInArea, MappingsStand, is_live, live_in, live_of}

-- ---- runs that are the same

and-five : (a b c d e : Bool) → (a && (b && (c && (d && e)))) ≡ true → (a ≡ true) × (b ≡ true) × (c ≡ true) × (d ≡ true) × (e ≡ true)
and-five a b c d e is =
    let one = and_parts a (b && (c && (d && e))) is in
    let two = and_parts b (c && (d && e)) one.1 in
    let three = and_parts c (d && e) two.1 in
    let four = and_parts d e three.1 in
    (one.0, two.0, three.0, four.0, four.1)

abbrev run-of : ℕ → ℕ → ℕ → ℕ → ℕ → SlotRun
run-of area first count offset len = record { area = area; first = first; count = count; offset = offset; len = len }

pub same-run : (a b : SlotRun) → same_run a b ≡ true → a ≡ b
same-run a b is =
    let each = and-five (a.area == b.area) (a.first == b.first) (a.count == b.count) (a.offset == b.offset) (a.len == b.len) is in
    let area : a.area ≡ b.area = eqb-true a.area b.area each.0 in
    let first : a.first ≡ b.first = eqb-true a.first b.first each.1 in
    let count : a.count ≡ b.count = eqb-true a.count b.count each.2 in
    let offset : a.offset ≡ b.offset = eqb-true a.offset b.offset each.3 in
    let len : a.len ≡ b.len = eqb-true a.len b.len each.4 in
    ap (λ n. run-of n a.first a.count a.offset a.len) area
    ∙ ap (λ n. run-of b.area n a.count a.offset a.len) first
    ∙ ap (λ n. run-of b.area b.first n a.offset a.len) count
    ∙ ap (λ n. run-of b.area b.first b.count n a.len) offset
    ∙ ap (λ n. run-of b.area b.first b.count b.offset n) len

pub same-run-refl : (a : SlotRun) → same_run a a ≡ true
same-run-refl a =
    and_from (a.area == a.area) _ (eq-eqb a.area a.area refl)
    (and_from (a.first == a.first) _ (eq-eqb a.first a.first refl)
    (and_from (a.count == a.count) _ (eq-eqb a.count a.count refl)
    (and_from (a.offset == a.offset) (a.len == a.len) (eq-eqb a.offset a.offset refl) (eq-eqb a.len a.len refl))))

-- what holds of all live runs holds of each
pub live-holds : (P : SlotRun → Type 0) (live : List SlotRun) (run : SlotRun) → All P live → is_live run live ≡ true → P run
live-holds P [] run all is = cc
live-holds P (x ∷ live) run all is =
    elim (cases_Bool (same_run x run)) [
      | inl t ↦ subst P (same-run x run t) (All-head P x live all)
      | inr f ↦ live-holds P live run (All-tail P x live all) (rw f at is)
    ]

pub live-first : (run : SlotRun) (live : List SlotRun) → is_live run (run ∷ live) ≡ true
live-first run live = or_left (same_run run run) (is_live run live) (same-run-refl run)

pub live-more : (run more : SlotRun) (live : List SlotRun) → is_live run live ≡ true → is_live run (more ∷ live) ≡ true
live-more run more live is = or_right (same_run more run) (is_live run live) is

-- a run that is live after another was found is that one, or was live
pub live-either : (run more : SlotRun) (live : List SlotRun) → is_live run (more ∷ live) ≡ true → (more ≡ run) ⊎ (is_live run live ≡ true)
live-either run more live is =
    elim (or_cases (same_run more run) (is_live run live) is) [
      | inl same ↦ inl (same-run more run same)
      | inr was ↦ inr was
    ]

-- the runs that are left when one is released
abbrev pub without : SlotRun → List SlotRun → List SlotRun
without run live = filter (λ (r : SlotRun). not (same_run r run)) live

-- a run that is left was live, and isn't the one
pub live-left : (run gone : SlotRun) (live : List SlotRun) → is_live run (without gone live) ≡ true → (is_live run live ≡ true) × (same_run run gone ≡ false)
live-left run gone [] is = cc
live-left run gone (x ∷ live) is =
    elim (cases_Bool (same_run x gone)) [
      | inl t ↦
          (let rest = live-left run gone live (rw t at is) in
          (live-more run x live rest.0, rest.1))
      | inr f ↦
          (let here : is_live run (x ∷ without gone live) ≡ true = rw f at is in
          elim (cases_Bool (same_run x run)) [
            | inl same ↦ (or_left (same_run x run) (is_live run live) same, ap (λ r. same_run r gone) (sym (same-run x run same)) ∙ f)
            | inr other ↦
                (let rest = live-left run gone live (rw other at here) in
                (live-more run x live rest.0, rest.1))
          ])
    ]

-- and any other live run is left
pub live-kept : (run gone : SlotRun) (live : List SlotRun) → is_live run live ≡ true → same_run run gone ≡ false → is_live run (without gone live) ≡ true
live-kept run gone [] is other = cc
live-kept run gone (x ∷ live) is other =
    elim (cases_Bool (same_run x run)) [
      | inl same ↦
          (let out : same_run x gone ≡ false = ap (λ r. same_run r gone) (same-run x run same) ∙ other in
          rw out (or_left (same_run x run) (is_live run (without gone live)) same))
      | inr f ↦
          (let rest = live-kept run gone live (rw f at is) other in
          elim (cases_Bool (same_run x gone)) [
            | inl t ↦ rw t rest
            | inr o ↦ rw o (live-more run x (without gone live) rest)
          ])
    ]

-- ---- one more entry

pub live-runs-push : (entries : List Entry) (entry : Entry) → live_runs (entries ++ entry ∷ []) ≡ live_after (live_runs entries) entry.event
unfolding live_runs
live-runs-push entries entry = fold-append (λ live (e : Entry). live_after live e.event) [] entries (entry ∷ [])

pub live-in-push : (moved : List Moved) (m : Moved) → live_in (moved ++ m ∷ []) ≡ live_after (live_in moved) m.entry.event
live-in-push moved m = ap live_runs (entries_of-push moved m) ∙ live-runs-push (entries_of moved) m.entry

filter-one : {A : Type 0} (test : A → Bool) (xs : List A) (x : A) (b : Bool) → test x ≡ b → filter test (xs ++ x ∷ []) ≡ filter test xs ++ cond b (x ∷ []) []
filter-one test xs x b is = filter-append test xs (x ∷ []) ∙ ap (λ (c : Bool). filter test xs ++ cond c (x ∷ []) []) is

pub made-by-push : (cpu : ℕ) (moved : List Moved) (m : Moved) → (m.entry.cpu.0 == cpu) ≡ true → made_by cpu (moved ++ m ∷ []) ≡ made_by cpu moved ++ m ∷ []
made-by-push cpu moved m is = filter-one (λ (n : Moved). n.entry.cpu.0 == cpu) moved m true is

pub made-by-other : (cpu : ℕ) (moved : List Moved) (m : Moved) → (m.entry.cpu.0 == cpu) ≡ false → made_by cpu (moved ++ m ∷ []) ≡ made_by cpu moved
made-by-other cpu moved m is = filter-one (λ (n : Moved). n.entry.cpu.0 == cpu) moved m false is ∙ append-nil (made_by cpu moved)

-- the live runs of the entry's own processor, and of another
pub live-of-push : (cpu : ℕ) (moved : List Moved) (m : Moved) → (m.entry.cpu.0 == cpu) ≡ true → live_of cpu (moved ++ m ∷ []) ≡ live_after (live_of cpu moved) m.entry.event
live-of-push cpu moved m is = ap live_in (made-by-push cpu moved m is) ∙ live-in-push (made_by cpu moved) m

pub live-of-other : (cpu : ℕ) (moved : List Moved) (m : Moved) → (m.entry.cpu.0 == cpu) ≡ false → live_of cpu (moved ++ m ∷ []) ≡ live_of cpu moved
live-of-other cpu moved m is = ap live_in (made-by-other cpu moved m is)

-- of whatever processor
pub live-of-any : (cpu : ℕ) (moved : List Moved) (m : Moved) → live_of cpu (moved ++ m ∷ []) ≡ cond (m.entry.cpu.0 == cpu) (live_after (live_of cpu moved) m.entry.event) (live_of cpu moved)
live-of-any cpu moved m =
    elim (cases_Bool (m.entry.cpu.0 == cpu)) [
      | inl t ↦ rw t (live-of-push cpu moved m t)
      | inr f ↦ rw f (live-of-other cpu moved m f)
    ]

-- ---- the slots of live runs

pub used-some : (live : List SlotRun) (run : SlotRun) (slot : ℕ) → is_live run live ≡ true → in_range run.first run.count slot ≡ true → is_used live slot ≡ true
used-some [] run slot is within = cc
used-some (x ∷ live) run slot is within =
    elim (live-either run x live is) [
      | inl same ↦ or_left (in_range x.first x.count slot) (is_used live slot) (ap (λ (r : SlotRun). in_range r.first r.count slot) same ∙ within)
      | inr was ↦ or_right (in_range x.first x.count slot) (is_used live slot) (used-some live run slot was within)
    ]

-- one run ends before another begins
abbrev pub ClearOf : SlotRun → SlotRun → Type 0
ClearOf a b = (a.first + a.count ≤ b.first) ⊎ (b.first + b.count ≤ a.first)

-- two runs with slots that have none in common are clear of each other
pub clear-of : (a b : SlotRun) → 0 < a.count → 0 < b.count → ((slot : ℕ) → in_range a.first a.count slot ≡ true → in_range b.first b.count slot ≡ false) → ClearOf a b
clear-of a b some more free =
    elim (cases_lt b.first (a.first + a.count)) [
      | inr low ↦ inl low
      | inl meets ↦
          elim (cases_lt a.first (b.first + b.count)) [
            | inr high ↦ inr high
            | inl both ↦
                elim (cases_lt a.first b.first) [
                  | inl below ↦
                      absurd (both_ways (in_range b.first b.count b.first) (free b.first (in_range-intro a.first a.count b.first (omega arith) meets)) (in_range-intro b.first b.count b.first (omega arith) (omega arith)))
                  | inr above ↦
                      absurd (both_ways (in_range b.first b.count a.first) (free a.first (in_range-intro a.first a.count a.first (omega arith) (omega arith))) (in_range-intro b.first b.count a.first above both))
                ]
          ]
    ]

-- a slot of a run is none of one that is clear of it
pub clear-slot : (a b : SlotRun) (slot : ℕ) → ClearOf a b → in_range a.first a.count slot ≡ true → in_range b.first b.count slot ≡ false
clear-slot a b slot clear is =
    let ends = in_range-elim a.first a.count slot is in
    elim clear [
      | inl low ↦ in_range-below b.first b.count slot (omega (arith, ends.1))
      | inr high ↦ in_range-past b.first b.count slot (omega (arith, ends.0))
    ]

pub clear-swap : (a b : SlotRun) → ClearOf a b → ClearOf b a
clear-swap a b clear = elim clear [ inl low ↦ inr low | inr high ↦ inl high ]

-- runs of one area that are apart are clear of each other
pub apart-clear : (a b : SlotRun) → a.area ≡ b.area → ApartRuns a b → ClearOf a b
apart-clear a b same apart =
    elim apart [
      | inl other ↦ absurd (other same)
      | inr clear ↦ clear
    ]

-- what isn't used by runs isn't used by some of them
pub unused-filter : (test : SlotRun → Bool) (live : List SlotRun) (slot : ℕ) → is_used live slot ≡ false → is_used (filter test live) slot ≡ false
unused-filter test [] slot is = is
unused-filter test (x ∷ live) slot is =
    let parts = or_parts (in_range x.first x.count slot) (is_used live slot) is in
    let rest = unused-filter test live slot parts.1 in
    elim (cases_Bool (test x)) [
      | inl t ↦ rw t (or_from (in_range x.first x.count slot) (is_used (filter test live) slot) parts.0 rest)
      | inr f ↦ rw f rest
    ]

-- a run whose slots no live run of its area uses is apart from each live run
pub apart-from-live : (run : SlotRun) (live : List SlotRun) → 0 < run.count → All (λ (r : SlotRun). 0 < r.count) live
    → ((slot : ℕ) → in_range run.first run.count slot ≡ true → is_used (filter (λ (r : SlotRun). r.area == run.area) live) slot ≡ false)
    → All (ApartRuns run) live
apart-from-live run [] some all free = All-nil (ApartRuns run)
apart-from-live run (x ∷ live) some all free =
    elim (cases_Bool (x.area == run.area)) [
      | inl t ↦
          (let both : (slot : ℕ) → in_range run.first run.count slot ≡ true → (in_range x.first x.count slot ≡ false) × (is_used (filter (λ (r : SlotRun). r.area == run.area) live) slot ≡ false) =
          λ slot is. or_parts (in_range x.first x.count slot) (is_used (filter (λ (r : SlotRun). r.area == run.area) live) slot) (rw t at (free slot is)) in
          All-cons (ApartRuns run) x live
          (inr (clear-of run x some (All-head (λ (r : SlotRun). 0 < r.count) x live all) (λ slot is. (both slot is).0)))
          (apart-from-live run live some (All-tail (λ (r : SlotRun). 0 < r.count) x live all) (λ slot is. (both slot is).1)))
      | inr f ↦
          All-cons (ApartRuns run) x live
          (inl (λ same. both_ways (x.area == run.area) f (eq-eqb x.area run.area (sym same))))
          (apart-from-live run live some (All-tail (λ (r : SlotRun). 0 < r.count) x live all) (λ slot is. rw f at (free slot is)))
    ]

-- ---- searches

-- what a run that fits has
pub record FitsFree (used : ℕ → Bool) (slots need : ℕ) (align : Align) (first : ℕ) : Type 0 where
  pub inside : first + need ≤ slots
  pub segment : InOneSegment first need
  pub free : (slot : ℕ) → in_range first need slot ≡ true → used slot ≡ false

pub fits-free : (used : ℕ → Bool) (slots need : ℕ) (align : Align) (first : ℕ) → fits_at used slots need align first ≡ true → FitsFree used slots need align first
fits-free used slots need align first is =
    let one = and_parts (nat_le (first + need) slots) (nat_le (first % SEGMENT_SLOTS + need) SEGMENT_SLOTS && (meets_align align first && each_such (λ k. not (used k)) first need)) is in
    let two = and_parts (nat_le (first % SEGMENT_SLOTS + need) SEGMENT_SLOTS) (meets_align align first && each_such (λ k. not (used k)) first need) one.1 in
    let three = and_parts (meets_align align first) (each_such (λ k. not (used k)) first need) two.1 in
    let each = each_such-true (λ k. not (used k)) first need three.1 in
    record {
      inside = leb-true (first + need) slots one.0;
      segment = leb-true (first % SEGMENT_SLOTS + need) SEGMENT_SLOTS two.0;
      free =
          λ slot within.
          let ends = in_range-elim first need slot within in
          not-true (used slot) (each.passes slot ends.0 ends.1);
    }

or-some : {A : Type 0} (a b : Option A) (x : A) → option_or a b ≡ Some x → (a ≡ Some x) ⊎ (b ≡ Some x)
or-some None b x is = inr is
or-some (Some y) b x is = inl is

or-none : {A : Type 0} (a b : Option A) → option_or a b ≡ None → (a ≡ None) × (b ≡ None)
or-none None b is = (refl, is)
or-none (Some y) b is = cc

-- the first start that fits does fit
pub choose-fits : (used : ℕ → Bool) (slots hint need : ℕ) (align : Align) (first : ℕ) → choose used slots hint need align ≡ Some first → fits_at used slots need align first ≡ true
choose-fits used slots hint need align first is =
    elim (or-some (first_such (fits_at used slots need align) hint (slots - hint)) (first_such (fits_at used slots need align) 0 hint) first is) [
      | inl high ↦ (first_such-Some (fits_at used slots need align) hint (slots - hint) first high).passes
      | inr low ↦ (first_such-Some (fits_at used slots need align) 0 hint first low).passes
    ]

-- where there is none, no start fits
pub choose-none : (used : ℕ → Bool) (slots hint need : ℕ) (align : Align) → 0 < need → choose used slots hint need align ≡ None → (first : ℕ) → fits_at used slots need align first ≡ false
choose-none used slots hint need align some is first =
    let both = or-none (first_such (fits_at used slots need align) hint (slots - hint)) (first_such (fits_at used slots need align) 0 hint) is in
    let high = first_such-None (fits_at used slots need align) hint (slots - hint) both.0 in
    let low = first_such-None (fits_at used slots need align) 0 hint both.1 in
    elim (cases_lt first hint) [
      | inl below ↦ low.fails first (omega arith) (omega arith)
      | inr from ↦
          elim (cases_lt first slots) [
            | inl within ↦ high.fails first from (omega arith)
            | inr past ↦ (let out : nat_le (first + need) slots ≡ false = lt-leb (first + need) slots (omega arith) in rw out refl)
          ]
    ]

each-same : (test other : ℕ → Bool) (from count : ℕ) → ((n : ℕ) → from ≤ n → n < from + count → test n ≡ other n) → each_such test from count ≡ each_such other from count
each-same test other from zero same = each_such-zero test from ∙ sym (each_such-zero other from)
each-same test other from (suc count) same =
    let here : test from ≡ other from = same from (omega arith) (omega arith) in
    elim (cases_Bool (test from)) [
      | inl t ↦
          each_such-pass test from count t
          ∙ each-same test other (from + 1) count (λ n low high. same n (omega arith) (omega arith))
          ∙ sym (each_such-pass other from count (sym here ∙ t))
      | inr f ↦ each_such-fail test from count f ∙ sym (each_such-fail other from count (sym here ∙ f))
    ]

-- a start fits alike by two tests that agree below the count of slots
pub fits-same : (used other : ℕ → Bool) (slots need : ℕ) (align : Align) (first : ℕ) → ((slot : ℕ) → slot < slots → used slot ≡ other slot) → fits_at used slots need align first ≡ fits_at other slots need align first
fits-same used other slots need align first same =
    elim (cases_lt slots (first + need)) [
      | inl past ↦ (let out : nat_le (first + need) slots ≡ false = lt-leb (first + need) slots past in rw out refl)
      | inr within ↦
          ap (λ (b : Bool). nat_le (first + need) slots && (nat_le (first % SEGMENT_SLOTS + need) SEGMENT_SLOTS && (meets_align align first && b)))
          (each-same (λ k. not (used k)) (λ k. not (other k)) first need (λ n low high. ap not (same n (omega arith))))
    ]

pub choose-same : (used other : ℕ → Bool) (slots hint need : ℕ) (align : Align) → ((slot : ℕ) → slot < slots → used slot ≡ other slot) → choose used slots hint need align ≡ choose other slots hint need align
choose-same used other slots hint need align same =
    let fit : (n : ℕ) → fits_at used slots need align n ≡ fits_at other slots need align n = λ n. fits-same used other slots need align n same in
    ap (λ o. option_or o (first_such (fits_at used slots need align) 0 hint))
    (first_such_same (fits_at used slots need align) (fits_at other slots need align) hint (slots - hint) (record { same = λ n low high. fit n }))
    ∙ ap (λ o. option_or (first_such (fits_at other slots need align) hint (slots - hint)) o)
    (first_such_same (fits_at used slots need align) (fits_at other slots need align) 0 hint (record { same = λ n low high. fit n }))

-- ---- what a look finds

map-some : {A B : Type 0} (f : A → B) (o : Option A) (b : B) → option_map f o ≡ Some b → (a : A) × (o ≡ Some a) × (f a ≡ b)
map-some f None b is = cc
map-some f (Some a) b is = (let same : f a ≡ b = cc in (a, refl, same))

map-none : {A B : Type 0} (f : A → B) (o : Option A) → option_map f o ≡ None → o ≡ None
map-none f None is = refl
map-none f (Some a) is = cc

-- A run that a look in an area finds: it is the request's, and fits where no slot is used.
pub record IsFound (boot : Boot) (entries : List Entry) (number : ℕ) (request : Request) (run : SlotRun) : Type 0 where
  pub area : run.area ≡ number
  pub count : run.count ≡ request.need
  pub offset : run.offset ≡ request.offset
  pub len : run.len ≡ request.len
  pub fits : FitsFree (is_used (live_runs entries)) (area_slots boot) run.count request.align run.first

pub found-free : (boot : Boot) (entries : List Entry) (number : ℕ) (request : Request) (run : SlotRun) → run_found boot entries number request ≡ Some run → IsFound boot entries number request run
unfolding run_found
found-free boot entries number request run is =
    let found = map-some (run_for number request) (choose (is_used (live_runs entries)) (area_slots boot) (hint_of boot entries) request.need request.align) run is in
    let fits = fits-free (is_used (live_runs entries)) (area_slots boot) request.need request.align found.0 (choose-fits (is_used (live_runs entries)) (area_slots boot) (hint_of boot entries) request.need request.align found.0 found.1) in
    subst (IsFound boot entries number request) found.2 (record { area = refl; count = refl; offset = refl; len = refl; fits = fits })

pub nothing-fits : (boot : Boot) (entries : List Entry) (number : ℕ) (request : Request) → 0 < request.need → run_found boot entries number request ≡ None → NothingFits boot entries request
unfolding run_found
nothing-fits boot entries number request some is first =
    choose-none (is_used (live_runs entries)) (area_slots boot) (hint_of boot entries) request.need request.align some
    (map-none (run_for number request) (choose (is_used (live_runs entries)) (area_slots boot) (hint_of boot entries) request.need request.align) is) first

-- the search may be made by any test that tells the used slots, and from the same hint
pub run-found-by : (boot : Boot) (entries : List Entry) (number : ℕ) (request : Request) (used : ℕ → Bool) → ((slot : ℕ) → slot < area_slots boot → used slot ≡ is_used (live_runs entries) slot)
    → run_found boot entries number request ≡ option_map (run_for number request) (choose used (area_slots boot) (hint_of boot entries) request.need request.align)
unfolding run_found
run-found-by boot entries number request used same =
    ap (option_map (run_for number request)) (sym (choose-same used (is_used (live_runs entries)) (area_slots boot) (hint_of boot entries) request.need request.align same))

-- ---- the mappings of an area stand

pub stand-first : (number slots : ℕ) → MappingsStand number slots []
unfolding live_runs
stand-first number slots = record {
  each = All-nil (IsInArea number slots);
  apart = pairs-nil ApartRuns;
  among = λ cpu run is. is;
  once = λ cpu other run differ is also. cc;
}

-- an event that leaves the live mappings
pub stand-still : (number slots : ℕ) (moved : List Moved) (m : Moved) → ((live : List SlotRun) → live_after live m.entry.event ≡ live) → MappingsStand number slots moved → MappingsStand number slots (moved ++ m ∷ [])
stand-still number slots moved m still stands =
    let all : live_in (moved ++ m ∷ []) ≡ live_in moved = live-in-push moved m ∙ still (live_in moved) in
    let own : (cpu : ℕ) → live_of cpu (moved ++ m ∷ []) ≡ live_of cpu moved =
    λ cpu.
    elim (cases_Bool (m.entry.cpu.0 == cpu)) [
      | inl t ↦ live-of-push cpu moved m t ∙ still (live_of cpu moved)
      | inr f ↦ live-of-other cpu moved m f
    ]
    in
    record {
      each = subst (All (IsInArea number slots)) (sym all) stands.each;
      apart = subst (AllPairs ApartRuns) (sym all) stands.apart;
      among = λ cpu run is. ap (is_live run) all ∙ stands.among cpu run (sym (ap (is_live run) (own cpu)) ∙ is);
      once = λ cpu other run differ is also. stands.once cpu other run differ (sym (ap (is_live run) (own cpu)) ∙ is) (sym (ap (is_live run) (own other)) ∙ also);
    }

-- a live mapping of a processor is one of the area, and its slots are used
pub mine-in-area : (number slots cpu : ℕ) (moved : List Moved) (run : SlotRun) → MappingsStand number slots moved → is_live run (live_of cpu moved) ≡ true → IsInArea number slots run
mine-in-area number slots cpu moved run stands mine = live-holds (IsInArea number slots) (live_in moved) run stands.each (stands.among cpu run mine)

pub mine-used : (number slots cpu : ℕ) (moved : List Moved) (run : SlotRun) (slot : ℕ) → MappingsStand number slots moved → is_live run (live_of cpu moved) ≡ true → in_range run.first run.count slot ≡ true → is_used (live_in moved) slot ≡ true
mine-used number slots cpu moved run slot stands mine within = used-some (live_in moved) run slot (stands.among cpu run mine) within

-- the slots that are used after a run was found
pub used-found : (moved : List Moved) (m : Moved) (number : ℕ) (run : SlotRun) (slot : ℕ) → m.entry.event ≡ Looked number (Some run) → is_used (live_in (moved ++ m ∷ [])) slot ≡ (in_range run.first run.count slot || is_used (live_in moved) slot)
used-found moved m number run slot is = ap (λ live. is_used live slot) (live-in-push moved m ∙ ap (live_after (live_in moved)) is)

unused-here : (live : List SlotRun) (run : SlotRun) (slot : ℕ) → is_live run live ≡ true → in_range run.first run.count slot ≡ true → is_used live slot ≡ false → ⊥
unused-here live run slot is within unused = both_ways (is_used live slot) unused (used-some live run slot is within)

-- a run that was found is no live one
found-new : (number slots : ℕ) (live : List SlotRun) (run : SlotRun) → All (IsInArea number slots) live → 0 < run.count
    → ((slot : ℕ) → in_range run.first run.count slot ≡ true → is_used live slot ≡ false) → is_live run live ≡ true → ⊥
found-new number slots live run all some free is =
    let here = in_range-intro run.first run.count run.first (omega arith) (omega arith) in
    unused-here live run run.first is here (free run.first here)

areas-some : (number slots : ℕ) (live : List SlotRun) → All (IsInArea number slots) live → All (λ (r : SlotRun). 0 < r.count) live
areas-some number slots live all k d low = (all k d low).some

-- what stands after a run was found that lies in the area and whose slots were free
pub stand-with : (number slots : ℕ) (moved : List Moved) (m : Moved) (run : SlotRun) → m.entry.event ≡ Looked number (Some run) → IsInArea number slots run
    → ((slot : ℕ) → in_range run.first run.count slot ≡ true → is_used (live_in moved) slot ≡ false) → MappingsStand number slots moved → MappingsStand number slots (moved ++ m ∷ [])
stand-with number slots moved m run is inside free stands =
    let all : live_in (moved ++ m ∷ []) ≡ run ∷ live_in moved = live-in-push moved m ∙ ap (live_after (live_in moved)) is in
    let new : is_live run (live_in moved) ≡ true → ⊥ = found-new number slots (live_in moved) run stands.each inside.some free in
    let own : (cpu : ℕ) (r : SlotRun) → is_live r (live_of cpu (moved ++ m ∷ [])) ≡ true → ((m.entry.cpu.0 ≡ cpu) × (run ≡ r)) ⊎ (is_live r (live_of cpu moved) ≡ true) =
    λ cpu r lives.
    elim (cases_Bool (m.entry.cpu.0 == cpu)) [
      | inl t ↦
          (let grown : live_of cpu (moved ++ m ∷ []) ≡ run ∷ live_of cpu moved = live-of-push cpu moved m t ∙ ap (live_after (live_of cpu moved)) is in
          elim (live-either r run (live_of cpu moved) (sym (ap (is_live r) grown) ∙ lives)) [
            | inl same ↦ inl (eqb-true m.entry.cpu.0 cpu t, same)
            | inr was ↦ inr was
          ])
      | inr f ↦ inr (sym (ap (is_live r) (live-of-other cpu moved m f)) ∙ lives)
    ]
    in
    record {
      each = subst (All (IsInArea number slots)) (sym all) (All-cons (IsInArea number slots) run (live_in moved) inside stands.each);
      apart =
          subst (AllPairs ApartRuns) (sym all)
          (AllPairs-cons ApartRuns run (live_in moved)
          (apart-from-live run (live_in moved) inside.some (areas-some number slots (live_in moved) stands.each) (λ slot within. unused-filter (λ (r : SlotRun). r.area == run.area) (live_in moved) slot (free slot within)))
          stands.apart);
      among =
          λ cpu r lives.
          ap (is_live r) all
          ∙ elim (own cpu r lives) [
            | inl mine ↦ ap (λ x. is_live r (x ∷ live_in moved)) mine.1 ∙ live-first r (live_in moved)
            | inr was ↦ live-more r run (live_in moved) (stands.among cpu r was)
          ];
      once =
          λ cpu other r differ lives also.
          elim (own cpu r lives) [
            | inl mine ↦
                elim (own other r also) [
                  | inl theirs ↦ differ (sym mine.0 ∙ theirs.0)
                  | inr was ↦ new (ap (λ x. is_live x (live_in moved)) mine.1 ∙ stands.among other r was)
                ]
            | inr was ↦
                elim (own other r also) [
                  | inl theirs ↦ new (ap (λ x. is_live x (live_in moved)) theirs.1 ∙ stands.among cpu r was)
                  | inr both ↦ stands.once cpu other r differ was both
                ]
          ];
    }

-- a run that is found lies in the area, where the request has a slot and its slots hold its bytes
pub found-in-area : (boot : Boot) (entries : List Entry) (number slots : ℕ) (request : Request) (run : SlotRun) → area_slots boot ≡ slots → 0 < request.need
    → request.offset + request.len ≤ SLOT_BYTES * request.need → run_found boot entries number request ≡ Some run → IsInArea number slots run
found-in-area boot entries number slots request run size some bytes is =
    let found = found-free boot entries number request run is in
    record {
      area = found.area;
      some = omega (arith, found.count);
      inside = omega (arith, found.fits.inside, size);
      segment = found.fits.segment;
      bytes = omega (arith, found.offset, found.len, found.count, bytes);
    }

pub stand-found : (boot : Boot) (number slots : ℕ) (moved : List Moved) (m : Moved) (request : Request) (run : SlotRun) → area_slots boot ≡ slots → 0 < request.need
    → request.offset + request.len ≤ SLOT_BYTES * request.need → m.entry.event ≡ Looked number (Some run) → run_found boot (entries_of moved) number request ≡ Some run
    → MappingsStand number slots moved → MappingsStand number slots (moved ++ m ∷ [])
stand-found boot number slots moved m request run size some bytes event is stands =
    stand-with number slots moved m run event (found-in-area boot (entries_of moved) number slots request run size some bytes is)
    (found-free boot (entries_of moved) number request run is).fits.free stands

-- a processor releases a live mapping of its own
pub stand-released : (number slots : ℕ) (moved : List Moved) (m : Moved) (run : SlotRun) (copied : Bool) → m.entry.event ≡ Released run copied → is_live run (live_of m.entry.cpu.0 moved) ≡ true
    → MappingsStand number slots moved → MappingsStand number slots (moved ++ m ∷ [])
stand-released number slots moved m run copied is mine stands =
    let all : live_in (moved ++ m ∷ []) ≡ without run (live_in moved) = live-in-push moved m ∙ ap (live_after (live_in moved)) is in
    let left : (r : SlotRun) → is_live r (live_in moved) ≡ true → same_run r run ≡ false → is_live r (live_in (moved ++ m ∷ [])) ≡ true = λ r was other. ap (is_live r) all ∙ live-kept r run (live_in moved) was other in
    let own : (cpu : ℕ) (r : SlotRun) → is_live r (live_of cpu (moved ++ m ∷ [])) ≡ true → (is_live r (live_of cpu moved) ≡ true) × (same_run r run ≡ false) =
    λ cpu r lives.
    elim (cases_Bool (m.entry.cpu.0 == cpu)) [
      | inl t ↦
          (let cut : live_of cpu (moved ++ m ∷ []) ≡ without run (live_of cpu moved) = live-of-push cpu moved m t ∙ ap (live_after (live_of cpu moved)) is in
          live-left r run (live_of cpu moved) (sym (ap (is_live r) cut) ∙ lives))
      | inr f ↦
          (let was : is_live r (live_of cpu moved) ≡ true = sym (ap (is_live r) (live-of-other cpu moved m f)) ∙ lives in (
            was,
            false_from_ne_true (same_run r run)
                (λ same.
                stands.once m.entry.cpu.0 cpu run (λ at. both_ways (m.entry.cpu.0 == cpu) f (eq-eqb m.entry.cpu.0 cpu at)) mine (ap (λ x. is_live x (live_of cpu moved)) (sym (same-run r run same)) ∙ was)),
          ))
    ]
    in
    record {
      each = subst (All (IsInArea number slots)) (sym all) (All-filter (λ (r : SlotRun). not (same_run r run)) (IsInArea number slots) (live_in moved) stands.each);
      apart = subst (AllPairs ApartRuns) (sym all) (AllPairs-filter ApartRuns (λ (r : SlotRun). not (same_run r run)) (live_in moved) stands.apart);
      among = λ cpu r lives. let was = own cpu r lives in left r (stands.among cpu r was.0) was.1;
      once = λ cpu other r differ lives also. stands.once cpu other r differ (own cpu r lives).0 (own other r also).0;
    }

-- ---- the slots that are used after a release

abbrev IsOrClear : SlotRun → SlotRun → Type 0
IsOrClear run r = (r ≡ run) ⊎ ClearOf r run

all-clear : (number slots : ℕ) (run : SlotRun) (live : List SlotRun) → All (IsInArea number slots) live → AllPairs ApartRuns live → is_live run live ≡ true → All (IsOrClear run) live
all-clear number slots run [] each apart is = cc
all-clear number slots run (x ∷ live) each apart is =
    let here : All (ApartRuns x) live = pairs-head ApartRuns x live apart in
    let rest : All (IsInArea number slots) live = All-tail (IsInArea number slots) x live each in
    let at : IsInArea number slots x = All-head (IsInArea number slots) x live each in
    elim (live-either run x live is) [
      | inl same ↦
          All-cons (IsOrClear run) x live (inl same)
          (λ k d low.
          let y = slice_index_or live k d in
          inr (clear-swap run y (apart-clear run y (sym (ap (λ (r : SlotRun). r.area) same) ∙ at.area ∙ sym (rest k d low).area) (subst (λ r. ApartRuns r y) same (here k d low)))))
      | inr was ↦
          All-cons (IsOrClear run) x live
          (inr (apart-clear x run (at.area ∙ sym (live-holds (IsInArea number slots) live run rest was).area) (live-holds (ApartRuns x) live run here was)))
          (all-clear number slots run live rest (pairs-tail ApartRuns x live apart) was)
    ]

used-without : (run : SlotRun) (live : List SlotRun) (slot : ℕ) → All (IsOrClear run) live → is_used (without run live) slot ≡ (not (in_range run.first run.count slot) && is_used live slot)
used-without run [] slot all = none (not (in_range run.first run.count slot)) where
  none : (b : Bool) → false ≡ (b && false)
  none true = refl
  none false = refl
used-without run (x ∷ live) slot all =
    let rest = used-without run live slot (All-tail (IsOrClear run) x live all) in
    elim (cases_Bool (same_run x run)) [
      | inl t ↦
          (let at : in_range x.first x.count slot ≡ in_range run.first run.count slot = ap (λ (r : SlotRun). in_range r.first r.count slot) (same-run x run t) in
          rw (t, at) (rest ∙ hidden (in_range run.first run.count slot) (is_used live slot)))
      | inr f ↦
          elim (All-head (IsOrClear run) x live all) [
            | inl same ↦ absurd (both_ways (same_run x run) f (ap (λ r. same_run r run) same ∙ same-run-refl run))
            | inr clear ↦
                rw f
                (ap (λ b. in_range x.first x.count slot || b) rest
                ∙ beside (in_range x.first x.count slot) (in_range run.first run.count slot) (is_used live slot) (clear-slot x run slot clear))
          ]
    ]
  where
    hidden : (a b : Bool) → (not a && b) ≡ (not a && (a || b))
    hidden true b = refl
    hidden false b = refl

    beside : (x a b : Bool) → (x ≡ true → a ≡ false) → (x || (not a && b)) ≡ (not a && (x || b))
    beside true a b out = rw (out refl) refl
    beside false a b out = refl

pub used-released : (number slots : ℕ) (moved : List Moved) (m : Moved) (run : SlotRun) (copied : Bool) (slot : ℕ) → MappingsStand number slots moved → m.entry.event ≡ Released run copied
    → is_live run (live_of m.entry.cpu.0 moved) ≡ true → is_used (live_in (moved ++ m ∷ [])) slot ≡ (not (in_range run.first run.count slot) && is_used (live_in moved) slot)
used-released number slots moved m run copied slot stands is mine =
    ap (λ live. is_used live slot) (live-in-push moved m ∙ ap (live_after (live_in moved)) is)
    ∙ used-without run (live_in moved) slot (all-clear number slots run (live_in moved) stands.each stands.apart (stands.among m.entry.cpu.0 run mine))
