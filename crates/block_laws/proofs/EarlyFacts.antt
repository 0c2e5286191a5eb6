-- Each page that is pending when boot is over lies in a unit whose bit was set at first.
use Rattle.std.proofs.Common.{◌≡◌, ℕ, ◌+◌, ◌-◌, ◌*◌, ◌/◌, ◌%◌, ◌<◌, ◌≤◌, min, max, Bool, true, false, ◌&&◌, None, Some, List, [], ◌∷◌, ◌++◌, map, refl, sym, ◌∙◌, ap, subst, inl, inr, arith, cond, filter, append_assoc, nat_lt, nat_le}
use Rattle.std.specs.Prelude.{◌⊎◌, ◌||◌, All, fold}
use Rattle.std.specs.List.{AllByRecursion, list_any}
use Rattle.std.proofs.lemmas.Bool.{cases_Bool, cases_lt, and_parts}
use Rattle.std.proofs.lemmas.Bool.Decides.{nat_tests}
use Rattle.std.proofs.lemmas.List.Elements.{All-tail}
use Rattle.std.proofs.lemmas.List.Folds.{list_any-append}
use Rattle.std.proofs.lemmas.List.Sorted.{list_any-IsPermutation}
use Rattle.std.proofs.Math.Nat.{div-mul-le_self}
use Rattle.guest_base.specs.Ranges.{in_range}
use Rattle.guest_base.proofs.RangeLemmas.{in_range-intro, in_range-elim}
use Rattle.guest_base.specs.declared.memory.Pages.{Pages}
use Rattle.guest_base.specs.declared.memory.PageState.TheVariants.{Pending, Accepted}
use Rattle.event_core.specs.declared.boot.Boot.{Boot}
use Rattle.event_core.specs.declared.boot.Descriptor.{Descriptor}
use Rattle.event_core.specs.declared.module_call.ModuleCall.{ModuleCall}
use Rattle.event_core.specs.Boot.{InTurn, StagePart, Stage, Early, AcceptsPiece, pending_piece}
use Rattle.event_core.specs.Calls.{States}
use Rattle.event_core.specs.Map.{IsDescriptor, holds_page, descriptor_end}
use Rattle.event_core.specs.MemoryRows.{page_state, is_pending}
use Rattle.event_core.specs.Runs.{state_in}
use Rattle.event_core.specs.Stub.{default_unit, round_down, round_up, is_short, holds_unit, piece, unaccepted, least_start, greatest_end, stub_base, EarlyPieces}
use Rattle.event_core.proofs.BootFacts.{TakesNone}
use Rattle.event_core.proofs.EarlyLemmas.{or-cases, or-left, or-right, in_pages, early_in, marks, any-flat, unaccepted-each}
use Rattle.event_core.proofs.SoundLemmas.{state_after-append}
use Rattle.block_laws.proofs.ListFacts.{all-back}
use Rattle.block_laws.proofs.PageFacts.{not-pending-later}
use Rattle.block_laws.proofs.SizeFacts.{steps-none-left, steps-take-none}

-- ---- the early pieces are accepted

piece-accepted : (boot : Boot) (before : List ModuleCall) (pages : Pages) (calls : List ModuleCall) → AcceptsPiece boot before pages calls None → (page : ℕ) → in_pages page pages ≡ true → is_pending (page_state boot (before ++ calls) page) ≡ false
piece-accepted boot before pages calls part page inside =
    let within = in_range-elim pages.first pages.count page inside in
    ap (λ (states : States). is_pending (states page)) (state_after-append (state_in boot.ram) before calls)
    ∙ elim (cases_Bool (is_pending (page_state boot before page))) [
      | inl t ↦ steps-none-left boot.hosts (pending_piece boot before pages) (pages.first + pages.count) pages.first calls (page_state boot before) part.0 (sym part.1) page within.0 within.1 (ap (λ (b : Bool). b && is_pending (page_state boot before page)) inside ∙ t)
      | inr f ↦
          sym (ap (λ (states : States). is_pending (states page)) (state_after-append (state_in boot.ram) before calls))
          ∙ not-pending-later boot before calls page (steps-take-none boot.hosts (pending_piece boot before pages) (pages.first + pages.count) pages.first None calls part.0) f
    ]

-- no page of an early piece is pending behind the stages
pub early-accepted : (boot : Boot) (pieces : List Pages) (others : List Stage) (done calls : List ModuleCall) → InTurn (StagePart boot) done (map Early pieces ++ others) calls None → AllByRecursion TakesNone calls → (page : ℕ) → list_any (in_pages page) pieces ≡ true → is_pending (page_state boot (done ++ calls) page) ≡ false
early-accepted boot [] others done calls turn takes page inside = cc
early-accepted boot (p ∷ pieces) others done calls (inl stopped) takes page inside = let no : None ≡ Some stopped.0 = stopped.2 in cc
early-accepted boot (p ∷ pieces) others done calls (inr (now, later, is, part, rest)) takes page inside =
    let P : List ModuleCall → Type 0 = λ cs. is_pending (page_state boot cs page) ≡ false in
    let take_later = all-back TakesNone now later (subst (AllByRecursion TakesNone) is takes) in
    subst P (append_assoc done now later ∙ ap (λ cs. done ++ cs) (sym is))
    (elim (or-cases (in_pages page p) (list_any (in_pages page) pieces) inside) [
      | inl here ↦ not-pending-later boot (done ++ now) later page take_later (piece-accepted boot done p now part page here)
      | inr there ↦ early-accepted boot pieces others (done ++ now) later rest take_later page there
    ])

-- ---- what is pending at first

-- the page is in a piece
piece-holds : (from to page : ℕ) → from % 4096 ≡ 0 → to % 4096 ≡ 0 → from ≤ 4096 * page → 4096 * page < to → list_any (in_pages page) (piece from to) ≡ true
piece-holds from to page even ends low high =
    let is : nat_lt from to ≡ true = grind (arith, nat_tests, low, high) in
    let first : from / 4096 ≤ page = omega (arith, low) in
    let last : page < from / 4096 + (to - from) / 4096 = omega (arith, even, ends, low, high) in
    rw is (or-left (in_range (from / 4096) ((to - from) / 4096) page) false (in_range-intro (from / 4096) ((to - from) / 4096) page first last))

-- the pages of a descriptor
record InBytes (d : Descriptor) (page : ℕ) : Type 0 where
  pub low : d.start ≤ 4096 * page
  pub high : 4096 * page < descriptor_end d

in-bytes : (d : Descriptor) (page : ℕ) → d.start % 4096 ≡ 0 → holds_page page d ≡ true → InBytes d page
in-bytes d page even h =
    let two = in_range-elim (d.start / 4096) d.pages page h in
    let low = two.0 in
    let high = two.1 in
    record { low = omega (arith, even, low); high = omega (arith, even, high) }

short-early : (d : Descriptor) (page : ℕ) → is_short d ≡ true → early_in page d ≡ list_any (in_pages page) (piece d.start (descriptor_end d))
short-early d page is = ap (λ (b : Bool). list_any (in_pages page) (cond b (piece d.start (descriptor_end d)) (piece d.start (round_up default_unit d.start) ++ piece (round_down default_unit (descriptor_end d)) (descriptor_end d)))) is

long-early : (d : Descriptor) (page : ℕ) → is_short d ≡ false → early_in page d ≡ (list_any (in_pages page) (piece d.start (round_up default_unit d.start)) || list_any (in_pages page) (piece (round_down default_unit (descriptor_end d)) (descriptor_end d)))
long-early d page is =
    ap (λ (b : Bool). list_any (in_pages page) (cond b (piece d.start (descriptor_end d)) (piece d.start (round_up default_unit d.start) ++ piece (round_down default_unit (descriptor_end d)) (descriptor_end d)))) is
    ∙ list_any-append (in_pages page) (piece d.start (round_up default_unit d.start)) (piece (round_down default_unit (descriptor_end d)) (descriptor_end d))

-- where the unit of a page begins
abbrev pub unit-at : ℕ → ℕ → ℕ
unit-at base page = base + (4096 * page - base) / 2097152 * 2097152

-- a page of a descriptor is accepted early, or its unit lies in the descriptor
unit-marked : (base page : ℕ) (d : Descriptor) → is_short d ≡ false → d.start ≤ unit-at base page → unit-at base page + 2097152 ≤ descriptor_end d → marks (unit-at base page) d ≡ true
unit-marked base page d long low high =
    let first : nat_le d.start (unit-at base page) ≡ true = grind (arith, nat_tests, low) in
    let last : nat_le (unit-at base page + 2097152) (descriptor_end d) ≡ true = grind (arith, nat_tests, high) in
    ap (λ (b : Bool). cond b false (holds_unit (unit-at base page) d)) long ∙ rw (first, last) refl

in-front : (base page start : ℕ) → base % 2097152 ≡ 0 → base ≤ start → start ≤ 4096 * page → base + (4096 * page - base) / 2097152 * 2097152 < start → 4096 * page < (start + 2097152 - 1) / 2097152 * 2097152
in-front base page start even below low before = omega (arith, even, below, low, before)

in-tail : (base page end : ℕ) → base % 2097152 ≡ 0 → base ≤ 4096 * page → 4096 * page < end → end < base + (4096 * page - base) / 2097152 * 2097152 + 2097152 → end / 2097152 * 2097152 ≤ 4096 * page
in-tail base page end even below high past = omega (arith, even, below, high, past)

even-up : (start : ℕ) → ((start + 2097152 - 1) / 2097152 * 2097152) % 4096 ≡ 0
even-up start = omega arith

even-down : (end : ℕ) → (end / 2097152 * 2097152) % 4096 ≡ 0
even-down end = omega arith

one-descriptor : (base page : ℕ) (d : Descriptor) → d.start % 4096 ≡ 0 → base % 2097152 ≡ 0 → base ≤ d.start → holds_page page d ≡ true → (early_in page d ≡ true) ⊎ (marks (unit-at base page) d ≡ true)
one-descriptor base page d even whole below h =
    let at = in-bytes d page even h in
    let low = at.low in
    let ends : descriptor_end d % 4096 ≡ 0 = omega (arith, even) in
    elim (cases_Bool (is_short d)) [
      | inl short ↦ inl (short-early d page short ∙ piece-holds d.start (descriptor_end d) page even ends at.low at.high)
      | inr long ↦
          elim (cases_lt (unit-at base page) d.start) [
            | inl before ↦
                inl
                (long-early d page long
                ∙ or-left (list_any (in_pages page) (piece d.start (round_up default_unit d.start))) _
                (piece-holds d.start (round_up default_unit d.start) page even (even-up d.start) at.low (in-front base page d.start whole below at.low before)))
            | inr from ↦
                elim (cases_lt (descriptor_end d) (unit-at base page + 2097152)) [
                  | inl past ↦
                      inl
                      (long-early d page long
                      ∙ or-right (list_any (in_pages page) (piece d.start (round_up default_unit d.start))) _
                      (piece-holds (round_down default_unit (descriptor_end d)) (descriptor_end d) page (even-down (descriptor_end d)) ends (in-tail base page (descriptor_end d) whole (omega (arith, below, low)) at.high past) at.high))
                  | inr within ↦ inr (unit-marked base page d long from within)
                ]
          ]
    ]

-- ---- all unaccepted descriptors

-- what is needed of each
pub record Placed (base end : ℕ) (d : Descriptor) : Type 0 where
  pub even : d.start % 4096 ≡ 0
  pub low : base ≤ d.start
  pub high : descriptor_end d ≤ end

pub any-descriptor : (base end page : ℕ) (ds : List Descriptor) → base % 2097152 ≡ 0 → AllByRecursion (Placed base end) ds → list_any (holds_page page) ds ≡ true → (list_any (early_in page) ds ≡ true) ⊎ (list_any (marks (unit-at base page)) ds ≡ true)
any-descriptor base end page [] whole all h = cc
any-descriptor base end page (d ∷ ds) whole all h =
    elim (or-cases (holds_page page d) (list_any (holds_page page) ds) h) [
      | inl here ↦
          elim (one-descriptor base page d all.0.even whole all.0.low here) [
            | inl early ↦ inl (or-left (early_in page d) (list_any (early_in page) ds) early)
            | inr marked ↦ inr (or-left (marks (unit-at base page) d) (list_any (marks (unit-at base page)) ds) marked)
          ]
      | inr there ↦
          elim (any-descriptor base end page ds whole all.1 there) [
            | inl early ↦ inl (or-right (early_in page d) (list_any (early_in page) ds) early)
            | inr marked ↦ inr (or-right (marks (unit-at base page) d) (list_any (marks (unit-at base page)) ds) marked)
          ]
    ]

marks-end : (at end : ℕ) (d : Descriptor) → descriptor_end d ≤ end → marks at d ≡ true → at + 2097152 ≤ end
marks-end at end d below h = by_short (is_short d) h where
  by_short : (b : Bool) → cond b false (holds_unit at d) ≡ true → at + 2097152 ≤ end
  by_short true h = cc
  by_short false h = let two = and_parts (nat_le d.start at) (nat_le (at + 2097152) (descriptor_end d)) h in let last = two.1 in grind (arith, nat_tests, last, below)

pub any-marks-end : (base end at : ℕ) (ds : List Descriptor) → AllByRecursion (Placed base end) ds → list_any (marks at) ds ≡ true → at + 2097152 ≤ end
any-marks-end base end at [] all h = cc
any-marks-end base end at (d ∷ ds) all h =
    elim (or-cases (marks at d) (list_any (marks at) ds) h) [
      | inl here ↦ marks-end at end d all.0.high here
      | inr there ↦ any-marks-end base end at ds all.1 there
    ]

-- the least start and the greatest end
least-fold : (least : ℕ) (ds : List Descriptor) → fold (λ least (e : Descriptor). min least e.start) least ds ≤ least
least-fold least [] = omega arith
least-fold least (d ∷ ds) = let rest = least-fold (min least d.start) ds in grind (arith, rest)

least-each : (least : ℕ) (ds : List Descriptor) → AllByRecursion (λ (d : Descriptor). fold (λ least (e : Descriptor). min least e.start) least ds ≤ d.start) ds
least-each least [] = tt
least-each least (d ∷ ds) = ((let rest = least-fold (min least d.start) ds in grind (arith, rest)), least-each (min least d.start) ds)

greatest-fold : (most : ℕ) (ds : List Descriptor) → most ≤ fold (λ greatest (d : Descriptor). max greatest (descriptor_end d)) most ds
greatest-fold most [] = omega arith
greatest-fold most (d ∷ ds) = let rest = greatest-fold (max most (descriptor_end d)) ds in grind (arith, rest)

greatest-each : (most : ℕ) (ds : List Descriptor) → AllByRecursion (λ (d : Descriptor). descriptor_end d ≤ fold (λ greatest (d : Descriptor). max greatest (descriptor_end d)) most ds) ds
greatest-each most [] = tt
greatest-each most (d ∷ ds) = ((let rest = greatest-fold (max most (descriptor_end d)) ds in grind (arith, rest)), greatest-each (max most (descriptor_end d)) ds)

least-starts : (ds : List Descriptor) → AllByRecursion (λ (d : Descriptor). least_start ds ≤ d.start) ds
least-starts [] = tt
least-starts (d ∷ ds) = (least-fold d.start ds, least-each d.start ds)

all-placed : (base end : ℕ) (ds : List Descriptor) → All IsDescriptor ds → AllByRecursion (λ (d : Descriptor). base ≤ d.start) ds → AllByRecursion (λ (d : Descriptor). descriptor_end d ≤ end) ds → AllByRecursion (Placed base end) ds
all-placed base end [] each low high = tt
all-placed base end (d ∷ ds) each low high =
    let later : All IsDescriptor ds = All-tail IsDescriptor d ds each in
    (record { even = (each 0 d (omega arith)).aligned; low = low.0; high = high.0 }, all-placed base end ds later low.1 high.1)

lower-each : (a b : ℕ) (ds : List Descriptor) → a ≤ b → AllByRecursion (λ (d : Descriptor). b ≤ d.start) ds → AllByRecursion (λ (d : Descriptor). a ≤ d.start) ds
lower-each a b [] less all = tt
lower-each a b (d ∷ ds) less all = let here = all.0 in (omega (arith, less, here), lower-each a b ds less all.1)

pub stub-placed : (map : List Descriptor) → All IsDescriptor map → AllByRecursion (Placed (stub_base map) (greatest_end (unaccepted map))) (unaccepted map)
stub-placed map each =
    let least = least_start (unaccepted map) in
    let down : least / 2097152 * 2097152 ≤ least = div-mul-le_self least 2097152 in
    all-placed (stub_base map) (greatest_end (unaccepted map)) (unaccepted map) (unaccepted-each map each) (lower-each (stub_base map) least (unaccepted map) down (least-starts (unaccepted map))) (greatest-each 0 (unaccepted map))

pub any-filter : (p q : Descriptor → Bool) (ds : List Descriptor) → list_any (λ d. p d && q d) ds ≡ true → list_any q (filter p ds) ≡ true
any-filter p q [] h = h
any-filter p q (d ∷ ds) h =
    elim (cases_Bool (p d)) [
      | inl t ↦
          rw t
          (elim (or-cases (p d && q d) (list_any (λ d. p d && q d) ds) h) [
            | inl here ↦ or-left (q d) (list_any q (filter p ds)) ((and_parts (p d) (q d) here).1)
            | inr there ↦ or-right (q d) (list_any q (filter p ds)) (any-filter p q ds there)
          ])
      | inr f ↦
          rw f
          (elim (or-cases (p d && q d) (list_any (λ d. p d && q d) ds) h) [
            | inl here ↦ (let no : true ≡ false = sym ((and_parts (p d) (q d) here).0) ∙ f in cc)
            | inr there ↦ any-filter p q ds there
          ])
    ]

-- ---- by the map alone

pub first-pending : (b c : Bool) → is_pending (cond b (Some Pending) (cond c (Some Accepted) None)) ≡ true → b ≡ true
first-pending true c h = refl
first-pending false true h = cc
first-pending false false h = cc

pub unit-low : (base end unit : ℕ) → base + unit * 2097152 + 2097152 ≤ end → unit < 8 * (((end + 2097152 - 1) / 2097152 * 2097152 - base + 8 * 2097152 - 1) / (8 * 2097152))
unit-low base end unit within = omega (arith, within)

pub early-in-pieces : (map : List Descriptor) (pieces : List Pages) (page : ℕ) → EarlyPieces map pieces → list_any (early_in page) (unaccepted map) ≡ true → list_any (in_pages page) pieces ≡ true
early-in-pieces map pieces page early h =
    ap (list_any (in_pages page)) early.made ∙ any-flat (in_pages page) early.sorted ∙ sym (list_any-IsPermutation (early_in page) (unaccepted map) early.sorted early.same) ∙ h
