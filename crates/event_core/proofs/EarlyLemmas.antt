use Rattle.std.proofs.Common.{◌≡◌, ◌⊎◌, ℕ, suc, ◌+◌, ◌-◌, ◌*◌, ◌/◌, ◌%◌, ◌<◌, ◌≤◌, Bool, true, false, ◌&&◌, List, [], ◌∷◌, ◌++◌, refl, sym, ◌∙◌, ap, inl, inr, arith, cond, length, filter, get_or}
use Rattle.std.specs.Prelude.{◌||◌, All, nat_lt, if◌then◌else◌}
use Rattle.std.specs.List.{list_any, AllPairs, flat_map}
use Rattle.std.proofs.lemmas.Bool.{cases_Bool}
use Rattle.std.proofs.lemmas.List.Elements.{All-tail, All-filter}
use Rattle.std.proofs.lemmas.List.Folds.{list_any_none, list_any-append}
use Rattle.std.proofs.lemmas.List.Kept.{AllPairs-filter}
use Rattle.guest_base.specs.Ranges.{in_range}
use Rattle.guest_base.specs.declared.memory.Pages.{Pages}
use Rattle.event_core.specs.declared.boot.Descriptor.{Descriptor}
use Rattle.event_core.specs.Map.{is_unaccepted, holds_page, descriptor_end, IsDescriptor, AreApart}
use Rattle.event_core.specs.Stub.{default_unit, round_down, round_up, is_short, holds_unit, piece, early_of, unaccepted, EarlyPieces}
use Rattle.std.proofs.lemmas.List.Sorted.{list_any-IsPermutation}

-- Early pieces lie in unaccepted descriptors, and meet no unit that lies wholly in one.

abbrev pub in_pages : ℕ → Pages → Bool
in_pages page pages = in_range pages.first pages.count page

-- the page is in a piece of the descriptor that is accepted early
abbrev pub early_in : ℕ → Descriptor → Bool
early_in page d = list_any (in_pages page) (early_of d)

-- the unit at an address lies wholly in the descriptor, which isn't short
abbrev pub marks : ℕ → Descriptor → Bool
marks at d = if is_short d then false else holds_unit at d

-- the page is one of a unit of 2 MiB
pub record UnitHolds (at page : ℕ) : Type 0 where
  pub low : at ≤ 4096 * page
  pub high : 4096 * page < at + 2097152
  pub even : at % 2097152 ≡ 0

pub or-cases : (b c : Bool) → (b || c) ≡ true → (b ≡ true) ⊎ (c ≡ true)
or-cases true c h = inl refl
or-cases false c h = inr h

-- ---- a piece

piece-of : (b : Bool) (page : ℕ) (p : Pages) → list_any (in_pages page) (cond b (p ∷ []) []) ≡ true → (b ≡ true) × (in_pages page p ≡ true)
piece-of false page p h = cc
piece-of true page p h = elim (or-cases (in_pages page p) false h) [ inl here ↦ (refl, here) | inr bad ↦ cc ]

piece-page : (from to page : ℕ) → from % 4096 ≡ 0 → list_any (in_pages page) (piece from to) ≡ true → (from ≤ 4096 * page) × (4096 * page < to)
piece-page from to page even h =
    let found = piece-of (nat_lt from to) page (record { first = from / 4096; count = (to - from) / 4096 }) h in
    let lt : from < to = (let b = found.0 in grind arith) in
    let inside : in_range (from / 4096) ((to - from) / 4096) page ≡ true = found.1 in
    let low : from / 4096 ≤ page = grind arith in
    let high : page < from / 4096 + (to - from) / 4096 = grind arith in
    (omega (arith, even), omega (arith, even, lt))

-- ---- a descriptor

-- where the early pieces lie
pub record EarlyPage (d : Descriptor) (page : ℕ) : Type 0 where
  pub low : d.start ≤ 4096 * page
  pub high : 4096 * page < descriptor_end d
  pub ends : is_short d ≡ false → (4096 * page < round_up default_unit d.start) ⊎ (round_down default_unit (descriptor_end d) ≤ 4096 * page)

down-even : (a : ℕ) → (a / 2097152 * 2097152) % 4096 ≡ 0
down-even a = omega arith

early-short : (page : ℕ) (d : Descriptor) → d.start % 4096 ≡ 0 → is_short d ≡ true → list_any (in_pages page) (piece d.start (descriptor_end d)) ≡ true → EarlyPage d page
early-short page d even short h =
    let two = piece-page d.start (descriptor_end d) page even h in
    record { low = two.0; high = two.1; ends = λ long. let no : true ≡ false = sym short ∙ long in cc }

not-short : (d : Descriptor) → is_short d ≡ false → 4194304 ≤ 4096 * d.pages
not-short d long = grind arith

early-long : (page : ℕ) (d : Descriptor) → d.start % 4096 ≡ 0 → is_short d ≡ false → list_any (in_pages page) (piece d.start (round_up default_unit d.start) ++ piece (round_down default_unit (descriptor_end d)) (descriptor_end d)) ≡ true → EarlyPage d page
early-long page d even long h =
    let front = piece d.start (round_up default_unit d.start) in
    let tail = piece (round_down default_unit (descriptor_end d)) (descriptor_end d) in
    let much = not-short d long in
    elim (or-cases (list_any (in_pages page) front) (list_any (in_pages page) tail) (sym (list_any-append (in_pages page) front tail) ∙ h)) [
      | inl f ↦
          (let two = piece-page d.start (round_up default_unit d.start) page even f in
          record { low = two.0; high = omega (arith, two.1, much); ends = λ _. inl two.1 })
      | inr t ↦
          (let two = piece-page (round_down default_unit (descriptor_end d)) (descriptor_end d) page (down-even (descriptor_end d)) t in
          record { low = omega (arith, two.0, much); high = two.1; ends = λ _. inr two.0 })
    ]

early-page : (page : ℕ) (d : Descriptor) → d.start % 4096 ≡ 0 → early_in page d ≡ true → EarlyPage d page
early-page page d even h =
    elim (cases_Bool (is_short d)) [
      | inl short ↦ early-short page d even short (sym (ap (λ b. list_any (in_pages page) (cond b (piece d.start (descriptor_end d)) (piece d.start (round_up default_unit d.start) ++ piece (round_down default_unit (descriptor_end d)) (descriptor_end d)))) short) ∙ h)
      | inr long ↦ early-long page d even long (sym (ap (λ b. list_any (in_pages page) (cond b (piece d.start (descriptor_end d)) (piece d.start (round_up default_unit d.start) ++ piece (round_down default_unit (descriptor_end d)) (descriptor_end d)))) long) ∙ h)
    ]

-- a descriptor that a unit marks holds the unit's bytes
marks-unit : (at : ℕ) (d : Descriptor) → marks at d ≡ true → (is_short d ≡ false) × (holds_unit at d ≡ true)
marks-unit at d h = elim (cases_Bool (is_short d)) [
  | inl t ↦ (let no : false ≡ true = sym (ap (λ b. cond b false (holds_unit at d)) t) ∙ h in cc)
  | inr f ↦ (f, sym (ap (λ b. cond b false (holds_unit at d)) f) ∙ h)
]

pub record UnitIn (at : ℕ) (d : Descriptor) : Type 0 where
  pub low : d.start ≤ at
  pub high : at + 2097152 ≤ descriptor_end d

unit-in : (at : ℕ) (d : Descriptor) → holds_unit at d ≡ true → UnitIn at d
unit-in at d h = record { low = grind arith; high = grind arith }

-- no early piece of a descriptor meets a unit of it
one-apart : (at page : ℕ) (d : Descriptor) → d.start % 4096 ≡ 0 → UnitHolds at page → marks at d ≡ true → early_in page d ≡ true → ⊥
one-apart at page d even unit marked early =
    let two = marks-unit at d marked in
    let within = unit-in at d two.1 in
    let e = early-page page d even early in
    elim (e.ends two.0) [
      | inl front ↦ omega (arith, front, within.low, unit.low, unit.even)
      | inr tail ↦ omega (arith, tail, within.high, unit.high, unit.even)
    ]

-- ---- all unaccepted descriptors

byte-in : (start pages byte : ℕ) → start ≤ byte → byte < start + 4096 * pages → in_range start (4096 * pages) byte ≡ true
byte-in start pages byte low high = grind arith

early-byte : (page : ℕ) (d : Descriptor) → d.start % 4096 ≡ 0 → early_in page d ≡ true → in_range d.start (4096 * d.pages) (4096 * page) ≡ true
early-byte page d even early = let e = early-page page d even early in byte-in d.start d.pages (4096 * page) e.low e.high

marks-byte : (at page : ℕ) (d : Descriptor) → UnitHolds at page → marks at d ≡ true → in_range d.start (4096 * d.pages) (4096 * page) ≡ true
marks-byte at page d unit marked =
    let within = unit-in at d (marks-unit at d marked).1 in
    byte-in d.start d.pages (4096 * page) (omega (arith, within.low, unit.low)) (omega (arith, within.high, unit.high))

-- what holds of each element and each later one holds so behind the first
pub pairs-tail : {A : Type 0} (R : A → A → Type 0) (x : A) (xs : List A) → AllPairs R (x ∷ xs) → AllPairs R xs
pairs-tail R x xs pairs i j e lt high = pairs (suc i) (suc j) e (omega arith) (omega arith)

none-of : (test : Descriptor → Bool) (ds : List Descriptor) → ((k : ℕ) (e : Descriptor) → k < length ds → test (get_or ds k e) ≡ true → ⊥) → list_any test ds ≡ false
none-of test ds never = list_any_none test ds (λ k e within. elim (cases_Bool (test (get_or ds k e))) [ inl t ↦ absurd (never k e within t) | inr f ↦ f ])

pub all-apart : (at page : ℕ) (ds : List Descriptor) → All IsDescriptor ds → AllPairs AreApart ds → UnitHolds at page → list_any (marks at) ds ≡ true → list_any (early_in page) ds ≡ true → ⊥
all-apart at page [] each apart unit marked early = cc
all-apart at page (d ∷ ds) each apart unit marked early =
    let even = (each 0 d (omega arith)).aligned in
    let later : All IsDescriptor ds = All-tail IsDescriptor d ds each in
    elim (or-cases (marks at d) (list_any (marks at) ds) marked) [
      | inl m ↦
          (let none : list_any (early_in page) ds ≡ false = none-of (early_in page) ds (λ k e within h. apart 0 (suc k) e (omega arith) (omega arith) (4096 * page) (marks-byte at page d unit m) (early-byte page (get_or ds k e) (later k e within).aligned h)) in
          elim (or-cases (early_in page d) (list_any (early_in page) ds) early) [
            | inl here ↦ one-apart at page d even unit m here
            | inr behind ↦ (let no : true ≡ false = sym behind ∙ none in cc)
          ])
      | inr ms ↦ elim (or-cases (early_in page d) (list_any (early_in page) ds) early) [
        | inl here ↦
            (let none : list_any (marks at) ds ≡ false = none-of (marks at) ds (λ k e within h. apart 0 (suc k) e (omega arith) (omega arith) (4096 * page) (early-byte page d even here) (marks-byte at page (get_or ds k e) unit h)) in
            let no : true ≡ false = sym ms ∙ none in cc)
        | inr behind ↦ all-apart at page ds later (pairs-tail AreApart d ds apart) unit ms behind
      ]
    ]

-- an unaccepted descriptor holds the page
page-held : (page : ℕ) (d : Descriptor) → d.start % 4096 ≡ 0 → early_in page d ≡ true → holds_page page d ≡ true
page-held page d even early =
    let e = early-page page d even early in
    let low = e.low in
    let high = e.high in
    let at : d.start / 4096 ≤ page = omega arith in
    let below : page < d.start / 4096 + d.pages = omega (arith, even) in
    grind arith

pub or-left : (b c : Bool) → b ≡ true → (b || c) ≡ true
or-left b c t = ap (λ x. x || c) t

pub or-right : (b c : Bool) → c ≡ true → (b || c) ≡ true
or-right true c t = refl
or-right false c t = t

pub early-held : (page : ℕ) (map : List Descriptor) → All IsDescriptor map → list_any (early_in page) (filter is_unaccepted map) ≡ true → list_any (λ d. is_unaccepted d && holds_page page d) map ≡ true
early-held page [] each h = h
early-held page (d ∷ ds) each h =
    let later : All IsDescriptor ds = All-tail IsDescriptor d ds each in
    let test : Descriptor → Bool = λ e. is_unaccepted e && holds_page page e in
    elim (cases_Bool (is_unaccepted d)) [
      | inr f ↦
          (let g : list_any (early_in page) (filter is_unaccepted ds) ≡ true = sym (ap (λ b. list_any (early_in page) (cond b (d ∷ filter is_unaccepted ds) (filter is_unaccepted ds))) f) ∙ h in
          or-right (test d) (list_any test ds) (early-held page ds later g))
      | inl t ↦
          (let g : (early_in page d || list_any (early_in page) (filter is_unaccepted ds)) ≡ true = sym (ap (λ b. list_any (early_in page) (cond b (d ∷ filter is_unaccepted ds) (filter is_unaccepted ds))) t) ∙ h in
          elim (or-cases (early_in page d) (list_any (early_in page) (filter is_unaccepted ds)) g) [
            | inl here ↦ or-left (test d) (list_any test ds) (ap (λ b. b && holds_page page d) t ∙ page-held page d (each 0 d (omega arith)).aligned here)
            | inr behind ↦ or-right (test d) (list_any test ds) (early-held page ds later behind)
          ])
    ]

-- ---- the pieces

pub any-flat : (test : Pages → Bool) (ds : List Descriptor) → list_any test (flat_map early_of ds) ≡ list_any (λ d. list_any test (early_of d)) ds
any-flat test [] = refl
any-flat test (d ∷ ds) = list_any-append test (early_of d) (flat_map early_of ds) ∙ ap (λ b. list_any test (early_of d) || b) (any-flat test ds)

-- a page of an early piece is one of an unaccepted descriptor's
pub in-early : (map : List Descriptor) (pieces : List Pages) (page : ℕ) → EarlyPieces map pieces → list_any (in_pages page) pieces ≡ true → list_any (early_in page) (unaccepted map) ≡ true
in-early map pieces page early inside =
    list_any-IsPermutation (early_in page) (unaccepted map) early.sorted early.same
    ∙ sym (any-flat (in_pages page) early.sorted) ∙ ap (list_any (in_pages page)) (sym early.made) ∙ inside

pub unaccepted-each : (map : List Descriptor) → All IsDescriptor map → All IsDescriptor (unaccepted map)
unaccepted-each map each = All-filter is_unaccepted IsDescriptor map each

pub unaccepted-apart : (map : List Descriptor) → AllPairs AreApart map → AllPairs AreApart (unaccepted map)
unaccepted-apart map apart = AllPairs-filter AreApart is_unaccepted map apart
