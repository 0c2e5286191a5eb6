use Rattle.std.proofs.Common.{◌≡◌, ℕ, zero, suc, ◌+◌, ◌-◌, ◌<◌, ◌≤◌, min, Bool, true, false, None, Some, refl, sym, ◌∙◌, ap, inl, inr, arith}
use Rattle.std.specs.Prelude.{is_some, Option, ◌⊎◌}
use Rattle.std.proofs.lemmas.Bool.{cases_Bool, cases_lt}
use Rattle.guest_base.specs.Search.{first_such, each_such, any_such, count_such, row_length}

-- Every number of the range fails the test, and passes it.
pub record NoneSuch (test : ℕ → Bool) (from count : ℕ) : Type 0 where
  pub fails : (n : ℕ) → from ≤ n → n < from + count → test n ≡ false

pub record AllSuch (test : ℕ → Bool) (from count : ℕ) : Type 0 where
  pub passes : (n : ℕ) → from ≤ n → n < from + count → test n ≡ true

-- Two tests agree on the range.
pub record SameSuch (test other : ℕ → Bool) (from count : ℕ) : Type 0 where
  pub same : (n : ℕ) → from ≤ n → n < from + count → test n ≡ other n

-- A number is the first of the range that passes.
pub record IsFirstSuch (test : ℕ → Bool) (from count found : ℕ) : Type 0 where
  pub low : from ≤ found
  pub high : found < from + count
  pub passes : test found ≡ true
  pub before : (n : ℕ) → from ≤ n → n < found → test n ≡ false

-- ---- one step of each search

pub first_such-pass : (test : ℕ → Bool) (from count : ℕ) → test from ≡ true → first_such test from (suc count) ≡ Some from
unfolding first_such
first_such-pass test from count h = rw (h, first_such) refl

pub first_such-fail : (test : ℕ → Bool) (from count : ℕ) → test from ≡ false → first_such test from (suc count) ≡ first_such test (from + 1) count
unfolding first_such
first_such-fail test from count h = rw (h, first_such) refl

pub first_such-zero : (test : ℕ → Bool) (from : ℕ) → first_such test from 0 ≡ None
unfolding first_such
first_such-zero test from = refl

pub any_such-pass : (test : ℕ → Bool) (from count : ℕ) → test from ≡ true → any_such test from (suc count) ≡ true
unfolding any_such
any_such-pass test from count h = rw (h, any_such) refl

pub any_such-fail : (test : ℕ → Bool) (from count : ℕ) → test from ≡ false → any_such test from (suc count) ≡ any_such test (from + 1) count
unfolding any_such
any_such-fail test from count h = rw (h, any_such) refl

pub any_such-zero : (test : ℕ → Bool) (from : ℕ) → any_such test from 0 ≡ false
unfolding any_such
any_such-zero test from = refl

pub each_such-pass : (test : ℕ → Bool) (from count : ℕ) → test from ≡ true → each_such test from (suc count) ≡ each_such test (from + 1) count
unfolding each_such
each_such-pass test from count h = rw (h, each_such) refl

pub each_such-fail : (test : ℕ → Bool) (from count : ℕ) → test from ≡ false → each_such test from (suc count) ≡ false
unfolding each_such
each_such-fail test from count h = rw (h, each_such) refl

pub each_such-zero : (test : ℕ → Bool) (from : ℕ) → each_such test from 0 ≡ true
unfolding each_such
each_such-zero test from = refl

pub count_such-pass : (test : ℕ → Bool) (from count : ℕ) → test from ≡ true → count_such test from (suc count) ≡ 1 + count_such test (from + 1) count
unfolding count_such
count_such-pass test from count h = rw (h, count_such) refl

pub count_such-fail : (test : ℕ → Bool) (from count : ℕ) → test from ≡ false → count_such test from (suc count) ≡ count_such test (from + 1) count
unfolding count_such
count_such-fail test from count h = rw (h, count_such) refl

pub count_such-zero : (test : ℕ → Bool) (from : ℕ) → count_such test from 0 ≡ 0
unfolding count_such
count_such-zero test from = refl

pub row_length-pass : (test : ℕ → Bool) (from count : ℕ) → test from ≡ true → row_length test from (suc count) ≡ 1 + row_length test (from + 1) count
unfolding row_length
row_length-pass test from count h = rw (h, row_length) refl

pub row_length-fail : (test : ℕ → Bool) (from count : ℕ) → test from ≡ false → row_length test from (suc count) ≡ 0
unfolding row_length
row_length-fail test from count h = rw (h, row_length) refl

pub row_length-zero : (test : ℕ → Bool) (from : ℕ) → row_length test from 0 ≡ 0
unfolding row_length
row_length-zero test from = refl

-- ---- what a loop from a number up to an end needs

pub until-suc : (at end : ℕ) → at < end → end - at ≡ suc (end - (at + 1))
until-suc at end h = omega arith

pub first_such_at : (test : ℕ → Bool) (at end : ℕ) → at < end → test at ≡ true → first_such test at (end - at) ≡ Some at
first_such_at test at end below h = rw (until-suc at end below) (first_such-pass test at (end - (at + 1)) h)

pub first_such_past : (test : ℕ → Bool) (at end : ℕ) → at < end → test at ≡ false → first_such test at (end - at) ≡ first_such test (at + 1) (end - (at + 1))
first_such_past test at end below h = rw (until-suc at end below) (first_such-fail test at (end - (at + 1)) h)

pub row_length_past : (test : ℕ → Bool) (at end : ℕ) → at < end → test at ≡ true → row_length test at (end - at) ≡ 1 + row_length test (at + 1) (end - (at + 1))
row_length_past test at end below h = rw (until-suc at end below) (row_length-pass test at (end - (at + 1)) h)

pub row_length_stops : (test : ℕ → Bool) (from count : ℕ) → test from ≡ false → row_length test from count ≡ 0
row_length_stops test from zero h = row_length-zero test from
row_length_stops test from (suc count) h = row_length-fail test from count h

pub row_length_at : (test : ℕ → Bool) (at end : ℕ) → test at ≡ false → row_length test at (end - at) ≡ 0
row_length_at test at end h = row_length_stops test at (end - at) h

-- ---- what the answers mean

none_such-rest : (test : ℕ → Bool) (from count : ℕ) → NoneSuch test from (suc count) → NoneSuch test (from + 1) count
none_such-rest test from count h = record { fails = λ n low high. h.fails n (omega arith) (omega arith) }

none_such-more : (test : ℕ → Bool) (from count : ℕ) → test from ≡ false → NoneSuch test (from + 1) count → NoneSuch test from (suc count)
none_such-more test from count f h = record {
  fails =
      λ n low high.
      elim (cases_lt from n) [
        | inl above ↦ h.fails n (omega arith) (omega arith)
        | inr below ↦ (let e : n ≡ from = omega arith in ap test e ∙ f)
      ];
}

all_such-more : (test : ℕ → Bool) (from count : ℕ) → test from ≡ true → AllSuch test (from + 1) count → AllSuch test from (suc count)
all_such-more test from count t h = record {
  passes =
      λ n low high.
      elim (cases_lt from n) [
        | inl above ↦ h.passes n (omega arith) (omega arith)
        | inr below ↦ (let e : n ≡ from = omega arith in ap test e ∙ t)
      ];
}

-- what is the first of the range is the first of the range without a number that fails
first_such-rest : (test : ℕ → Bool) (from count found : ℕ) → test from ≡ false → IsFirstSuch test from (suc count) found → IsFirstSuch test (from + 1) count found
first_such-rest test from count found f h =
    let above : from < found =
    elim (cases_lt from found) [
      | inl lt ↦ lt
      | inr le ↦ (let e : found ≡ from = omega arith in let no : true ≡ false = sym h.passes ∙ ap test e ∙ f in cc)
    ]
    in
    record { low = omega arith; high = omega (arith, h.high); passes = h.passes; before = λ n low high. h.before n (omega arith) high }

first_such-more : (test : ℕ → Bool) (from count found : ℕ) → test from ≡ false → IsFirstSuch test (from + 1) count found → IsFirstSuch test from (suc count) found
first_such-more test from count found f h = record {
  low = omega (arith, h.low);
  high = omega (arith, h.high);
  passes = h.passes;
  before =
      λ n low high.
      elim (cases_lt from n) [
        | inl above ↦ h.before n (omega arith) high
        | inr below ↦ (let e : n ≡ from = omega arith in ap test e ∙ f)
      ];
}

-- a search finds the number that is the first
pub first_such_is : (test : ℕ → Bool) (from count found : ℕ) → IsFirstSuch test from count found → first_such test from count ≡ Some found
first_such_is test from zero found h = absurd (omega (arith, h.low, h.high))
first_such_is test from (suc count) found h =
    elim (cases_Bool (test from)) [
      | inl t ↦
          first_such-pass test from count t
          ∙ elim (cases_lt from found) [
            | inl lt ↦ (let no : true ≡ false = sym t ∙ h.before from (omega arith) lt in cc)
            | inr le ↦ (let e : from ≡ found = omega (arith, h.low) in ap Some e)
          ]
      | inr f ↦ first_such-fail test from count f ∙ first_such_is test (from + 1) count found (first_such-rest test from count found f h)
    ]

-- and finds none where none passes
pub first_such_none : (test : ℕ → Bool) (from count : ℕ) → NoneSuch test from count → first_such test from count ≡ None
first_such_none test from zero h = first_such-zero test from
first_such_none test from (suc count) h =
    first_such-fail test from count (h.fails from (omega arith) (omega arith)) ∙ first_such_none test (from + 1) count (none_such-rest test from count h)

-- where it found a number, that is the first
pub first_such-Some : (test : ℕ → Bool) (from count found : ℕ) → first_such test from count ≡ Some found → IsFirstSuch test from count found
first_such-Some test from zero found e = let no : None ≡ Some found = sym (first_such-zero test from) ∙ e in cc
first_such-Some test from (suc count) found e =
    elim (cases_Bool (test from)) [
      | inl t ↦
          (let same : Some from ≡ Some found = sym (first_such-pass test from count t) ∙ e in
          let at : from ≡ found = cc in
          record { low = omega arith; high = omega arith; passes = sym (ap test at) ∙ t; before = λ n low high. absurd (omega arith) })
      | inr f ↦
          first_such-more test from count found f
          (first_such-Some test (from + 1) count found (sym (first_such-fail test from count f) ∙ e))
    ]

-- where it found none, none passes
pub first_such-None : (test : ℕ → Bool) (from count : ℕ) → first_such test from count ≡ None → NoneSuch test from count
first_such-None test from zero e = record { fails = λ n low high. absurd (omega arith) }
first_such-None test from (suc count) e =
    elim (cases_Bool (test from)) [
      | inl t ↦ (let no : Some from ≡ None = sym (first_such-pass test from count t) ∙ e in cc)
      | inr f ↦ none_such-more test from count f (first_such-None test (from + 1) count (sym (first_such-fail test from count f) ∙ e))
    ]

-- one passes exactly where a first one does
pub any_such-first : (test : ℕ → Bool) (from count : ℕ) → any_such test from count ≡ is_some (first_such test from count)
any_such-first test from zero = any_such-zero test from ∙ sym (ap is_some (first_such-zero test from))
any_such-first test from (suc count) =
    elim (cases_Bool (test from)) [
      | inl t ↦ any_such-pass test from count t ∙ sym (ap is_some (first_such-pass test from count t))
      | inr f ↦
          any_such-fail test from count f ∙ any_such-first test (from + 1) count ∙ sym (ap is_some (first_such-fail test from count f))
    ]

pub any_such_is : (test : ℕ → Bool) (from count at : ℕ) → from ≤ at → at < from + count → test at ≡ true → any_such test from count ≡ true
any_such_is test from zero at low high h = absurd (omega arith)
any_such_is test from (suc count) at low high h =
    elim (cases_Bool (test from)) [
      | inl t ↦ any_such-pass test from count t
      | inr f ↦
          any_such-fail test from count f
          ∙ elim (cases_lt from at) [
            | inl above ↦ any_such_is test (from + 1) count at (omega arith) (omega arith) h
            | inr below ↦ (let e : at ≡ from = omega arith in let no : true ≡ false = sym h ∙ ap test e ∙ f in cc)
          ]
    ]

pub any_such_none : (test : ℕ → Bool) (from count : ℕ) → NoneSuch test from count → any_such test from count ≡ false
any_such_none test from zero h = any_such-zero test from
any_such_none test from (suc count) h =
    any_such-fail test from count (h.fails from (omega arith) (omega arith)) ∙ any_such_none test (from + 1) count (none_such-rest test from count h)

pub any_such-false : (test : ℕ → Bool) (from count : ℕ) → any_such test from count ≡ false → NoneSuch test from count
any_such-false test from zero e = record { fails = λ n low high. absurd (omega arith) }
any_such-false test from (suc count) e =
    elim (cases_Bool (test from)) [
      | inl t ↦ (let no : true ≡ false = sym (any_such-pass test from count t) ∙ e in cc)
      | inr f ↦ none_such-more test from count f (any_such-false test (from + 1) count (sym (any_such-fail test from count f) ∙ e))
    ]

-- where one passes there is a first one
pub any_such-true : (test : ℕ → Bool) (from count : ℕ) → any_such test from count ≡ true → (found : ℕ) × IsFirstSuch test from count found
any_such-true test from zero e = let no : false ≡ true = sym (any_such-zero test from) ∙ e in cc
any_such-true test from (suc count) e =
    elim (cases_Bool (test from)) [
      | inl t ↦ (from, record { low = omega arith; high = omega arith; passes = t; before = λ n low high. absurd (omega arith) })
      | inr f ↦
          (let rest = any_such-true test (from + 1) count (sym (any_such-fail test from count f) ∙ e) in
          (rest.0, first_such-more test from count rest.0 f rest.1))
    ]

-- each passes
pub each_such_is : (test : ℕ → Bool) (from count : ℕ) → AllSuch test from count → each_such test from count ≡ true
each_such_is test from zero h = each_such-zero test from
each_such_is test from (suc count) h =
    each_such-pass test from count (h.passes from (omega arith) (omega arith))
    ∙ each_such_is test (from + 1) count (record { passes = λ n low high. h.passes n (omega arith) (omega arith) })

pub each_such-true : (test : ℕ → Bool) (from count : ℕ) → each_such test from count ≡ true → AllSuch test from count
each_such-true test from zero e = record { passes = λ n low high. absurd (omega arith) }
each_such-true test from (suc count) e =
    elim (cases_Bool (test from)) [
      | inl t ↦ all_such-more test from count t (each_such-true test (from + 1) count (sym (each_such-pass test from count t) ∙ e))
      | inr f ↦ (let no : false ≡ true = sym (each_such-fail test from count f) ∙ e in cc)
    ]

-- ---- the row of numbers that pass

pub row_length-le : (test : ℕ → Bool) (from count : ℕ) → row_length test from count ≤ count
row_length-le test from zero = omega (arith, row_length-zero test from)
row_length-le test from (suc count) =
    elim (cases_Bool (test from)) [
      | inl t ↦ omega (arith, row_length-pass test from count t, row_length-le test (from + 1) count)
      | inr f ↦ omega (arith, row_length-fail test from count f)
    ]

-- each number of the row passes
pub row_length-pass_each : (test : ℕ → Bool) (from count : ℕ) → AllSuch test from (row_length test from count)
row_length-pass_each test from zero = record { passes = λ n low high. absurd (omega (arith, row_length-zero test from)) }
row_length-pass_each test from (suc count) =
    elim (cases_Bool (test from)) [
      | inl t ↦
          (let more = all_such-more test from (row_length test (from + 1) count) t (row_length-pass_each test (from + 1) count) in
          record { passes = λ n low high. more.passes n low (omega (arith, row_length-pass test from count t)) })
      | inr f ↦ record { passes = λ n low high. absurd (omega (arith, row_length-fail test from count f)) }
    ]

-- the number after the row fails, where the range goes on
pub row_length-ends : (test : ℕ → Bool) (from count : ℕ) → row_length test from count < count → test (from + row_length test from count) ≡ false
row_length-ends test from zero h = absurd (omega (arith, row_length-zero test from))
row_length-ends test from (suc count) h =
    elim (cases_Bool (test from)) [
      | inl t ↦
          (let one = row_length-pass test from count t in
          let e : from + row_length test from (suc count) ≡ from + 1 + row_length test (from + 1) count = omega (arith, one) in
          ap test e ∙ row_length-ends test (from + 1) count (omega (arith, one, h)))
      | inr f ↦ (let e : from + row_length test from (suc count) ≡ from = omega (arith, row_length-fail test from count f) in ap test e ∙ f)
    ]

-- the row has this length where its numbers pass and the next one fails or is outside
pub row_length_is : (test : ℕ → Bool) (from count length : ℕ) → AllSuch test from length → length ≤ count → (length < count → test (from + length) ≡ false) → row_length test from count ≡ length
row_length_is test from zero length h le ends = omega (arith, row_length-zero test from)
row_length_is test from (suc count) zero h le ends = (let e : from + 0 ≡ from = omega arith in row_length-fail test from count (sym (ap test e) ∙ ends (omega arith)))
row_length_is test from (suc count) (suc length) h le ends =
    let e : from + suc length ≡ from + 1 + length = omega arith in
    let rest : AllSuch test (from + 1) length = record { passes = λ n low high. h.passes n (omega arith) (omega arith) } in
    let one = row_length-pass test from count (h.passes from (omega arith) (omega arith)) in
    let more = row_length_is test (from + 1) count length rest (omega arith) (λ lt. sym (ap test e) ∙ ends (omega arith)) in
    omega (arith, one, more)

-- ---- counting

pub count_such-le : (test : ℕ → Bool) (from count : ℕ) → count_such test from count ≤ count
count_such-le test from zero = omega (arith, count_such-zero test from)
count_such-le test from (suc count) =
    elim (cases_Bool (test from)) [
      | inl t ↦ omega (arith, count_such-pass test from count t, count_such-le test (from + 1) count)
      | inr f ↦ omega (arith, count_such-fail test from count f, count_such-le test (from + 1) count)
    ]

-- the counts of two ranges of which one goes on from the other add up
pub count_such-append : (test : ℕ → Bool) (from count more : ℕ) → count_such test from (count + more) ≡ count_such test from count + count_such test (from + count) more
count_such-append test from zero more =
    let e : from + 0 ≡ from = omega arith in
    let z : 0 + more ≡ more = omega arith in
    rw (e, z) (omega (arith, count_such-zero test from))
count_such-append test from (suc count) more =
    let e : from + suc count ≡ from + 1 + count = omega arith in
    let s : suc count + more ≡ suc (count + more) = omega arith in
    rw (e, s)
    (elim (cases_Bool (test from)) [
      | inl t ↦
          omega
          (arith, count_such-pass test from (count + more) t, count_such-pass test from count t, count_such-append test (from + 1) count more)
      | inr f ↦
          omega
          (arith, count_such-fail test from (count + more) f, count_such-fail test from count f, count_such-append test (from + 1) count more)
    ])

pub count_such_none : (test : ℕ → Bool) (from count : ℕ) → NoneSuch test from count → count_such test from count ≡ 0
count_such_none test from zero h = count_such-zero test from
count_such_none test from (suc count) h =
    count_such-fail test from count (h.fails from (omega arith) (omega arith)) ∙ count_such_none test (from + 1) count (none_such-rest test from count h)

pub count_such_all : (test : ℕ → Bool) (from count : ℕ) → AllSuch test from count → count_such test from count ≡ count
count_such_all test from zero h = count_such-zero test from
count_such_all test from (suc count) h =
    omega
    (arith, count_such-pass test from count (h.passes from (omega arith) (omega arith)), count_such_all test (from + 1) count (record { passes = λ n low high. h.passes n (omega arith) (omega arith) }))

-- ---- tests that agree on the range give the same answers

same_such-rest : (test other : ℕ → Bool) (from count : ℕ) → SameSuch test other from (suc count) → SameSuch test other (from + 1) count
same_such-rest test other from count h = record { same = λ n low high. h.same n (omega arith) (omega arith) }

pub first_such_same : (test other : ℕ → Bool) (from count : ℕ) → SameSuch test other from count → first_such test from count ≡ first_such other from count
first_such_same test other from zero h = first_such-zero test from ∙ sym (first_such-zero other from)
first_such_same test other from (suc count) h =
    let at = h.same from (omega arith) (omega arith) in
    elim (cases_Bool (test from)) [
      | inl t ↦ first_such-pass test from count t ∙ sym (first_such-pass other from count (sym at ∙ t))
      | inr f ↦
          first_such-fail test from count f
          ∙ first_such_same test other (from + 1) count (same_such-rest test other from count h)
          ∙ sym (first_such-fail other from count (sym at ∙ f))
    ]

pub any_such_same : (test other : ℕ → Bool) (from count : ℕ) → SameSuch test other from count → any_such test from count ≡ any_such other from count
any_such_same test other from count h =
    any_such-first test from count ∙ ap is_some (first_such_same test other from count h) ∙ sym (any_such-first other from count)

pub row_length_same : (test other : ℕ → Bool) (from count : ℕ) → SameSuch test other from count → row_length test from count ≡ row_length other from count
row_length_same test other from zero h = row_length-zero test from ∙ sym (row_length-zero other from)
row_length_same test other from (suc count) h =
    let at = h.same from (omega arith) (omega arith) in
    elim (cases_Bool (test from)) [
      | inl t ↦
          row_length-pass test from count t
          ∙ ap (λ n. 1 + n) (row_length_same test other (from + 1) count (same_such-rest test other from count h))
          ∙ sym (row_length-pass other from count (sym at ∙ t))
      | inr f ↦ row_length-fail test from count f ∙ sym (row_length-fail other from count (sym at ∙ f))
    ]

pub count_such_same : (test other : ℕ → Bool) (from count : ℕ) → SameSuch test other from count → count_such test from count ≡ count_such other from count
count_such_same test other from zero h = count_such-zero test from ∙ sym (count_such-zero other from)
count_such_same test other from (suc count) h =
    let at = h.same from (omega arith) (omega arith) in
    let rest = count_such_same test other (from + 1) count (same_such-rest test other from count h) in
    elim (cases_Bool (test from)) [
      | inl t ↦ omega (arith, count_such-pass test from count t, count_such-pass other from count (sym at ∙ t), rest)
      | inr f ↦ omega (arith, count_such-fail test from count f, count_such-fail other from count (sym at ∙ f), rest)
    ]

-- ---- a loop that has reached its end

pub first_such_end : (test : ℕ → Bool) (at end : ℕ) → end ≤ at → first_such test at (end - at) ≡ None
first_such_end test at end h = let e : end - at ≡ 0 = omega arith in ap (first_such test at) e ∙ first_such-zero test at

pub row_length_end : (test : ℕ → Bool) (at end : ℕ) → end ≤ at → row_length test at (end - at) ≡ 0
row_length_end test at end h = let e : end - at ≡ 0 = omega arith in ap (row_length test at) e ∙ row_length-zero test at

-- ---- a search that is cut off where nothing passes any more

cases_Option : (o : Option ℕ) → (o ≡ None) ⊎ ((n : ℕ) × (o ≡ Some n))
cases_Option None = inl refl
cases_Option (Some n) = inr (n, refl)

pub first_such_clip : (test : ℕ → Bool) (from end limit : ℕ) → ((n : ℕ) → limit ≤ n → test n ≡ false) → first_such test from (min end limit - from) ≡ first_such test from (end - from)
first_such_clip test from end limit above =
    elim (cases_Option (first_such test from (end - from))) [
      | inl e ↦
          (let none = first_such-None test from (end - from) e in
          first_such_none test from (min end limit - from) (record { fails = λ n low high. none.fails n low (omega arith) }) ∙ sym e)
      | inr (found, e) ↦
          (let first = first_such-Some test from (end - from) found e in
          elim (cases_lt found limit) [
            | inl lt ↦
                (let low : from ≤ found = first.low in
                let high : found < from + (end - from) = first.high in
                first_such_is test from (min end limit - from) found (record { low = low; high = omega arith; passes = first.passes; before = first.before }) ∙ sym e)
            | inr le ↦ (let no : true ≡ false = sym first.passes ∙ above found le in cc)
          ])
    ]

pub row_length_clip : (test : ℕ → Bool) (from end limit : ℕ) → ((n : ℕ) → limit ≤ n → test n ≡ false) → row_length test from (min end limit - from) ≡ row_length test from (end - from)
row_length_clip test from end limit above =
    let short = min end limit - from in
    let length = row_length test from short in
    let le : length ≤ short = row_length-le test from short in
    sym
    (row_length_is test from (end - from) length (row_length-pass_each test from short) (omega arith)
    (λ lt.
    elim (cases_lt length short) [
      | inl inside ↦ row_length-ends test from short inside
      | inr whole ↦ above (from + length) (omega arith)
    ]))
