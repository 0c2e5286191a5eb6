use Rattle.std.proofs.Common.{◌≡◌, ◌≢◌, ◌⊎◌, ℕ, ◌+◌, ◌-◌, ◌*◌, ◌/◌, ◌≤◌, Bool, true, false, ◌&&◌, None, refl, sym, ◌∙◌, ap, subst, inl, inr, arith, cond, length, ◌==◌, eqb-true, eq-eqb}
use Rattle.std.specs.Prelude.{not, nat_lt}
use Rattle.std.proofs.lemmas.Bool.{cases_Bool, cases_lt}
use Rattle.guest_base.proofs.RangeLemmas.{in_range-intro}
use Rattle.guest_base.specs.Ranges.{in_range}
use Rattle.guest_base.specs.Search.{any_such, count_such}
use Rattle.guest_base.proofs.SearchLemmas.{any_such_is, any_such_none, first_such_none, count_such-append, count_such-pass, count_such-fail, count_such-zero}
use Rattle.guest_base.specs.declared.memory.Pages.{Pages}
use Rattle.event_core.specs.Units.{bit_of, first_run, run_at}
use Rattle.page_module.specs.Spans.{Taken}
use Rattle.page_module.specs.Marking.{IsFirstPending, NonePending}
use Rattle.accept_sizes.specs.Accepts.{pending_of}
use Rattle.accept_sizes.proofs.Going.{is_pending-Some, is_pending-not}
use Rattle.event_core.specs.Table.{Bits}
use Rattle.unaccepted_bitmap.specs.BitmapValue.{ClearsBits}
use Rattle.memory_core.specs.Bitmaps.{ClearedBy, unit_first_of, unit_pages_of}

-- whether a page is pending among some, by the first that is
pub pending-first : (span : Taken) (first count : ℕ) (run : Pages) → IsFirstPending span first run → nat_lt (run.first - first) count ≡ any_such (pending_of span) first count
pending-first span first count run is =
    let low = is.from_on in
    elim (cases_lt (run.first - first) count) [
      | inl near ↦
          (let yes : nat_lt (run.first - first) count ≡ true = grind arith in
          let some = is.some in
          yes ∙ sym (any_such_is (pending_of span) first count run.first low (omega arith) (is_pending-Some _ (is.pending run.first (in_range-intro run.first run.count run.first (omega arith) (omega arith))))))
      | inr far ↦
          (let no : nat_lt (run.first - first) count ≡ false = grind arith in
          no ∙ sym (any_such_none (pending_of span) first count (record { fails = λ n l h. is_pending-not _ (is.first n l (omega arith)) })))
    ]

pub pending-none : (span : Taken) (first count : ℕ) → NonePending span first → false ≡ any_such (pending_of span) first count
pending-none span first count none = sym (any_such_none (pending_of span) first count (record { fails = λ n l h. is_pending-not _ (none n l) }))

-- where no bit is set there is no run
pub no-run : (from end : ℕ) → None ≡ first_run (λ unit. false) from end
unfolding first_run
no-run from end = sym (ap (run_at (λ unit. false) end) (first_such_none (λ unit. false) from (end - from) (record { fails = λ n l h. refl })))

-- ---- clearing units one after another

-- nothing is cleared at first
pub cleared-start : (b : Bits) (pending : ℕ → Bool) (first : ℕ) → ClearedBy b b pending first (first - first)
cleared-start b pending first = record {
  size = refl;
  each = λ unit. (let none : in_range first (first - first) unit ≡ false = grind arith in sym (ap (λ t. cond t (bit_of b.bits unit && any_such pending (unit_first_of b unit) (unit_pages_of b)) (bit_of b.bits unit)) none));
}

pub count-start : (test : ℕ → Bool) (first : ℕ) → 0 ≡ count_such test first (first - first)
count-start test first = (let zero_left : first - first ≡ 0 = omega arith in sym (ap (count_such test first) zero_left ∙ count_such-zero test first))

-- one unit keeps its bit only where a page is pending
pub record OneCleared (mid new : Bits) (at : ℕ) (any : Bool) : Type 0 where
  pub size : length new.bits ≡ length mid.bits
  pub here : bit_of new.bits at ≡ (bit_of mid.bits at && any)
  pub others : (unit : ℕ) → unit ≢ at → bit_of new.bits unit ≡ bit_of mid.bits unit

in_one : (at unit : ℕ) → unit ≢ at → in_range at 1 unit ≡ false
in_one at unit other = grind arith

and-false : (b : Bool) → (b && false) ≡ false
and-false true = refl
and-false false = refl

and-true : (b : Bool) → (b && true) ≡ b
and-true true = refl
and-true false = refl

pub one-cleared : (mid new : Bits) (at : ℕ) → ClearsBits mid.bits new.bits (record { first = at; count = 1 }) → OneCleared mid new at false
one-cleared mid new at clears = record {
  size = clears.size;
  here = clears.each at ∙ ap (λ b. cond b false (bit_of mid.bits at)) (in_range-intro at 1 at (omega arith) (omega arith)) ∙ sym (and-false (bit_of mid.bits at));
  others = λ unit other. clears.each unit ∙ ap (λ b. cond b false (bit_of mid.bits unit)) (in_one at unit other);
}

pub one-kept : (mid : Bits) (at : ℕ) → OneCleared mid mid at true
one-kept mid at = record { size = refl; here = sym (and-true (bit_of mid.bits at)); others = λ unit other. refl }

pub nat-cases : (a b : ℕ) → (a ≡ b) ⊎ (a ≢ b)
nat-cases a b = elim (cases_Bool (a == b)) [
  | inl t ↦ inl (eqb-true a b t)
  | inr f ↦ inr (λ e. let no : true ≡ false = sym (eq-eqb a b e) ∙ f in cc)
]

same-range : (first at unit : ℕ) → first ≤ at → unit ≢ at → in_range first (at - first) unit ≡ in_range first (at + 1 - first) unit
same-range first at unit low other = grind arith

-- one more unit
pub cleared-more : (old mid new : Bits) (pending : ℕ → Bool) (first at : ℕ) (any : Bool) → first ≤ at → ClearedBy old mid pending first (at - first) → any ≡ any_such pending (unit_first_of old at) (unit_pages_of old) → OneCleared mid new at any → ClearedBy old new pending first (at + 1 - first)
cleared-more old mid new pending first at any low cleared is one = record {
  size = one.size ∙ cleared.size;
  each = λ unit. elim (nat-cases unit at) [
    | inl same ↦
        (let outside : in_range first (at - first) at ≡ false = grind arith in
        let inside : in_range first (at + 1 - first) at ≡ true = grind arith in
        let Q : ℕ → Type 0 = λ u. bit_of new.bits u ≡ cond (in_range first (at + 1 - first) u) (bit_of old.bits u && any_such pending (unit_first_of old u) (unit_pages_of old)) (bit_of old.bits u) in
        subst Q (sym same)
        (one.here
        ∙ ap (λ b. b && any) (cleared.each at ∙ ap (λ t. cond t (bit_of old.bits at && any_such pending (unit_first_of old at) (unit_pages_of old)) (bit_of old.bits at)) outside)
        ∙ ap (λ a. bit_of old.bits at && a) is
        ∙ sym (ap (λ t. cond t (bit_of old.bits at && any_such pending (unit_first_of old at) (unit_pages_of old)) (bit_of old.bits at)) inside)))
    | inr other ↦
        (let again : in_range first (at - first) unit ≡ in_range first (at + 1 - first) unit = same-range first at unit low other in
        one.others unit other ∙ cleared.each unit
        ∙ ap (λ t. cond t (bit_of old.bits unit && any_such pending (unit_first_of old unit) (unit_pages_of old)) (bit_of old.bits unit)) again)
  ];
}

count-one : (test : ℕ → Bool) (at : ℕ) (any : Bool) → test at ≡ not any → count_such test at 1 ≡ cond any 0 1
count-one test at true here = count_such-fail test at 0 here ∙ count_such-zero test (at + 1)
count-one test at false here = count_such-pass test at 0 here ∙ ap (λ n. 1 + n) (count_such-zero test (at + 1))

pub count-more : (test : ℕ → Bool) (first at cleared : ℕ) (any : Bool) → first ≤ at → cleared ≡ count_such test first (at - first) → test at ≡ not any → cleared + cond any 0 1 ≡ count_such test first (at + 1 - first)
count-more test first at cleared any low is here =
    let more : at + 1 - first ≡ (at - first) + 1 = omega arith in
    let place : first + (at - first) ≡ at = omega arith in
    ap (λ n. n + cond any 0 1) is
    ∙ ap (λ n. count_such test first (at - first) + n) (sym (count-one test at any here) ∙ ap (λ n. count_such test n 1) (sym place))
    ∙ sym (count_such-append test first (at - first) 1)
    ∙ ap (count_such test first) (sym more)

pub any-at : (old mid : Bits) (pending : ℕ → Bool) (at first count : ℕ) (any : Bool) → mid.unit ≡ old.unit → mid.base ≡ old.base → first ≡ unit_first_of mid at → count ≡ 1 * unit_pages_of mid → any ≡ any_such pending first count → any ≡ any_such pending (unit_first_of old at) (unit_pages_of old)
any-at old mid pending at first count any unit base is_first is_count is =
    let pages : unit_pages_of mid ≡ unit_pages_of old = ap (λ u. u / 4096) unit in
    let f : first ≡ unit_first_of old at = is_first ∙ ap (λ b. b / 4096 + at * unit_pages_of mid) base ∙ ap (λ p. old.base / 4096 + at * p) pages in
    let n : count ≡ unit_pages_of old = (let one : 1 * unit_pages_of mid ≡ unit_pages_of mid = omega arith in is_count ∙ one ∙ pages) in
    is ∙ ap (λ x. any_such pending x count) f ∙ ap (any_such pending (unit_first_of old at)) n

-- the loop over the units, one unit further
pub record Further (old new : Bits) (pending : ℕ → Bool) (first next cleared : ℕ) : Type 0 where
  pub unit : new.unit ≡ old.unit
  pub base : new.base ≡ old.base
  pub cleared_by : ClearedBy old new pending first (next - first)
  pub count : cleared ≡ count_such (λ unit. not (any_such pending (unit_first_of old unit) (unit_pages_of old))) first (next - first)
  pub few : cleared ≤ next - first

pub further-clear : (old mid new : Bits) (pending : ℕ → Bool) (first at cleared now page_first page_count : ℕ) (any : Bool) → Further old mid pending first at cleared → first ≤ at → page_first ≡ unit_first_of mid at → page_count ≡ 1 * unit_pages_of mid → any ≡ any_such pending page_first page_count → any ≡ false → ClearsBits mid.bits new.bits (record { first = at; count = 1 }) → new.unit ≡ mid.unit → new.base ≡ mid.base → now ≡ cleared + 1 → Further old new pending first (at + 1) now
further-clear old mid new pending first at cleared now page_first page_count any far low is_first is_count is none clears unit base is_now =
    let here : false ≡ any_such pending (unit_first_of old at) (unit_pages_of old) = sym none ∙ any-at old mid pending at page_first page_count any far.unit far.base is_first is_count is in
    let few = far.few in
    record {
      unit = unit ∙ far.unit;
      base = base ∙ far.base;
      cleared_by = cleared-more old mid new pending first at false low far.cleared_by here (one-cleared mid new at clears);
      count = is_now ∙ count-more (λ u. not (any_such pending (unit_first_of old u) (unit_pages_of old))) first at cleared false low far.count (ap not (sym here));
      few = omega arith;
    }

pub further-keep : (old mid new : Bits) (pending : ℕ → Bool) (first at cleared now page_first page_count : ℕ) (any : Bool) → Further old mid pending first at cleared → first ≤ at → page_first ≡ unit_first_of mid at → page_count ≡ 1 * unit_pages_of mid → any ≡ any_such pending page_first page_count → any ≡ true → new ≡ mid → now ≡ cleared → Further old new pending first (at + 1) now
further-keep old mid new pending first at cleared now page_first page_count any far low is_first is_count is some same is_now =
    let here : true ≡ any_such pending (unit_first_of old at) (unit_pages_of old) = sym some ∙ any-at old mid pending at page_first page_count any far.unit far.base is_first is_count is in
    let few = far.few in
    let zero_more : cleared ≡ cleared + 0 = omega arith in
    let P : Bits → Type 0 = λ b. Further old b pending first (at + 1) now in
    subst P (sym same)
    (record {
      unit = far.unit;
      base = far.base;
      cleared_by = cleared-more old mid mid pending first at true low far.cleared_by here (one-kept mid at);
      count = is_now ∙ zero_more ∙ count-more (λ u. not (any_such pending (unit_first_of old u) (unit_pages_of old))) first at cleared true low far.count (ap not (sym here));
      few = omega arith;
    })

pub further-start : (old : Bits) (pending : ℕ → Bool) (first : ℕ) → Further old old pending first first 0
further-start old pending first = record {
  unit = refl;
  base = refl;
  cleared_by = cleared-start old pending first;
  count = count-start _ first;
  few = omega arith;
}
