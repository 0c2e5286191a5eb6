use Rattle.std.proofs.Common.{◌≡◌, ◌≢◌, ℕ, suc, ◌+◌, ◌-◌, ◌*◌, ◌/◌, ◌%◌, ◌^◌, ◌<◌, ◌≤◌, min, max, Bool, true, false, List, [], ◌∷◌, length, get_or, take, inl, inr, refl, sym, ◌∙◌, ap, arith, subst, add-one}
use Rattle.std.specs.Prelude.{All, fold, if◌then◌else◌, ◌||◌, ◌&&◌, ◌==◌, nat_le}
use Rattle.std.specs.Prelude.{sum_by}
use Rattle.std.specs.List.{list_any, AllPairs}
use Rattle.std.specs.List.Sorted.{IsPermutation, IsNonDecreasingBy}
use Rattle.std.proofs.lemmas.Bool.Decides.{nat_tests}
use Rattle.std.proofs.lemmas.List.Sums.{sum_by-cons}
use Rattle.std.proofs.lemmas.List.Sorted.{sum_by-IsPermutation, All-permutation}
use Rattle.std.proofs.lemmas.List.Kept.{AllPairs-filter}
use Rattle.std.proofs.lemmas.Bool.{cases_Bool, cases_lt, eqb-true}
use Rattle.std.proofs.lemmas.List.Elements.{All-nil, All-cons, All-head, All-tail, All-weaker}
use Rattle.std.proofs.Math.Bool.{or-false}
use Rattle.std.proofs.Math.Seq.{take-suc}
use Rattle.std.proofs.lemmas.List.Folds.{list_any-append}
use Rattle.guest_base.specs.Ranges.{in_range}
use Rattle.guest_base.specs.declared.memory.Units.{Units}
use Rattle.event_core.specs.declared.boot.Descriptor.{Descriptor}
use Rattle.event_core.specs.Units.{bit_of}
use Rattle.event_core.specs.Table.{IsTable}
use Rattle.guest_base.proofs.SearchLemmas.{any_such_is}
use Rattle.unaccepted_bitmap.specs.BitmapValue.{SetsBits}
use Rattle.unaccepted_bitmap.specs.StubMap.{sets_unit, IsUnaccepted, IsStubOf, IsRising}
use Rattle.event_core.specs.Map.{is_unaccepted, is_ram, descriptor_end, IsDescriptor, AreApart}
use Rattle.event_core.specs.Stub.{StartsRise, unaccepted, least_start, greatest_end, round_down, round_up, default_unit}

-- the greatest end of descriptors that all end below a bound does too
fold_max-le : (bound a : ℕ) (ds : List Descriptor) → a ≤ bound → All (λ d. descriptor_end d ≤ bound) ds
    → fold (λ greatest (d : Descriptor). max greatest (descriptor_end d)) a ds ≤ bound
fold_max-le bound a [] le h = le
fold_max-le bound a (d ∷ ds) le h =
    let here = All-head (λ d. descriptor_end d ≤ bound) d ds h in
    fold_max-le bound (max a (descriptor_end d)) ds (omega arith) (All-tail (λ d. descriptor_end d ≤ bound) d ds h)

pub greatest_end-le : (bound : ℕ) (ds : List Descriptor) → All (λ d. descriptor_end d ≤ bound) ds → greatest_end ds ≤ bound
greatest_end-le bound ds h = fold_max-le bound 0 ds (omega arith) h

-- each descriptor ends at the greatest end or before
fold_max-ge : (bound a : ℕ) (ds : List Descriptor) → fold (λ greatest (d : Descriptor). max greatest (descriptor_end d)) a ds ≤ bound
    → (a ≤ bound) × All (λ d. descriptor_end d ≤ bound) ds
fold_max-ge bound a [] h = (h, All-nil (λ d. descriptor_end d ≤ bound))
fold_max-ge bound a (d ∷ ds) h =
    let rest = fold_max-ge bound (max a (descriptor_end d)) ds h in
    (omega (arith, rest.0), All-cons (λ d. descriptor_end d ≤ bound) d ds (omega (arith, rest.0)) rest.1)

pub ends_below : (ds : List Descriptor) → All (λ d. descriptor_end d ≤ greatest_end ds) ds
ends_below ds = (fold_max-ge (greatest_end ds) 0 ds (omega arith)).1

-- each descriptor starts at the least start or behind it
fold_min-le : (bound a : ℕ) (ds : List Descriptor) → bound ≤ fold (λ least (d : Descriptor). min least d.start) a ds
    → (bound ≤ a) × All (λ d. bound ≤ d.start) ds
fold_min-le bound a [] h = (h, All-nil (λ d. bound ≤ d.start))
fold_min-le bound a (d ∷ ds) h =
    let rest = fold_min-le bound (min a d.start) ds h in
    (omega (arith, rest.0), All-cons (λ d. bound ≤ d.start) d ds (omega (arith, rest.0)) rest.1)

pub starts_above : (ds : List Descriptor) → All (λ d. least_start ds ≤ d.start) ds
starts_above [] = All-nil (λ (d : Descriptor). 0 ≤ d.start)
starts_above (d ∷ ds) =
    let least = least_start (d ∷ ds) in
    let rest = fold_min-le least d.start ds (omega arith) in
    All-cons (λ d. least ≤ d.start) d ds rest.0 rest.1

pub least-le-greatest : (ds : List Descriptor) → ds ≢ [] → least_start ds ≤ greatest_end ds
least-le-greatest [] some = absurd (some refl)
least-le-greatest (d ∷ ds) some =
    let low = All-head (λ e. least_start (d ∷ ds) ≤ e.start) d ds (starts_above (d ∷ ds)) in
    let high = All-head (λ e. descriptor_end e ≤ greatest_end (d ∷ ds)) d ds (ends_below (d ∷ ds)) in
    omega arith

is_unaccepted_one : (d : Descriptor) → IsDescriptor d → is_unaccepted d ≡ true → IsUnaccepted d
is_unaccepted_one d h t =
    let kind : d.kind ≡ 15 = eqb-true d.kind 15 t in
    let ram : is_ram d ≡ true =
    ap (λ k. (nat_le 1 k && nat_le k 4) || ((k == 7) || (k == 15))) kind
    in
    record { some = h.some; aligned = h.aligned; below = subst (λ b. descriptor_end d ≤ (if b then 2 ^ 40 else 2 ^ 64)) ram h.below }

pub unaccepted_each : (ds : List Descriptor) → All IsDescriptor ds → All IsUnaccepted (unaccepted ds)
unaccepted_each [] h = All-nil IsUnaccepted
unaccepted_each (d ∷ ds) h =
    let rest = unaccepted_each ds (All-tail IsDescriptor d ds h) in
    let kept = λ (b : Bool). if b then d ∷ unaccepted ds else unaccepted ds in
    elim (cases_Bool (is_unaccepted d)) [
      | inl t ↦ subst (All IsUnaccepted) (sym (ap kept t)) (All-cons IsUnaccepted d (unaccepted ds) (is_unaccepted_one d (All-head IsDescriptor d ds h) t) rest)
      | inr f ↦ subst (All IsUnaccepted) (sym (ap kept f)) rest
    ]

-- the bits are set of the units that lie wholly in one of these descriptors that isn't short
pub record IsMarked (base : ℕ) (ds : List Descriptor) (bytes : ℕ) (bits : List ℕ) : Type 0 where
  pub size : length bits ≡ bytes
  pub each : (unit : ℕ) → bit_of bits unit ≡ list_any (sets_unit base unit) ds

pub IsMarked-more : (base : ℕ) (ds : List Descriptor) (i : ℕ) (d : Descriptor) (size : ℕ) (old new : List ℕ) (units : Units) → i < length ds
    → IsMarked base (take i ds) size old → SetsBits old new units
    → ((unit : ℕ) → in_range units.first units.count unit ≡ sets_unit base unit (get_or ds i d))
    → IsMarked base (take (i + 1) ds) size new
IsMarked-more base ds i d size old new units lt h sets are = record {
  size = sets.size ∙ h.size;
  each =
      λ unit.
      let test = sets_unit base unit in
      let one : (list_any test (take i ds) || (test (get_or ds i d) || false)) ≡ (list_any test (take i ds) || test (get_or ds i d)) =
      ap (λ b. list_any test (take i ds) || b) (or-false (test (get_or ds i d)))
      in
      sets.each unit
      ∙ ap (λ b. b || in_range units.first units.count unit) (h.each unit)
      ∙ ap (λ b. list_any test (take i ds) || b) (are unit)
      ∙ sym one
      ∙ sym (list_any-append test (take i ds) (get_or ds i d ∷ []))
      ∙ sym (ap (list_any test) (ap (λ n. take n ds) (add-one i) ∙ take-suc ds i d lt));
}

-- what the base and the bytes of a bitmap mean for its descriptors
pub record StubFrame (ds : List Descriptor) (base bytes : ℕ) : Type 0 where
  pub aligned : base % 2097152 ≡ 0
  pub low : base ≤ greatest_end ds
  pub starts : All (λ d. base ≤ d.start) ds
  pub ends : All (λ d. descriptor_end d ≤ base + 8 * bytes * 2097152) ds
  pub below : All (λ d. descriptor_end d ≤ 2 ^ 40) ds
  pub most : base ≤ 2 ^ 40
  pub size : base + 8 * bytes * 2097152 < 2 ^ 40 + 8 * 2097152

pub stub_frame : (ds : List Descriptor) (base bytes : ℕ) → ds ≢ [] → All IsUnaccepted ds → base ≡ round_down default_unit (least_start ds)
    → bytes ≡ (round_up default_unit (greatest_end ds) - base + 8 * default_unit - 1) / (8 * default_unit)
    → StubFrame ds base bytes
stub_frame ds base bytes some each least size =
    let below = All-weaker IsUnaccepted (λ d. descriptor_end d ≤ 2 ^ 40) (λ d h. h.below) ds each in
    let most = greatest_end-le (2 ^ 40) ds below in
    let order = least-le-greatest ds some in
    record {
      aligned = omega arith;
      low = omega arith;
      starts = All-weaker (λ d. least_start ds ≤ d.start) (λ d. base ≤ d.start) (λ d h. omega arith) ds (starts_above ds);
      ends = All-weaker (λ d. descriptor_end d ≤ greatest_end ds) (λ d. descriptor_end d ≤ base + 8 * bytes * 2097152) (λ d h. omega arith) ds (ends_below ds);
      below = below;
      most = omega arith;
      size = omega arith;
    }

pub in_range_is : (first count n : ℕ) → first ≤ n → n < first + count → in_range first count n ≡ true
in_range_is first count n low high = grind (arith, nat_tests)

-- ---- descriptors that are apart start at different places

abbrev pub held : ℕ → Descriptor → ℕ
held byte d = if in_range d.start (4096 * d.pages) byte then 1 else 0

not_true : (b : Bool) → b ≢ true → b ≡ false
not_true true h = absurd (h refl)
not_true false h = refl

none_hold : (byte : ℕ) (ds : List Descriptor) → All (λ d. in_range d.start (4096 * d.pages) byte ≢ true) ds → sum_by (held byte) ds ≡ 0
none_hold byte [] h = refl
none_hold byte (d ∷ ds) h =
    let out = not_true (in_range d.start (4096 * d.pages) byte) (All-head (λ d. in_range d.start (4096 * d.pages) byte ≢ true) d ds h) in
    let zero' : held byte d ≡ 0 = ap (λ b. if b then 1 else 0) out in
    omega (arith, sum_by-cons (held byte) d ds, none_hold byte ds (All-tail (λ d. in_range d.start (4096 * d.pages) byte ≢ true) d ds h))

few_hold : (byte : ℕ) (ds : List Descriptor) → AllPairs AreApart ds → sum_by (held byte) ds ≤ 1
few_hold byte [] h = omega arith
few_hold byte (d ∷ ds) h =
    let one = sum_by-cons (held byte) d ds in
    let test = in_range d.start (4096 * d.pages) byte in
    elim (cases_Bool test) [
      | inl t ↦
          (let is : held byte d ≡ 1 = ap (λ b. if b then 1 else 0) t in
          omega (arith, one, is, none_hold byte ds (λ k x lt. h 0 (suc k) x (omega arith) (omega arith) byte t)))
      | inr f ↦
          (let is : held byte d ≡ 0 = ap (λ b. if b then 1 else 0) f in
          omega (arith, one, is, few_hold byte ds (λ i j x lt in'. h (suc i) (suc j) x (omega arith) (omega arith))))
    ]

starts_rise : (ss : List Descriptor) → All IsUnaccepted ss → ((byte : ℕ) → sum_by (held byte) ss ≤ 1) → IsNonDecreasingBy (λ (d : Descriptor). d.start) ss → StartsRise ss
starts_rise [] each few up = tt
starts_rise (d ∷ []) each few up = tt
starts_rise (d ∷ e ∷ ss) each few up =
    let le : d.start ≤ e.start = up 0 1 d (omega arith) (omega arith) in
    let lt : d.start < e.start =
    elim (cases_lt d.start e.start) [
      | inl lt ↦ lt
      | inr ge ↦
          absurd
          (let in_d = All-head IsUnaccepted d (e ∷ ss) each in
          let in_e = All-head IsUnaccepted e ss (All-tail IsUnaccepted d (e ∷ ss) each) in
          let holds_d : in_range d.start (4096 * d.pages) d.start ≡ true = in_range_is d.start (4096 * d.pages) d.start (omega arith) (omega (arith, in_d.some)) in
          let holds_e : in_range e.start (4096 * e.pages) d.start ≡ true = in_range_is e.start (4096 * e.pages) d.start (omega arith) (omega (arith, in_e.some)) in
          let one_d : held d.start d ≡ 1 = ap (λ b. if b then 1 else 0) holds_d in
          let one_e : held d.start e ≡ 1 = ap (λ b. if b then 1 else 0) holds_e in
          omega (arith, few d.start, sum_by-cons (held d.start) d (e ∷ ss), sum_by-cons (held d.start) e ss))
    ]
    in (
      lt,
      starts_rise (e ∷ ss) (All-tail IsUnaccepted d (e ∷ ss) each) (λ byte. omega (arith, few byte, sum_by-cons (held byte) d (e ∷ ss)))
          (λ i j x le lt. up (suc i) (suc j) x (omega arith) (omega arith)),
    )

-- the unaccepted descriptors of a map, sorted by their starts, are in rising order
pub is_rising : (ds kept ss : List Descriptor) → kept ≡ unaccepted ds → All IsDescriptor ds → AllPairs AreApart ds → IsPermutation kept ss
    → IsNonDecreasingBy (λ (d : Descriptor). d.start) ss → IsRising ds ss
is_rising ds kept ss is each apart same up =
    let same' = subst (λ xs. IsPermutation xs ss) is same in
    let good = All-permutation IsUnaccepted (unaccepted ds) ss same' (unaccepted_each ds each) in
    let few = AllPairs-filter AreApart is_unaccepted ds apart in
    record {
      same = same';
      rise = starts_rise ss good (λ byte. omega (arith, few_hold byte (unaccepted ds) few, sum_by-IsPermutation (held byte) (unaccepted ds) ss same')) up;
      each = good;
    }

-- the boot stub's bitmap is a bitmap
pub stub_is_table : (ds : List Descriptor) (base : ℕ) (bits : List ℕ) → IsStubOf ds base bits → IsTable (record { unit = 2097152; base = base; bits = bits })
stub_is_table ds base bits is = record {
  unit_is = any_such_is (λ order. 2097152 == 4096 * 2 ^ order) 0 10 9 (omega arith) (omega arith) refl;
  aligned = omega (arith, is.least);
  low = is.low;
  few = omega (arith, is.below, is.low);
}
