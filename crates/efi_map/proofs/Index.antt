-- Things with a start and an end, and their ranges by their starts.
use Rattle.std.proofs.Common.{◌≡◌, ◌≢◌, ◌⊎◌, ℕ, ◌+◌, ◌<◌, ◌≤◌, Bool, true, false, List, [], ◌∷◌, ◌++◌, get_or, max, min, Some, None, refl, sym, ap, subst, ◌∙◌, arith, inl, inr, nat_lt, leb}
use Rattle.std.specs.List.{All, Any}
use Rattle.std.proofs.lemmas.Bool.{cases_lt, cases_eq}
use Rattle.std.proofs.lemmas.Bool.Decides.{nat_tests}
use Rattle.std.proofs.lemmas.Option.{same_Some}
use Rattle.std.proofs.lemmas.List.{get_or_append_left, length_push}
use Rattle.std.proofs.lemmas.List.Elements.{All-push}
use Rattle.std.proofs.lemmas.List.Quantifiers.{Any-push}
use Rattle.std.specs.Bool.{OnTrue, OnFalse}
use Rattle.std.specs.Option.{IsSome}
use Rattle.std.specs.Ordering.{nat_cmp, is_gt, is_lt}
use Rattle.std.specs.BTreeMap.{BTreeMap, get}
use Rattle.std.specs.BTreeMap.Range.{IsRangeOf}
use Rattle.std.specs.declared.ops.Bound.TheVariants.{Included, Unbounded}
use Rattle.efi_map.specs.Starts.{Ends, AreRanges, IsClear, Notes, Indexes}

within : (q last : ℕ) → q ≤ last → is_gt (nat_cmp q last) ≡ false
within q last le = grind (arith, nat_tests)

not_above : (key q : ℕ) → is_lt (nat_cmp key q) ≡ false → q ≤ key
not_above key q no-less = grind (arith, nat_tests)

on_true : {P : Type 0} (b : Bool) → (b ≡ true → P) → OnTrue b P
on_true true f = f refl
on_true false f = tt

on_false : {P : Type 0} (b : Bool) → (b ≡ false → P) → OnFalse b P
on_false true f = tt
on_false false f = f refl

clear_of_last : (ends : Ends) (key end start last : ℕ) → AreRanges ends → ends key ≡ Some end → ((q : ℕ) → q ≤ last → IsSome (ends q) → q ≤ key) → end ≤ start → IsClear ends start last
clear_of_last ends key end start last are at greatest le s e there below =
    let to : s ≤ key = greatest s below (rw there refl) in
    elim (cases_lt s key) [
      | inl less ↦ let ended = are.apart s e key end there at less in let some = are.some key end at in omega (arith, ended, some, le)
      | inr same ↦
          let is : s ≡ key = omega (arith, to, same) in
          let value : e ≡ end = same_Some e end (sym there ∙ ap ends is ∙ at) in
          omega (arith, value, le)
    ]

-- what the last range that begins at `last` or below it says of all such
pub clear_at_last : (m : BTreeMap ℕ ℕ) (key end start last : ℕ) (front : List (ℕ × ℕ)) (found : List (ℕ × ℕ)) → AreRanges (get nat_cmp m) → IsRangeOf nat_cmp Unbounded (Included last) m found → found ≡ front ++ (key, end) ∷ [] → OnTrue (leb end start) (IsClear (get nat_cmp m) start last)
clear_at_last m key end start last front found are of is =
    on_true (leb end start) (λ le. clear_of_last (get nat_cmp m) key end start last are (of.3 (key, end) front is).1 (λ q below some. not_above key q (of.4 (key, end) front is q (tt, within q last below) some)) (grind (arith, nat_tests)))

not_past : (key last : ℕ) → is_gt (nat_cmp key last) ≡ false → key ≤ last
not_past key last no-more = grind (arith, nat_tests)

pub met_at_last : (m : BTreeMap ℕ ℕ) (key end start last : ℕ) (front : List (ℕ × ℕ)) (found : List (ℕ × ℕ)) → IsRangeOf nat_cmp Unbounded (Included last) m found → found ≡ front ++ (key, end) ∷ [] → OnFalse (leb end start) (¬ IsClear (get nat_cmp m) start last)
met_at_last m key end start last front found of is =
    let inside = of.3 (key, end) front is in
    on_false (leb end start) (λ more clear. let le : end ≤ start = clear key end inside.1 (not_past key last inside.0.1) in grind (arith, nat_tests, le, more))

overlap : (a b c d : ℕ) → nat_lt (max a c) (min b d) ≡ false → c < b → a < d → a < b → c < d → ⊥
overlap a b c d none under over some wide = grind (arith, nat_tests)

module _ {X : Type 0} (start end : X → ℕ) where
  -- two have a number in common
  abbrev pub meets : X → X → Bool
  meets a b = nat_lt (max (start a) (start b)) (min (end a) (end b))

  pub index_none : (ends : Ends) → ((s : ℕ) → ends s ≡ None) → Indexes start end ends []
  index_none ends none = record {
    has = λ k d lt. absurd (omega (arith, lt));
    only = λ s e at. absurd (let no : None ≡ Some e = sym (none s) ∙ at in cc);
    ranges = record {
      some = λ s e at. absurd (let no : None ≡ Some e = sym (none s) ∙ at in cc);
      apart = λ s e l m at there lt. absurd (let no : None ≡ Some e = sym (none s) ∙ at in cc);
    };
  }

  -- where all that begins at the last number of x or below it ends below x, nothing meets x
  pub clear : (ends : Ends) (before : List X) (x : X) (last : ℕ) → last + 1 ≡ end x → Indexes start end ends before → IsClear ends (start x) last → All (λ y. meets x y ≡ false) before
  clear ends before x last is index ended k d lt =
      let y : X = get_or before k d in
      elim (cases_lt (start y) (end y)) [
        | inl some ↦
            let at : ends (start y) ≡ Some (end y) = index.has k d lt some in
            elim (cases_lt last (start y)) [
              | inl behind ↦ grind (arith, nat_tests)
              | inr before' ↦ let behind' = ended (start y) (end y) at before' in grind (arith, nat_tests)
            ]
        | inr none ↦ grind (arith, nat_tests)
      ]

  any_more : (P : X → Type 0) (before : List X) (x : X) → Any P before → Any P (before ++ x ∷ [])
  any_more P before x one = (one.0, one.1, omega (arith, one.2, length_push before x), get_or_append_left before (x ∷ []) one.1 one.0 one.2 ∙ one.3, one.4)

  -- a range of one before lies on either side of one that meets none
  sides : (before : List X) (x : X) (s e : ℕ) → All (λ y. meets x y ≡ false) before → Any (λ y. (start y ≡ s) × (end y ≡ e)) before → start x < end x → s < e → (end x ≤ s) ⊎ (e ≤ start x)
  sides before x s e apart one some wide =
      let y : X = one.1 in
      let none : meets x y ≡ false = subst (λ (z : X). meets x z ≡ false) one.3 (apart one.0 one.1 one.2) in
      elim (cases_lt s (end x)) [
        | inl under ↦
            elim (cases_lt (start x) e) [
              | inl over ↦ absurd (overlap (start x) (end x) (start y) (end y) none (rw (one.4.0) under) (rw (one.4.1) over) some (rw (one.4.0, one.4.1) wide))
              | inr below ↦ inr below
            ]
        | inr above ↦ inl above
      ]

  index_same : (ends after : Ends) (before : List X) (x : X) → Indexes start end ends before → end x ≤ start x → ((s : ℕ) → after s ≡ ends s) → Indexes start end after (before ++ x ∷ [])
  index_same ends after before x index none same = record {
    has = All-push (λ y. start y < end y → after (start y) ≡ Some (end y)) before x (λ k d lt some. same (start (get_or before k d)) ∙ index.has k d lt some) (λ some. absurd (omega (arith, some, none)));
    only = λ s e at. any_more (λ y. (start y ≡ s) × (end y ≡ e)) before x (index.only s e (sym (same s) ∙ at));
    ranges = record {
      some = λ s e at. index.ranges.some s e (sym (same s) ∙ at);
      apart = λ s e l m at there lt. index.ranges.apart s e l m (sym (same s) ∙ at) (sym (same l) ∙ there) lt;
    };
  }

  index_added : (ends after : Ends) (before : List X) (x : X) → Indexes start end ends before → All (λ y. meets x y ≡ false) before → start x < end x → after (start x) ≡ Some (end x) → ((s : ℕ) → s ≢ start x → after s ≡ ends s) → Indexes start end after (before ++ x ∷ [])
  index_added ends after before x index apart some here others =
      let value : (s e : ℕ) → s ≡ start x → after s ≡ Some e → end x ≡ e = λ s e is at. same_Some (end x) e (sym here ∙ ap after (sym is) ∙ at) in
      record {
        has = All-push (λ y. start y < end y → after (start y) ≡ Some (end y)) before x
            (λ k d lt wide.
            let y : X = get_or before k d in
            let other : start y ≢ start x = λ same. overlap (start x) (end x) (start y) (end y) (apart k d lt) (omega (arith, same, some)) (omega (arith, same, wide)) some wide in
            others (start y) other ∙ index.has k d lt wide)
            (λ wide. here);
        only = λ s e at. elim (cases_eq s (start x)) [
          | inl same ↦ Any-push (λ y. (start y ≡ s) × (end y ≡ e)) before x (sym same, value s e same at)
          | inr other ↦ any_more (λ y. (start y ≡ s) × (end y ≡ e)) before x (index.only s e (sym (others s other) ∙ at))
        ];
        ranges = record {
          some = λ s e at. elim (cases_eq s (start x)) [
            | inl same ↦ let is = value s e same at in omega (arith, same, is, some)
            | inr other ↦ index.ranges.some s e (sym (others s other) ∙ at)
          ];
          apart = λ s e l m at there lt. elim (cases_eq s (start x)) [
            | inl same ↦ elim (cases_eq l (start x)) [
              | inl same' ↦ absurd (omega (arith, same, same', lt))
              | inr other ↦
                  let was = sym (others l other) ∙ there in
                  let is = value s e same at in
                  elim (sides before x l m apart (index.only l m was) some (index.ranges.some l m was)) [
                    | inl right ↦ omega (arith, right, is)
                    | inr left ↦ let wide = index.ranges.some l m was in absurd (omega (arith, left, same, lt, wide))
                  ]
            ]
            | inr other ↦
                let was = sym (others s other) ∙ at in
                elim (cases_eq l (start x)) [
                  | inl same' ↦ elim (sides before x s e apart (index.only s e was) some (index.ranges.some s e was)) [
                    | inl right ↦ absurd (omega (arith, right, same', lt, some))
                    | inr left ↦ omega (arith, left, same')
                  ]
                  | inr other' ↦ index.ranges.apart s e l m was (sym (others l other') ∙ there) lt
                ]
          ];
        };
      }

  -- one more thing, that meets none before it
  pub index_more : (ends after : Ends) (before : List X) (x : X) → Indexes start end ends before → All (λ y. meets x y ≡ false) before → Notes ends after (start x) (end x) → Indexes start end after (before ++ x ∷ [])
  index_more ends after before x index apart notes =
      elim (cases_lt (start x) (end x)) [
        | inl some ↦ index_added ends after before x index apart some (notes.here some) (λ s other. notes.others s (λ _. other))
        | inr none ↦ index_same ends after before x index none (λ s. notes.others s (λ lt. absurd (omega (arith, lt, none))))
      ]
