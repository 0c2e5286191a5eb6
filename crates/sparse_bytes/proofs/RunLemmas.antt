-- Lemmas on runs that are laid over one another.
use Rattle.std.proofs.Common.{◌≡◌, ℕ, suc, ◌+◌, ◌-◌, ◌<◌, ◌≤◌, List, [], ◌∷◌, ◌++◌, Bool, true, false, not, length, take, get_or, min, max, arith, refl, ap, ◌∙◌, inl, inr}
use Rattle.std.specs.List.{filter}
use Rattle.std.proofs.lemmas.Bool.{cases_Bool}
use Rattle.std.proofs.lemmas.Grind.{common_steps}
use Rattle.guest_base.specs.Ranges.{in_range}
use Rattle.guest_base.proofs.RangeLemmas.{in_range-intro, in_range-elim}
use Rattle.event_core.specs.Bytes.{row_of, written}
use Rattle.sparse_bytes.specs.declared.run.Run.{Run}
use Rattle.sparse_bytes.specs.Runs.{bytes_in, is_covered, kept_in, kept_of, laid_over}

-- a run that is laid last
pub laid-push : (before : ℕ → ℕ) (xs : List Run) (run : Run) (place : ℕ) →
    laid_over before (xs ++ run ∷ []) place ≡ written (laid_over before xs) run.start (bytes_in run.content) place
laid-push before [] run place = refl
laid-push before (x ∷ xs) run place = laid-push (written before x.start (bytes_in x.content)) xs run place

-- a run that is covered has no place outside
outside : (at len : ℕ) (run : Run) (place : ℕ) → is_covered at len run ≡ true → in_range at len place ≡ false →
    in_range run.start (length (bytes_in run.content)) place ≡ false
outside at len run place covered out = grind arith

-- outside a range the runs that it covers count for nothing
pub laid-uncovered : (at len : ℕ) (before other : ℕ → ℕ) → ((place : ℕ) → in_range at len place ≡ false → before place ≡ other place) →
    (xs : List Run) (place : ℕ) → in_range at len place ≡ false →
    laid_over before (filter (λ run. not (is_covered at len run)) xs) place ≡ laid_over other xs place
laid-uncovered at len before other same [] place out = same place out
laid-uncovered at len before other same (x ∷ xs) place out =
    elim (cases_Bool (is_covered at len x)) [
      | inl t ↦ rw t (laid-uncovered at len before (written other x.start (bytes_in x.content))
          (λ k o. rw (outside at len x k t o) (same k o)) xs place out)
      | inr f ↦ rw f (laid-uncovered at len (written before x.start (bytes_in x.content)) (written other x.start (bytes_in x.content))
          (λ k o. elim (cases_Bool (in_range x.start (length (bytes_in x.content)) k)) [ inl h ↦ rw h refl | inr h ↦ rw h (same k o) ]) xs place out)
    ]

-- what is written over a range reads the same with and without the runs that it covers
pub written-uncovered : (before : ℕ → ℕ) (xs : List Run) (at : ℕ) (bytes : List ℕ) (place : ℕ) →
    written (laid_over before (filter (λ run. not (is_covered at (length bytes) run)) xs)) at bytes place
    ≡ written (laid_over before xs) at bytes place
written-uncovered before xs at bytes place =
    elim (cases_Bool (in_range at (length bytes) place)) [
      | inl h ↦ rw h refl
      | inr h ↦ rw h (laid-uncovered at (length bytes) before before (λ k o. refl) xs place h)
    ]

pub kept-push : (xs : List Run) (run : Run) → kept_of (xs ++ run ∷ []) ≡ kept_of xs + kept_in run.content
kept-push [] run = omega arith
kept-push (x ∷ xs) run = let h = kept-push xs run in omega (arith, h)

pub kept-filter : (test : Run → Bool) (xs : List Run) → kept_of (filter test xs) ≤ kept_of xs
kept-filter test [] = omega arith
kept-filter test (x ∷ xs) =
    let h = kept-filter test xs in
    elim (cases_Bool (test x)) [ inl t ↦ rw t (omega (arith, h)) | inr f ↦ rw f (omega (arith, h)) ]

-- a run that is laid over those that it doesn't cover
pub laid-anew : (before : ℕ → ℕ) (xs ys : List Run) (run : Run) (len : ℕ) → len ≡ length (bytes_in run.content) →
    ys ≡ filter (λ x. not (is_covered run.start len x)) xs ++ run ∷ [] → (place : ℕ) →
    laid_over before ys place ≡ written (laid_over before xs) run.start (bytes_in run.content) place
laid-anew before xs ys run len is anew place =
    rw (anew, is)
    (laid-push before (filter (λ x. not (is_covered run.start (length (bytes_in run.content)) x)) xs) run place
    ∙ written-uncovered before xs run.start (bytes_in run.content) place)

-- what is kept then
pub kept-anew : (test : Run → Bool) (xs ys : List Run) (run : Run) → ys ≡ filter test xs ++ run ∷ [] →
    kept_of ys ≤ kept_of xs + kept_in run.content
kept-anew test xs ys run anew =
    let push = kept-push (filter test xs) run in
    let less = kept-filter test xs in
    rw (anew, push) (omega (arith, less))

count-push : (xs : List Run) (run : Run) → length (xs ++ run ∷ []) ≡ length xs + 1
count-push [] run = omega arith
count-push (x ∷ xs) run = let h = count-push xs run in omega (arith, h)

count-filter : (test : Run → Bool) (xs : List Run) → length (filter test xs) ≤ length xs
count-filter test [] = omega arith
count-filter test (x ∷ xs) =
    let h = count-filter test xs in
    elim (cases_Bool (test x)) [ inl t ↦ rw t (omega (arith, h)) | inr f ↦ rw f (omega (arith, h)) ]

-- how many runs there are then
pub count-anew : (test : Run → Bool) (xs ys : List Run) (run : Run) → ys ≡ filter test xs ++ run ∷ [] → length ys ≤ length xs + 1
count-anew test xs ys run anew =
    let push = count-push (filter test xs) run in
    let less = count-filter test xs in
    rw (anew, push) (omega (arith, less))

-- one more run
pub laid-more : (before : ℕ → ℕ) (place : ℕ) (xs : List Run) (k : ℕ) (run : Run) → k < length xs → run ≡ get_or xs k run →
    laid_over before (take (k + 1) xs) place ≡ written (laid_over before (take k xs)) run.start (bytes_in run.content) place
laid-more before place xs k run below is =
    let e : take (k + 1) xs ≡ take k xs ++ run ∷ [] = grind (arith, common_steps) in
    rw e (laid-push before (take k xs) run place)

-- a byte that stands at a place, with one more run over it
pub byte-more : (before : ℕ → ℕ) (place byte : ℕ) (xs : List Run) (k : ℕ) (run : Run) → k < length xs → run ≡ get_or xs k run →
    byte ≡ laid_over before (take k xs) place →
    written (λ _. byte) run.start (bytes_in run.content) place ≡ laid_over before (take (k + 1) xs) place
byte-more before place byte xs k run below is here =
    rw (laid-more before place xs k run below is)
    (elim (cases_Bool (in_range run.start (length (bytes_in run.content)) place)) [ inl h ↦ rw h refl | inr h ↦ rw h here ])

alone-filter : (at len : ℕ) (xs : List Run) → filter (is_covered at len) (filter (λ x. not (is_covered at len x)) xs) ≡ []
alone-filter at len [] = refl
alone-filter at len (x ∷ xs) =
    elim (cases_Bool (is_covered at len x)) [ inl t ↦ rw t (alone-filter at len xs) | inr f ↦ rw (f, f) (alone-filter at len xs) ]

few-push : (test : Run → Bool) (xs : List Run) (run : Run) → filter test xs ≡ [] → length (filter test (xs ++ run ∷ [])) ≤ 1
few-push test [] run none = elim (cases_Bool (test run)) [ inl t ↦ rw t (omega arith) | inr f ↦ rw f (omega arith) ]
few-push test (x ∷ xs) run none =
    elim (cases_Bool (test x)) [ inl t ↦ absurd (grind (arith, t, none)) | inr f ↦ rw f (few-push test xs run (rw f at none)) ]

-- no other run lies in the range of one that is laid anew
pub alone-anew : (xs ys : List Run) (run : Run) (at len own : ℕ) → len ≡ own → ys ≡ filter (λ x. not (is_covered at len x)) xs ++ run ∷ [] →
    length (filter (is_covered at own) ys) ≤ 1
alone-anew xs ys run at len own is anew =
    rw (anew, is) (few-push (is_covered at own) (filter (λ x. not (is_covered at own x)) xs) run (alone-filter at own xs))

-- every run
pub all-taken : (xs : List Run) (k : ℕ) → length xs ≤ k → take k xs ≡ xs
all-taken xs k long = grind (arith, common_steps)

-- the places of a range that are among others, by their numbers
pub part-range : (start len at n k first end place : ℕ) → first ≡ max start at → end ≡ min (start + len) (at + n) → k < n →
    first ≤ place → end ≤ place → place ≤ max first end → in_range first (place - first) (at + k) ≡ in_range start len (at + k)
part-range start len at n k first end place first-is end-is below low high top =
    elim (cases_Bool (in_range start len (at + k))) [
      | inl t ↦
          let h = in_range-elim start len (at + k) t in
          let l = h.0 in
          let r = h.1 in
          rw t (in_range-intro first (place - first) (at + k) (omega (arith, first-is, l)) (omega (arith, first-is, end-is, l, r, low, high, below)))
      | inr f ↦
          rw f (elim (cases_Bool (in_range first (place - first) (at + k))) [
            | inl t ↦
                let h = in_range-elim first (place - first) (at + k) t in
                let l = h.0 in
                let r = h.1 in
                let inside = in_range-intro start len (at + k) (omega (arith, first-is, l)) (omega (arith, first-is, end-is, l, r, low, high, top, below)) in
                absurd (grind (arith, f, inside))
            | inr g ↦ g
          ])
    ]

-- bytes that stand one by one as told are a row
pub row-by-place : (bytes : ℕ → ℕ) (from : ℕ) (xs : List ℕ) → ((k : ℕ) → k < length xs → get_or xs k 0 ≡ bytes (from + k)) →
    xs ≡ row_of bytes from (length xs)
row-by-place bytes from [] each = refl
row-by-place bytes from (x ∷ xs) each =
    let first : x ≡ bytes from = let e : from + 0 ≡ from = omega arith in rw e at (each 0 (omega arith)) in
    let rest : (k : ℕ) → k < length xs → get_or xs k 0 ≡ bytes (from + 1 + k) =
    λ k below. let e : from + suc k ≡ from + 1 + k = omega arith in rw e at (each (suc k) (omega (arith, below))) in
    rw (← first) (ap (λ ys. x ∷ ys) (row-by-place bytes (from + 1) xs rest))
