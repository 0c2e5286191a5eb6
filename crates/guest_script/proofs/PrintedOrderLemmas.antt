use Rattle.std.proofs.Common.{◌≡◌, ℕ, ◌<◌, ◌≤◌, ◌^◌, List, [], ◌∷◌, ◌++◌, length, Option, Some, None, Ok, refl, ap, ◌∙◌, cond, arith, append_assoc}
use Rattle.std.specs.Prelude.{Bool, true, false, nat_lt, nat_le, not, ◌==◌, ◌&&◌, All, map, filter}
use Rattle.std.specs.Fmt.{decimal}
use Rattle.std.specs.List.{slice_split, filter_map, flat_map, take_while}
use Rattle.std.specs.Str.Parse.{AllDigits, IsNumeral, digits_value}
use Rattle.std.proofs.lemmas.Bool.{lt-ltb, le-leb}
use Rattle.std.proofs.lemmas.Bool.Decides.{nat_tests}
use Rattle.std.proofs.lemmas.Fmt.{decimal_is_IsNumeral, length-decimal-le}
use Rattle.std.proofs.lemmas.List.Concat.{flat_map-cons}
use Rattle.std.proofs.lemmas.List.Elements.{All-nil, All-cons, All-tail}
use Rattle.std.proofs.lemmas.List.Splits.{slice_split_none, slice_split_at}
use Rattle.std.proofs.lemmas.Str.Parse.{digit_at}
use Rattle.event_core.specs.Texts.{line}
use Rattle.guest_base.specs.declared.memory.CpuNo.{CpuNo}
use Rattle.guest_script.specs.Number.{number_of, digits_number, all_digits}
use Rattle.guest_script.specs.Order.{begins_comment, turn_words, order_words, turn_of, processor_of, named_first, fault_behind, words_fault, turns_unless, order_in, turns_text, ReadableOrder}
use Rattle.guest_script.specs.Words.{is_blank}

-- ---- digits

-- a digit is from 48 to 57
first_digit : (b : ℕ) (bs : List ℕ) → AllDigits 10 (b ∷ bs) → (48 ≤ b) × (b ≤ 57)
first_digit b bs all = let d = digit_at (b ∷ bs) 0 all (omega arith) in (omega (arith, d), omega (arith, d))

-- no digit passes a test of other bytes
no_digit : (p : ℕ → Bool) → ((b : ℕ) → 48 ≤ b → b ≤ 57 → p b ≡ false) → (digits : List ℕ) → AllDigits 10 digits → All (λ b. p b ≡ false) digits
no_digit p others [] all = All-nil (λ b. p b ≡ false)
no_digit p others (b ∷ bs) all =
    let d = first_digit b bs all in
    All-cons (λ c. p c ≡ false) b bs (others b d.0 d.1) (no_digit p others bs all.1)

not_blank : (b : ℕ) → 48 ≤ b → b ≤ 57 → is_blank b ≡ false
not_blank b low high = grind (arith, nat_tests)

not_feed : (b : ℕ) → 48 ≤ b → b ≤ 57 → (b == 10) ≡ false
not_feed b low high = grind (arith, nat_tests)

some_digit : (digits : List ℕ) → 0 < length digits → not (length digits == 0) ≡ true
some_digit digits some = grind (arith, nat_tests)

not_mark : (b : ℕ) → 48 ≤ b → b ≤ 57 → (b == 35) ≡ false
not_mark b low high = grind (arith, nat_tests)

-- ---- a numeral is one word, which begins no comment

word_alone : (word : List ℕ) → not (length word == 0) ≡ true → not (begins_comment word) ≡ true → take_while (λ w. not (begins_comment w)) (filter (λ w. not (length w == 0)) (word ∷ [])) ≡ word ∷ []
word_alone word some plain = rw (some, plain) refl

turn_word : (digits : List ℕ) → IsNumeral 10 digits → turn_words digits ≡ digits ∷ []
turn_word [] is = absurd (omega (arith, is.0))
turn_word (b ∷ bs) is =
    let d = first_digit b bs is.1 in
    ap (λ ws. take_while (λ word. not (begins_comment word)) (filter (λ word. not (length word == 0)) ws)) (slice_split_none is_blank (b ∷ bs) (no_digit is_blank not_blank (b ∷ bs) is.1))
    ∙ word_alone (b ∷ bs) (some_digit (b ∷ bs) is.0) (ap not (not_mark b d.0 d.1))

-- ---- a numeral is the number that it writes

digits_all : (digits : List ℕ) → AllDigits 10 digits → all_digits 10 digits ≡ true
digits_all [] all = refl
digits_all (b ∷ bs) all = rw (lt-ltb _ _ all.0, digits_all bs all.1) refl

chosen : (a b c d : Bool) (n : ℕ) → a ≡ true → b ≡ true → c ≡ true → d ≡ true → cond (a && b) (cond (c && d) (Some n) None) None ≡ Some n
chosen a b c d n p q r s = rw (p, q, r, s) refl

decimal_digits : (digits : List ℕ) → IsNumeral 10 digits → length digits ≤ 20 → digits_value 10 digits < 2 ^ 64 → digits_number 10 20 digits ≡ Some (digits_value 10 digits)
decimal_digits digits is short small =
    chosen (nat_le 1 (length digits)) (nat_le (length digits) 20) (all_digits 10 digits) (nat_lt (digits_value 10 digits) (2 ^ 64)) (digits_value 10 digits)
    (le-leb _ _ is.0) (le-leb _ _ short) (digits_all digits is.1) (lt-ltb _ _ small)

not_hexadecimal : (a b : ℕ) (x y : Option ℕ) → b ≤ 57 → cond ((a == 48) && (b == 120)) x y ≡ y
not_hexadecimal a b x y few = grind (arith, nat_tests)

read_digits : (digits : List ℕ) → IsNumeral 10 digits → number_of digits ≡ digits_number 10 20 digits
read_digits [] is = absurd (omega (arith, is.0))
read_digits (a ∷ []) is = refl
read_digits (a ∷ b ∷ bs) is = not_hexadecimal a b (digits_number 16 16 bs) (digits_number 10 20 (a ∷ b ∷ bs)) (first_digit b bs is.1.1).1

-- what a decimal number spells
number_again : (n : ℕ) → n < 2 ^ 32 → number_of (decimal n) ≡ Some n
number_again n small =
    let is = decimal_is_IsNumeral n (omega arith) in
    read_digits (decimal n) is.0
    ∙ decimal_digits (decimal n) is.0 (length-decimal-le 20 n (omega arith) (omega arith) (omega arith)) (omega (arith, is.1))
    ∙ ap (λ k. Some k) is.1

turn_again : (cpus : ℕ) (cpu : CpuNo) → cpus < 2 ^ 32 → cpu.0 < cpus → turn_of cpus (decimal cpu.0) ≡ Some cpu
turn_again cpus cpu small below =
    ap (processor_of cpus) (number_again cpu.0 (omega arith)) ∙ ap (λ b. cond b (Some cpu) None) (lt-ltb _ _ below)

-- ---- the words of a printed order

words_again : (order : List CpuNo) → All (λ (cpu : CpuNo). cpu.0 < 2 ^ 32) order → order_words (turns_text order) ≡ map (λ (cpu : CpuNo). decimal cpu.0) order
words_again [] small = refl
words_again (cpu ∷ order) small =
    let is = decimal_is_IsNumeral cpu.0 (omega (arith, small 0 cpu (omega arith))) in
    let text : turns_text (cpu ∷ order) ≡ decimal cpu.0 ++ 10 ∷ turns_text order = flat_map-cons (λ (c : CpuNo). line (decimal c.0)) cpu order ∙ append_assoc (decimal cpu.0) (10 ∷ []) (turns_text order) in
    ap (λ ls. flat_map turn_words ls) (ap (slice_split (λ b. b == 10)) text ∙ slice_split_at (λ b. b == 10) (decimal cpu.0) 10 (turns_text order) (no_digit (λ b. b == 10) not_feed (decimal cpu.0) is.0.1) refl)
    ∙ flat_map-cons turn_words (decimal cpu.0) (slice_split (λ b. b == 10) (turns_text order))
    ∙ ap (λ ws. ws ++ order_words (turns_text order)) (turn_word (decimal cpu.0) is.0)
    ∙ ap (λ ws. decimal cpu.0 ∷ ws) (words_again order (All-tail (λ (c : CpuNo). c.0 < 2 ^ 32) cpu order small))

all_again : (cpus : ℕ) (order : List CpuNo) → cpus < 2 ^ 32 → All (λ (cpu : CpuNo). cpu.0 < cpus) order
    → (named_first cpus (map (λ (cpu : CpuNo). decimal cpu.0) order) ≡ length order)
    × (filter_map (turn_of cpus) (map (λ (cpu : CpuNo). decimal cpu.0) order) ≡ order)
    × (length (map (λ (cpu : CpuNo). decimal cpu.0) order) ≡ length order)
all_again cpus [] small below = (refl, refl, refl)
all_again cpus (cpu ∷ order) small below =
    let turn = turn_again cpus cpu small (below 0 cpu (omega arith)) in
    let others = all_again cpus order small (All-tail (λ (c : CpuNo). c.0 < cpus) cpu order below) in
    (rw (turn, others.0) (omega arith), rw (turn, others.1) refl, omega (arith, others.2))

few_turns : (n : ℕ) → n ≤ 16777216 → fault_behind 0 n n ≡ None
few_turns n few = grind (arith, nat_tests)

-- a printed order is read again
pub order_again : (cpus : ℕ) (order : List CpuNo) → cpus < 2 ^ 32 → ReadableOrder cpus order → order_in cpus (turns_text order) ≡ Ok order
order_again cpus order small readable =
    let words = words_again order (λ k d within. omega (arith, readable.below k d within)) in
    let again = all_again cpus order small readable.below in
    let fine : words_fault cpus 0 (map (λ (cpu : CpuNo). decimal cpu.0) order) ≡ None = rw (again.0, again.2) (few_turns (length order) readable.few) in
    ap (λ ws. turns_unless cpus ws (words_fault cpus 0 ws)) words
    ∙ ap (turns_unless cpus (map (λ (cpu : CpuNo). decimal cpu.0) order)) fine
    ∙ ap (λ (turns : List CpuNo). Ok turns) again.1
