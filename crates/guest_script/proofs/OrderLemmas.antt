use Rattle.std.proofs.Common.{◌≡◌, ℕ, ◌+◌, ◌<◌, ◌≤◌, List, [], ◌∷◌, ◌++◌, length, Option, Some, None, Ok, Err, refl, ap, sym, ◌∙◌, cond, eqb, arith, length-append, append_assoc, append-nil, take, drop, drop-cons, get_or, suc, take-append-drop}
use Rattle.std.specs.Prelude.{Bool, true, false, is_some, nat_lt, All}
use Rattle.std.specs.List.{filter_map, flat_map, cons_option}
use Rattle.std.specs.Result.{result_err}
use Rattle.std.proofs.lemmas.Bool.{ltb-true}
use Rattle.std.proofs.lemmas.Grind.{flat_map-append}
use Rattle.std.proofs.lemmas.List.Concat.{flat_map-cons}
use Rattle.std.proofs.lemmas.Bool.Decides.{nat_tests}
use Rattle.std.proofs.lemmas.List.Folds.{prefix_len-append}
use Rattle.std.proofs.lemmas.List.Sums.{prefix_len-le-length}
use Rattle.std.proofs.lemmas.List.Elements.{filter_map-append, All-nil, All-cons}
use Rattle.guest_base.specs.declared.memory.CpuNo.{CpuNo}
use Rattle.guest_script.specs.declared.order.OrderFault.{OrderFault}
use Rattle.guest_script.specs.declared.order.OrderFault.TheVariants as fault
use Rattle.guest_script.specs.Order.{turn_words, order_words, processor_of, turn_of, named_first, fault_behind, words_fault, turns_unless, order_in, AddsTurns, IsFirstFault, OrderGives, ReadableOrder}
use Rattle.guest_script.specs.Number.{number_of}

-- ---- the first fault, by counts

no_fault_then : (before a n c m q : ℕ) → q ≡ cond (eqb a n) (n + c) a → fault_behind before a n ≡ None → (a ≡ n) × (before + n ≤ 16777216) × (fault_behind before q (n + m) ≡ fault_behind (before + n) c m)
no_fault_then before a n c m q e none = grind (arith, nat_tests)

fault_stays : (before a n c m q : ℕ) (f : OrderFault) → q ≡ cond (eqb a n) (n + c) a → a ≤ n → fault_behind before a n ≡ Some f → fault_behind before q (n + m) ≡ Some f
fault_stays before a n c m q f e within is = grind (arith, nat_tests)

-- words behind words without a fault
pub behind : (cpus before : ℕ) (xs ys : List (List ℕ)) → words_fault cpus before xs ≡ None → words_fault cpus before (xs ++ ys) ≡ words_fault cpus (before + length xs) ys
behind cpus before xs ys none =
    ap (λ n. fault_behind before (named_first cpus (xs ++ ys)) n) (length-append xs ys)
    ∙ (no_fault_then before (named_first cpus xs) (length xs) (named_first cpus ys) (length ys) (named_first cpus (xs ++ ys)) (prefix_len-append _ xs ys) none).2

-- a fault stays the first one, whatever follows
pub stays : (cpus before : ℕ) (xs ys : List (List ℕ)) (f : OrderFault) → words_fault cpus before xs ≡ Some f → words_fault cpus before (xs ++ ys) ≡ Some f
stays cpus before xs ys f is =
    ap (λ n. fault_behind before (named_first cpus (xs ++ ys)) n) (length-append xs ys)
    ∙ fault_stays before (named_first cpus xs) (length xs) (named_first cpus ys) (length ys) (named_first cpus (xs ++ ys)) f (prefix_len-append _ xs ys) (prefix_len-le-length _ xs) is

-- ---- the turns

one_more : (t : Option CpuNo) (named : ℕ) (turns : List CpuNo) (words : ℕ) → cond (is_some t) (1 + named) 0 ≡ suc words → (named ≡ words → length turns ≡ words) → length (cons_option t turns) ≡ suc words
one_more None named turns words all rest = absurd (omega (arith, all))
one_more (Some t) named turns words all rest = omega (arith, rest (omega (arith, all)))

-- words of which each names a processor name as many as they are
named_count : (cpus : ℕ) (words : List (List ℕ)) → named_first cpus words ≡ length words → length (filter_map (turn_of cpus) words) ≡ length words
named_count cpus [] all = refl
named_count cpus (w ∷ ws) all = one_more (turn_of cpus w) (named_first cpus ws) (filter_map (turn_of cpus) ws) (length ws) all (λ rest. named_count cpus ws rest)

-- without a fault each word names a processor, and the turns are few
fine_counts : (before named words : ℕ) → fault_behind before named words ≡ None → (named ≡ words) × (before + words ≤ 16777216)
fine_counts before named words none = grind (arith, nat_tests)

-- as many turns as words
pub turns_counted : (cpus : ℕ) (words : List (List ℕ)) (before after : List CpuNo) → AddsTurns cpus words before after → (length after ≡ length before + length words) × (length after ≤ 16777216)
turns_counted cpus words before after adds =
    let counts = fine_counts (length before) (named_first cpus words) (length words) adds.fine in
    let longer = ap (λ (ts : List CpuNo). length ts) adds.turns ∙ length-append before (filter_map (turn_of cpus) words) in
    let more = named_count cpus words counts.0 in
    (omega (arith, longer, more), omega (arith, longer, more, counts.1))

few_fine : (n : ℕ) → n ≤ 16777216 → fault_behind n 0 0 ≡ None
few_fine n few = grind (arith, nat_tests)

pub adds_none : (cpus : ℕ) (turns : List CpuNo) → length turns ≤ 16777216 → AddsTurns cpus [] turns turns
adds_none cpus turns few = record { fine = few_fine (length turns) few; turns = sym (append-nil turns) }

pub adds_more : (cpus : ℕ) (xs ys : List (List ℕ)) (before mid after : List CpuNo) → AddsTurns cpus xs before mid → AddsTurns cpus ys mid after → AddsTurns cpus (xs ++ ys) before after
adds_more cpus xs ys before mid after first second = record {
  fine = behind cpus (length before) xs ys first.fine ∙ ap (λ n. words_fault cpus n ys) (sym (turns_counted cpus xs before mid first).0) ∙ second.fine;
  turns = second.turns ∙ ap (λ (ts : List CpuNo). ts ++ filter_map (turn_of cpus) ys) first.turns ∙ append_assoc before _ _ ∙ ap (λ (ts : List CpuNo). before ++ ts) (sym (filter_map-append (turn_of cpus) xs ys));
}

carried : (f : OrderFault) (first all : Option OrderFault) → ((g : OrderFault) → first ≡ Some g → all ≡ Some g) → IsFirstFault f first → IsFirstFault f all
carried fault.NoMemory first all k is = tt
carried (fault.Word n) first all k is = k (fault.Word n) is
carried fault.TooMany first all k is = k fault.TooMany is

-- a fault behind the turns of words is the first one of all
pub fails_behind : (cpus : ℕ) (f : OrderFault) (xs ys zs : List (List ℕ)) (before mid : List CpuNo) → AddsTurns cpus xs before mid → IsFirstFault f (words_fault cpus (length mid) ys) → IsFirstFault f (words_fault cpus (length before) (xs ++ (ys ++ zs)))
fails_behind cpus f xs ys zs before mid first is =
    carried f (words_fault cpus (length mid) ys) (words_fault cpus (length before) (xs ++ (ys ++ zs)))
    (λ g e. behind cpus (length before) xs (ys ++ zs) first.fine ∙ ap (λ n. words_fault cpus n (ys ++ zs)) (sym (turns_counted cpus xs before mid first).0) ∙ stays cpus (length mid) ys zs g e) is

-- ---- items in turn

-- the items so far, the next one, and the others
pub at_item : {X : Type 0} (all seen : List X) (n : ℕ) (x : X) → seen ≡ take n all → n < length all → x ≡ get_or all n x → all ≡ seen ++ (x ∷ drop (n + 1) all)
at_item all seen n x so within is =
    let one : suc n ≡ n + 1 = omega arith in
    let rest : drop n all ≡ x ∷ drop (n + 1) all = drop-cons all n x within ∙ ap (λ v. v ∷ drop (suc n) all) (sym is) ∙ ap (λ m. x ∷ drop m all) one in
    sym (take-append-drop n all) ∙ ap (λ xs. take n all ++ xs) rest ∙ ap (λ xs. xs ++ (x ∷ drop (n + 1) all)) (sym so)

-- the words of lines, and of the line behind them
pub lines_more : (lines : List (List ℕ)) (line : List ℕ) → flat_map turn_words (lines ++ line ∷ []) ≡ flat_map turn_words lines ++ turn_words line
lines_more lines line =
    flat_map-append turn_words lines (line ∷ [])
    ∙ ap (λ ws. flat_map turn_words lines ++ ws) (flat_map-cons turn_words line [] ∙ append-nil (turn_words line))

pub lines_at : (lines others : List (List ℕ)) (line : List ℕ) → flat_map turn_words (lines ++ (line ∷ others)) ≡ flat_map turn_words lines ++ (turn_words line ++ flat_map turn_words others)
lines_at lines others line =
    flat_map-append turn_words lines (line ∷ others) ∙ ap (λ ws. flat_map turn_words lines ++ ws) (flat_map-cons turn_words line others)

-- ---- the whole file

first_fault : (cpus : ℕ) (words : List (List ℕ)) (first : Option OrderFault) → result_err (turns_unless cpus words first) ≡ first
first_fault cpus words None = refl
first_fault cpus words (Some f) = refl

-- the first fault of a file's words is the file's
pub order_fails : (cpus : ℕ) (f : OrderFault) (bytes : List ℕ) → IsFirstFault f (words_fault cpus 0 (order_words bytes)) → OrderGives (Err f) (order_in cpus bytes)
order_fails cpus f bytes is = rw (first_fault cpus (order_words bytes) (words_fault cpus 0 (order_words bytes))) is

pub order_read : (cpus : ℕ) (bytes : List ℕ) (turns : List CpuNo) → AddsTurns cpus (order_words bytes) [] turns → order_in cpus bytes ≡ Ok turns
order_read cpus bytes turns adds =
    ap (turns_unless cpus (order_words bytes)) adds.fine ∙ ap (λ (ts : List CpuNo). Ok ts) (sym adds.turns)

below_test : (cpus n : ℕ) (turns : List CpuNo) (b : Bool) → nat_lt n cpus ≡ b → All (λ (cpu : CpuNo). cpu.0 < cpus) turns → All (λ (cpu : CpuNo). cpu.0 < cpus) (cons_option (cond b (Some (record { 0 = n })) None) turns)
below_test cpus n turns true e below = All-cons (λ (cpu : CpuNo). cpu.0 < cpus) (record { 0 = n }) turns (ltb-true n cpus e) below
below_test cpus n turns false e below = below

below_more : (cpus : ℕ) (n : Option ℕ) (turns : List CpuNo) → All (λ (cpu : CpuNo). cpu.0 < cpus) turns → All (λ (cpu : CpuNo). cpu.0 < cpus) (cons_option (processor_of cpus n) turns)
below_more cpus None turns below = below
below_more cpus (Some n) turns below = below_test cpus n turns (nat_lt n cpus) refl below

turns_below : (cpus : ℕ) (words : List (List ℕ)) → All (λ (cpu : CpuNo). cpu.0 < cpus) (filter_map (turn_of cpus) words)
turns_below cpus [] = All-nil (λ (cpu : CpuNo). cpu.0 < cpus)
turns_below cpus (w ∷ ws) = below_more cpus (number_of w) (filter_map (turn_of cpus) ws) (turns_below cpus ws)

pub readable : (cpus : ℕ) (words : List (List ℕ)) (turns : List CpuNo) → AddsTurns cpus words [] turns → ReadableOrder cpus turns
readable cpus words turns adds = record {
  below = rw adds.turns (turns_below cpus words);
  few = (turns_counted cpus words [] turns adds).1;
}
