use Rattle.std.proofs.Common.{ℕ, ◌≡◌, ◌==◌, Bool, true, false, refl, sym, ◌∙◌, ap, List, [], ◌∷◌, ◌++◌, length, nat_le, Some, None, Option, inl, inr, arith, ◌⊎◌, ◌&&◌, ◌+◌, ◌<◌, ◌≤◌, drop, if◌then◌else◌, String, string_bytes}
use Rattle.std.specs.Option.{option_map}
use Rattle.std.specs.declared.alloc.Global.{Global}
use Rattle.std.proofs.Math.ListN.{get_or, drop_of_length-le}
use Rattle.std.proofs.lemmas.Bool.{cases_Bool}
use Rattle.std.proofs.lemmas.Bool.Decides.{nat_tests}
use Rattle.std.proofs.lemmas.List.{append-nil, append_assoc, at_drop_more, length-append}
use Rattle.guest_words.specs.declared.mode.Mode.{Mode}
use Rattle.guest_words.specs.declared.mode.Mode.TheVariants.{Turns, Threads}
use Rattle.guest_words.specs.declared.place.Place.{Place}
use Rattle.guest_words.specs.declared.place.Place.TheVariants.{Open, Value, Ended}
use Rattle.guest_words.specs.declared.told.SoFar.{SoFar}
use Rattle.guest_words.specs.Words.{Told, Named, nothing, joined, told_by, part_of, slots_of, areas_of, table_of, run_with, run_of, files_of, named_of, named_as, is_cpus, bytes_of_words, ◌>>=◌}
use Rattle.guest_words.specs.Steps.{told, standing, is_small, told_after, next_of, names_of}

-- what is named by words of which the first part has told something, and the rest stands at a place
unfoldable pub named_after : Mode → Place → Told → List (List ℕ) → Option Named
named_after mode place before words = told_by place words >>= (λ more. named_of mode (joined before more))

pub joined_nothing : (t : Told) → joined t nothing ≡ t
joined_nothing t = λ i. record { plain = append-nil t.plain i; slots = append-nil t.slots i; areas = append-nil t.areas i; table = append-nil t.table i }

pub joined_twice : (a b c : Told) → joined (joined a b) c ≡ joined a (joined b c)
joined_twice a b c = λ i. record {
  plain = append_assoc a.plain b.plain c.plain i;
  slots = append_assoc a.slots b.slots c.slots i;
  areas = append_assoc a.areas b.areas c.areas i;
  table = append_assoc a.table b.table c.table i;
}

-- the words end here
pub named_at_end : (mode : Mode) (place : Place) (t : Told) → named_after mode place t [] ≡ names_of mode place t
unfolding named_after told_by
named_at_end mode Open t = ap (named_of mode) (joined_nothing t)
named_at_end mode (Value choice) t = refl
named_at_end mode Ended t = ap (named_of mode) (joined_nothing t)

-- what tells too much names nothing, however it goes on
slots_again : (xs ys : List (List ℕ)) → nat_le (length xs) 1 ≡ false → slots_of (xs ++ ys) ≡ None
slots_again [] ys h = cc
slots_again (x ∷ []) ys h = cc
slots_again (x ∷ y ∷ xs) ys h = refl

areas_again : (cpus : ℕ) (xs ys : List (List ℕ)) → nat_le (length xs) 1 ≡ false → areas_of cpus (xs ++ ys) ≡ None
areas_again cpus [] ys h = cc
areas_again cpus (x ∷ []) ys h = cc
areas_again cpus (x ∷ y ∷ xs) ys h = refl

table_again : (xs ys : List (List ℕ)) → nat_le (length xs) 1 ≡ false → table_of (xs ++ ys) ≡ None
table_again [] ys h = cc
table_again (x ∷ []) ys h = cc
table_again (x ∷ y ∷ xs) ys h = refl

-- the end of a run's words, over what is read of each option
ends : Option ℕ → Option ℕ → Option (Option (List ℕ)) → Option (List ℕ) → List ℕ → List (List ℕ) → Option Named
ends s a t order map scripts =
    s >>= (λ slots. a >>= (λ areas. t >>= (λ table.
    Some (record { order = order; slots = slots; areas = areas; table = table; map = map; scripts = scripts }))))

ends_slots : (s a : Option ℕ) (t : Option (Option (List ℕ))) (order : Option (List ℕ)) (map : List ℕ) (scripts : List (List ℕ)) → s ≡ None → ends s a t order map scripts ≡ None
unfolding ends
ends_slots None a t order map scripts h = refl
ends_slots (Some slots) a t order map scripts h = cc

ends_areas : (s a : Option ℕ) (t : Option (Option (List ℕ))) (order : Option (List ℕ)) (map : List ℕ) (scripts : List (List ℕ)) → a ≡ None → ends s a t order map scripts ≡ None
unfolding ends
ends_areas None a t order map scripts h = refl
ends_areas (Some slots) None t order map scripts h = refl
ends_areas (Some slots) (Some areas) t order map scripts h = cc

ends_table : (s a : Option ℕ) (t : Option (Option (List ℕ))) (order : Option (List ℕ)) (map : List ℕ) (scripts : List (List ℕ)) → t ≡ None → ends s a t order map scripts ≡ None
unfolding ends
ends_table None a t order map scripts h = refl
ends_table (Some slots) None t order map scripts h = refl
ends_table (Some slots) (Some areas) None order map scripts h = refl
ends_table (Some slots) (Some areas) (Some table) order map scripts h = cc

run_ends : (order : Option (List ℕ)) (map : List ℕ) (scripts : List (List ℕ)) (t : Told) → run_with order map scripts t ≡ ends (slots_of t.slots) (areas_of (length scripts) t.areas) (table_of t.table) order map scripts
unfolding ends
run_ends order map scripts t = refl

last_false : (b c d : Bool) → (b && (c && d)) ≡ false → b ≡ true → c ≡ true → d ≡ false
last_false true true d h b c = h
last_false true false d h b c = cc
last_false false c d h b e = cc

-- an option that is told twice
with_twice : (order : Option (List ℕ)) (map : List ℕ) (scripts : List (List ℕ)) (t more : Told) → (nat_le (length t.slots) 1 && (nat_le (length t.areas) 1 && nat_le (length t.table) 1)) ≡ false → run_with order map scripts (joined t more) ≡ None
with_twice order map scripts t more h =
    let s = slots_of (t.slots ++ more.slots) in
    let a = areas_of (length scripts) (t.areas ++ more.areas) in
    let table = table_of (t.table ++ more.table) in
    run_ends order map scripts (joined t more) ∙
    elim (cases_Bool (nat_le (length t.slots) 1)) [
      | inr many ↦ ends_slots s a table order map scripts (slots_again t.slots more.slots many)
      | inl one_slots ↦ elim (cases_Bool (nat_le (length t.areas) 1)) [
        | inr many ↦ ends_areas s a table order map scripts (areas_again (length scripts) t.areas more.areas many)
        | inl one_areas ↦ ends_table s a table order map scripts (table_again t.table more.table (last_false (nat_le (length t.slots) 1) (nat_le (length t.areas) 1) (nat_le (length t.table) 1) h one_slots one_areas))
      ]
    ]

-- more scripts than there may be
is_many : (count : ℕ) → 64 < count → is_cpus count ≡ false
is_many count h = grind (arith, nat_tests, h)

if_none : {A : Type 0} (b : Bool) (o : Option A) → (b ≡ false) ⊎ (o ≡ None) → (if b then o else None) ≡ None
if_none true o (inl h) = cc
if_none true o (inr h) = h
if_none false o h = refl

-- too many words, or an option that is told twice
abbrev IsTooMuch : ℕ → Told → List (List ℕ) → Type 0
IsTooMuch most t words = (most < length words) ⊎ ((nat_le (length t.slots) 1 && (nat_le (length t.areas) 1 && nat_le (length t.table) 1)) ≡ false)

run_again : (order : Option (List ℕ)) (words : List (List ℕ)) (t more : Told) → IsTooMuch 65 t words → run_of order words (joined t more) ≡ None
run_again order [] t more lots = refl
run_again order (map ∷ scripts) t more (inl many) = if_none (is_cpus (length scripts)) (run_with order map scripts (joined t more)) (inl (is_many (length scripts) (omega (arith, many))))
run_again order (map ∷ scripts) t more (inr twice) = if_none (is_cpus (length scripts)) (run_with order map scripts (joined t more)) (inr (with_twice order map scripts t more twice))

files_again : (mode : Mode) (words : List (List ℕ)) (t more : Told) → IsTooMuch 66 t words → files_of mode words (joined t more) ≡ None
files_again Turns [] t more lots = refl
files_again Turns (order ∷ words) t more (inl many) = run_again (Some order) words t more (inl (omega (arith, many)))
files_again Turns (order ∷ words) t more (inr twice) = run_again (Some order) words t more (inr twice)
files_again Threads words t more (inl many) = run_again None words t more (inl (omega (arith, many)))
files_again Threads words t more (inr twice) = run_again None words t more (inr twice)

first_false : (a b : Bool) → (a && b) ≡ false → (a ≡ false) ⊎ (b ≡ false)
first_false true b h = inr h
first_false false b h = inl refl

longer : (xs ys : List (List ℕ)) → 66 < length xs → 66 < length (xs ++ ys)
longer xs ys h = omega (arith, h, length-append xs ys)

pub too_much : (mode : Mode) (t more : Told) → is_small t ≡ false → named_of mode (joined t more) ≡ None
too_much mode t more h =
    elim (first_false (nat_le (length t.plain) 66) (nat_le (length t.slots) 1 && (nat_le (length t.areas) 1 && nat_le (length t.table) 1)) h) [
      | inl many ↦ files_again mode (t.plain ++ more.plain) t more (inl (longer t.plain more.plain (grind (arith, nat_tests, many))))
      | inr twice ↦ files_again mode (t.plain ++ more.plain) t more (inr twice)
    ]

-- one word further
step_small : (mode : Mode) (t q : Told) (b : Bool) (left : Option Told) → is_small (joined t q) ≡ b →
    (option_map (joined q) left >>= (λ more. named_of mode (joined t more))) ≡ (if b then left >>= (λ more. named_of mode (joined (joined t q) more)) else None)
step_small mode t q true None e = refl
step_small mode t q true (Some more) e = ap (named_of mode) (sym (joined_twice t q more))
step_small mode t q false None e = refl
step_small mode t q false (Some more) e = ap (named_of mode) (sym (joined_twice t q more)) ∙ too_much mode (joined t q) more e

abbrev placed : Place → Told → Place × Told
placed place t = (place, t)

step_if : (mode : Mode) (place : Place) (t q : Told) (words : List (List ℕ)) (b : Bool) →
    (if b then told_by place words >>= (λ more. named_of mode (joined (joined t q) more)) else None)
    ≡ ((if b then Some (placed place (joined t q)) else None) >>= (λ next. named_after mode next.0 next.1 words))
unfolding named_after
step_if mode place t q words true = refl
step_if mode place t q words false = refl

step_part : (mode : Mode) (t : Told) (words : List (List ℕ)) (part : Option (Place × Told)) →
    ((part >>= (λ p. option_map (joined p.1) (told_by p.0 words))) >>= (λ more. named_of mode (joined t more)))
    ≡ ((part >>= told_after t) >>= (λ next. named_after mode next.0 next.1 words))
step_part mode t words None = refl
step_part mode t words (Some p) =
    step_small mode t p.1 (is_small (joined t p.1)) (told_by p.0 words) refl ∙ step_if mode p.0 t p.1 words (is_small (joined t p.1))

pub named_step : (mode : Mode) (place : Place) (t : Told) (word : List ℕ) (words : List (List ℕ)) →
    named_after mode place t (word ∷ words) ≡ (next_of place t word >>= (λ next. named_after mode next.0 next.1 words))
unfolding named_after told_by
named_step mode place t word words = step_part mode t words (part_of place word)

-- the same in a list of words, at an index
pub named_further : (mode : Mode) (place : Place) (t : Told) (words : List (String Global)) (i : ℕ) (word : String Global) → i < length words →
    named_after mode place t (bytes_of_words (drop i words))
    ≡ (next_of place t (string_bytes (get_or words i word)) >>= (λ next. named_after mode next.0 next.1 (bytes_of_words (drop (i + 1) words))))
named_further mode place t words i word h =
    at_drop_more (λ left. named_after mode place t (bytes_of_words left)) words i word h
    ∙ named_step mode place t (string_bytes (get_or words i word)) (bytes_of_words (drop (i + 1) words))

-- before the first word
pub named_before : (mode : Mode) (words : List (List ℕ)) → named_after mode Open nothing words ≡ named_as mode words
unfolding named_after
named_before mode words = refl

-- the loop over the words: a word that may not stand where it does, one that may, and the end
named_next : (mode : Mode) (place : Place) (t : Told) (words : List (String Global)) (i : ℕ) (word : String Global) (next : Option (Place × Told)) →
    i < length words → word ≡ get_or words i word → next ≡ next_of place t (string_bytes word) →
    named_after mode place t (bytes_of_words (drop i words)) ≡ named_after mode Open nothing (bytes_of_words words) →
    named_as mode (bytes_of_words words) ≡ (next >>= (λ n. named_after mode n.0 n.1 (bytes_of_words (drop (i + 1) words))))
named_next mode place t words i word next h is told_next kept =
    let after : Option (Place × Told) → Option Named = λ o. o >>= (λ n. named_after mode n.0 n.1 (bytes_of_words (drop (i + 1) words))) in
    sym (named_before mode (bytes_of_words words)) ∙ sym kept ∙ named_further mode place t words i word h
    ∙ ap (λ w. after (next_of place t (string_bytes w))) (sym is) ∙ ap after (sym told_next)

pub named_none : (mode : Mode) (place : Place) (t : Told) (words : List (String Global)) (i : ℕ) (word : String Global) (text : List ℕ) (next : Option SoFar) →
    i < length words → word ≡ get_or words i word → text ≡ string_bytes word → standing next ≡ next_of place t text →
    named_after mode place t (bytes_of_words (drop i words)) ≡ named_after mode Open nothing (bytes_of_words words) →
    next ≡ None → named_as mode (bytes_of_words words) ≡ None
named_none mode place t words i word text next h is same told_next kept none =
    named_next mode place t words i word None h is (sym (ap standing none) ∙ told_next ∙ ap (next_of place t) same) kept

pub named_some : (mode : Mode) (place : Place) (t : Told) (words : List (String Global)) (i : ℕ) (word : String Global) (text : List ℕ) (next : Option SoFar) (so_far : SoFar) →
    i < length words → word ≡ get_or words i word → text ≡ string_bytes word → standing next ≡ next_of place t text →
    named_after mode place t (bytes_of_words (drop i words)) ≡ named_after mode Open nothing (bytes_of_words words) →
    next ≡ Some so_far → named_after mode so_far.place (told so_far) (bytes_of_words (drop (i + 1) words)) ≡ named_after mode Open nothing (bytes_of_words words)
named_some mode place t words i word text next so_far h is same told_next kept some =
    sym (named_next mode place t words i word (standing (Some so_far)) h is (sym (ap standing some) ∙ told_next ∙ ap (next_of place t) same) kept)
    ∙ sym (named_before mode (bytes_of_words words))

pub named_end : (mode : Mode) (place : Place) (t : Told) (words : List (String Global)) (i : ℕ) → length words ≤ i →
    named_after mode place t (bytes_of_words (drop i words)) ≡ named_after mode Open nothing (bytes_of_words words) →
    names_of mode place t ≡ named_as mode (bytes_of_words words)
named_end mode place t words i h kept =
    sym (named_at_end mode place t) ∙ sym (ap (λ left. named_after mode place t (bytes_of_words left)) (drop_of_length-le words h)) ∙ kept ∙ named_before mode (bytes_of_words words)
