use Rattle.std.proofs.Common.{◌≡◌, ℕ, List, length, Option, Some, None, refl, ap, ◌∙◌, sym, cond}
use Rattle.std.specs.Prelude.{Bool, true, false, ◌&&◌, nat_le, IfSome, IfNone}
use Rattle.std.specs.List.{list_all}
use Rattle.std.proofs.lemmas.Bool.{le-leb, leb-true}
use Rattle.std.proofs.lemmas.List.Sums.{AllPass-from_list_all, list_all-from_AllPass}
use Rattle.event_core.specs.Name.{IsName, name_character}
use Rattle.guest_script.specs.Arguments.{name_of}

chosen : (a b c : Bool) (word : List ℕ) → a ≡ true → b ≡ true → c ≡ true → cond ((a && b) && c) (Some word) None ≡ Some word
chosen a b c word p q r = rw (p, q, r) refl

not_chosen : (a b c : Bool) (word : List ℕ) → ((a ≡ true) → (b ≡ true) → (c ≡ true) → ⊥) → cond ((a && b) && c) (Some word) None ≡ None
not_chosen true true true word h = absurd (h refl refl refl)
not_chosen true true false word h = refl
not_chosen true false c word h = refl
not_chosen false b c word h = refl

pub name_is : (word : List ℕ) → IsName word → name_of word ≡ Some word
name_is word h = chosen (nat_le 1 (length word)) (nat_le (length word) 32) (list_all name_character word) word (le-leb _ _ h.some) (le-leb _ _ h.few) (list_all-from_AllPass name_character word h.each)

pub name_is_none : (word : List ℕ) → (IsName word → ⊥) → name_of word ≡ None
name_is_none word h = not_chosen (nat_le 1 (length word)) (nat_le (length word) 32) (list_all name_character word) word (λ p q r. h (record { some = leb-true _ _ p; few = leb-true _ _ q; each = AllPass-from_list_all name_character word r }))

-- what the name's constructor answers
pub name_answered : (word : List ℕ) (answer : Option (List ℕ)) → IfSome answer (λ name. (name ≡ word) × IsName word) → IfNone answer (IsName word → ⊥) → answer ≡ name_of word
name_answered word (Some name) some none = ap (λ n. Some n) some.0 ∙ sym (name_is word some.1)
name_answered word None some none = sym (name_is_none word none)
