use Rattle.std.proofs.Common.{◌≡◌, ℕ, zero, suc, ◌<◌, Bool, true, false, ◌&&◌, Option, None, Some, List, [], ◌∷◌, ◌++◌, refl, ◌∙◌, ap, inl, arith, length, subst}
use Rattle.std.specs.Prelude.{All, slice_get, nat_lt}
use Rattle.std.specs.List.{list_all}
use Rattle.std.proofs.lemmas.Bool.Decides.{nat_tests}
use Rattle.std.proofs.lemmas.List.Elements.{All-nil, All-cons}
use Rattle.event_core.specs.declared.boot.Boot.{Boot}
use Rattle.event_core.specs.declared.command.Command.{Command}
use Rattle.event_core.specs.declared.entry.Entry.{Entry}
use Rattle.event_core.specs.declared.reply.Found.{Found}
use Rattle.event_core.specs.declared.reply.Reply.{Reply}
use Rattle.event_core.specs.declared.reply.Reply.TheVariants as reply
use Rattle.event_core.specs.Next.{Step}
use Rattle.event_core.specs.Moved.{Moved, made_by}
use Rattle.event_core.specs.Own.{replied}
use Rattle.event_core.specs.Legal.{Follows, LegalAfter, with_bytes, with_moved, ComesBefore}

-- A history written out is legal entry by entry.

both : (b c : Bool) → (b && c) ≡ true → (b ≡ true) × (c ≡ true)
both true c h = (refl, h)
both false c h = cc

less : (a b : ℕ) → nat_lt a b ≡ true → a < b
less a b h = grind (arith, nat_tests, h)

-- the entry's stamp is greater than each before it
abbrev pub is_last : List Moved → Entry → Bool
is_last history entry = list_all (λ (m : Moved). nat_lt m.entry.stamp entry.stamp) history

pub last-comes : (history : List Moved) (entry : Entry) → is_last history entry ≡ true → All (λ (m : Moved). ComesBefore m.entry entry) history
last-comes [] entry h = All-nil (λ (m : Moved). ComesBefore m.entry entry)
last-comes (m ∷ history) entry h =
    All-cons (λ (m : Moved). ComesBefore m.entry entry) m history (inl (less m.entry.stamp entry.stamp (both _ _ h).0)) (last-comes history entry (both _ _ h).1)

-- entries that follow one another, each later than those before it
abbrev pub InOrder : Boot → List (List Command) → List Moved → List Entry → Type 0
InOrder boot scripts history [] = Unit {0}
InOrder boot scripts history (entry ∷ entries) =
    Follows boot scripts history entry × (is_last history entry ≡ true) × InOrder boot scripts (history ++ with_bytes boot scripts history entry ∷ []) entries

pub legal-rows : (boot : Boot) (scripts : List (List Command)) (history : List Moved) (entries : List Entry) → InOrder boot scripts history entries → LegalAfter boot scripts history entries
legal-rows boot scripts history [] rows = tt
legal-rows boot scripts history (entry ∷ entries) rows =
    (rows.0, last-comes history entry rows.1, legal-rows boot scripts (history ++ with_bytes boot scripts history entry ∷ []) entries rows.2)

-- the one script's commands have their replies
pub one-replied : (boot : Boot) (script : List Command) (entries : List Entry) → replied (made_by 0 (with_moved boot (script ∷ []) entries)) ≡ length script → (cpu : ℕ) (s : List Command) → slice_get (script ∷ []) cpu ≡ Some s → replied (made_by cpu (with_moved boot (script ∷ []) entries)) ≡ length s
one-replied boot script entries all zero s h = (let same : script ≡ s = cc in all ∙ ap (λ (t : List Command). length t) same)
one-replied boot script entries all (suc cpu) s h = cc

pub two-replied : (boot : Boot) (a b : List Command) (entries : List Entry) → replied (made_by 0 (with_moved boot (a ∷ b ∷ []) entries)) ≡ length a → replied (made_by 1 (with_moved boot (a ∷ b ∷ []) entries)) ≡ length b → (cpu : ℕ) (s : List Command) → slice_get (a ∷ b ∷ []) cpu ≡ Some s → replied (made_by cpu (with_moved boot (a ∷ b ∷ []) entries)) ≡ length s
two-replied boot a b entries first second zero s h = (let same : a ≡ s = cc in first ∙ ap (λ (t : List Command). length t) same)
two-replied boot a b entries first second (suc zero) s h = (let same : b ≡ s = cc in second ∙ ap (λ (t : List Command). length t) same)
two-replied boot a b entries first second (suc (suc cpu)) s h = cc

-- what a step tells, as values that can be told apart
abbrev pub told_by : Option Step → Option Reply
told_by None = None
told_by (Some step) = step.reply

abbrev pub bytes_in : Option Reply → List ℕ
bytes_in (Some (reply.Hex bytes)) = bytes
bytes_in _ = []

abbrev pub found_in : Option Reply → Option Found
found_in (Some (reply.Loaded bytes after)) = after
found_in _ = None

abbrev pub count_in : Option Reply → ℕ
count_in (Some (reply.Count count)) = count
count_in _ = 0

pub some-same : {A : Type 0} (a b : A) → Some a ≡ Some b → a ≡ b
some-same a b h = cc

-- where there is a value this holds of it
abbrev pub OfSome : {A : Type 0} → (A → Type 0) → Option A → Type 0
OfSome P None = Unit {0}
OfSome P (Some a) = P a

pub of_some : {A : Type 0} (P : A → Type 0) (held : Option A) (a : A) → OfSome P held → held ≡ Some a → P a
of_some P held a p h = subst (OfSome P) h p
