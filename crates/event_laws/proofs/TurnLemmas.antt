use Rattle.std.proofs.Common.{◌≡◌, Option, None, Some, List, [], ◌∷◌, ◌++◌, refl, sym, ◌∙◌, ap, subst, inl, inr, append_assoc, append-nil}
use Rattle.std.specs.List.{AllByRecursion}
use Rattle.guest_base.specs.declared.memory.Page.{Page}
use Rattle.event_core.specs.declared.module_call.ModuleCall.{ModuleCall}
use Rattle.event_core.specs.Boot.{InTurn}

-- Items that are worked on one after another.

-- what a part of the work on an item is
abbrev pub Parts : Type 0 → Type 1
Parts Item = List ModuleCall → Item → List ModuleCall → Option Page → Type 0

pub all-map : {A : Type 0} (P Q : A → Type 0) → ((x : A) → P x → Q x) → (xs : List A) → AllByRecursion P xs → AllByRecursion Q xs
all-map P Q each [] all = tt
all-map P Q each (x ∷ xs) all = (each x all.0, all-map P Q each xs all.1)

-- the work on items and on items behind them
pub record TurnSplit {Item : Type 0} (Part : Parts Item) (done : List ModuleCall) (xs ys : List Item) (calls : List ModuleCall) : Type 0 where
  pub first : List ModuleCall
  pub second : List ModuleCall
  pub is : calls ≡ first ++ second
  pub left : InTurn Part done xs first None
  pub right : InTurn Part (done ++ first) ys second None

pub turn-split : {Item : Type 0} (Part : Parts Item) (done : List ModuleCall) (xs ys : List Item) (calls : List ModuleCall) → InTurn Part done (xs ++ ys) calls None → TurnSplit Part done xs ys calls
turn-split Part done [] ys calls turn =
    record { first = []; second = calls; is = refl; left = (refl, refl); right = subst (λ m. InTurn Part m ys calls None) (sym (append-nil done)) turn }
turn-split Part done (x ∷ xs) ys calls (inl stopped) = let no : None ≡ Some stopped.0 = stopped.2 in cc
turn-split Part done (x ∷ xs) ys calls (inr (now, later, is, part, rest)) =
    let s = turn-split Part (done ++ now) xs ys later rest in
    record {
      first = now ++ s.first;
      second = s.second;
      is = is ∙ ap (λ m. now ++ m) s.is ∙ sym (append_assoc now s.first s.second);
      left = inr (now, s.first, refl, part, s.left);
      right = subst (λ m. InTurn Part m ys s.second None) (append_assoc done now s.first) s.right;
    }
