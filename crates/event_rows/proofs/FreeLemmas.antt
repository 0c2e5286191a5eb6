use Rattle.std.proofs.Common.{◌≡◌, Bool, true, false, ◌&&◌, Option, None, Some, refl, cond}
use Rattle.guest_base.specs.declared.memory.Block.{Block}

-- Whether a page is free, in a guest of one block or of two, by whether it lies in each.

-- what holds of the block that a page lies in
abbrev pub in_found : (Block → Bool) → Option Block → Bool
in_found f found = elim found as (λ _. Bool) [ None ↦ false | Some block ↦ f block ]

pub free_one : (f : Block → Bool) (g : Bool → Bool) (block : Block) (inside : Bool) → f block ≡ g inside → in_found f (cond inside (Some block) None) ≡ (inside && g true)
free_one f g block true h = h
free_one f g block false h = refl

pub free_two : (f : Block → Bool) (g k : Bool → Bool → Bool) (block next : Block) (inside behind : Bool) → f block ≡ g inside behind → f next ≡ k inside behind → in_found f (cond inside (Some block) (cond behind (Some next) None)) ≡ cond inside (g true behind) (behind && k false true)
free_two f g k block next true behind h l = h
free_two f g k block next false true h l = l
free_two f g k block next false false h l = refl
