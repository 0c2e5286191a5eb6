-- Lemmas on mappings by their names.
use Rattle.std.proofs.Common.{◌≡◌, ℕ, zero, suc, ◌+◌, ◌<◌, List, [], ◌∷◌, true, false, not, Some, None, length, get_or, map, filter, position, find, is_some, refl, sym, ap, ◌∙◌, inl, inr, arith}
use Rattle.std.specs.List.{list_any, position_from}
use Rattle.std.specs.Str.{bytes_eq}
use Rattle.std.proofs.lemmas.Bool.{cases_Bool}
use Rattle.std.proofs.lemmas.Iterator.Adapters.{position_from-zero}
use Rattle.std.proofs.lemmas.List.Quantifiers.{position-Some}
use Rattle.guest_base.specs.declared.memory.Block.{Block}
use Rattle.event_core.specs.Holdings.{Mapping, same_block}
use Rattle.dma_map.specs.declared.kept.KeptMapping.{KeptMapping}
use Rattle.dma_map.specs.Kept.{kept_as}

-- ---- the mapping of a name

named-at : (ks : List KeptMapping) (name : List ℕ) (i : ℕ) (d : KeptMapping) → i < length ks → bytes_eq (get_or ks i d).name name ≡ true →
    ((j : ℕ) → j < i → bytes_eq (get_or ks j d).name name ≡ false) →
    find (λ (m : Mapping). bytes_eq m.name name) (map kept_as ks) ≡ Some (kept_as (get_or ks i d))
named-at [] name i d low here before = absurd (omega (arith, low))
named-at (k ∷ ks) name zero d low here before = rw here refl
named-at (k ∷ ks) name (suc i) d low here before =
    rw (before 0 (omega arith)) (named-at ks name i d (omega (arith, low)) here (λ j lower. before (suc j) (omega (arith, lower))))

-- it is the kept one at the place of the name
pub named-place : (ks : List KeptMapping) (name : List ℕ) (i : ℕ) (d : KeptMapping) → Some i ≡ position (λ (k : KeptMapping). bytes_eq k.name name) ks →
    find (λ (m : Mapping). bytes_eq m.name name) (map kept_as ks) ≡ Some (kept_as (get_or ks i d))
named-place ks name i d is =
    let facts = position-Some (λ (k : KeptMapping). bytes_eq k.name name) ks i d (sym is) in
    named-at ks name i d facts.0 facts.1 facts.2

unnamed-from : (ks : List KeptMapping) (name : List ℕ) (i : ℕ) → position_from (λ (k : KeptMapping). bytes_eq k.name name) i ks ≡ None →
    find (λ (m : Mapping). bytes_eq m.name name) (map kept_as ks) ≡ None
unnamed-from [] name i is = refl
unnamed-from (k ∷ ks) name i is =
    elim (cases_Bool (bytes_eq k.name name)) [
      | inl t ↦ absurd (grind (arith, t, is))
      | inr f ↦ rw f (unnamed-from ks name (i + 1) (rw f at is))
    ]

pub unnamed : (ks : List KeptMapping) (name : List ℕ) → None ≡ position (λ (k : KeptMapping). bytes_eq k.name name) ks →
    find (λ (m : Mapping). bytes_eq m.name name) (map kept_as ks) ≡ None
unnamed ks name is = unnamed-from ks name 0 (sym (position_from-zero (λ (k : KeptMapping). bytes_eq k.name name) ks) ∙ sym is)

-- what is dropped by its name is no longer kept
pub dropped : (ks : List KeptMapping) (name : List ℕ) →
    map kept_as (filter (λ (k : KeptMapping). not (bytes_eq k.name name)) ks)
    ≡ filter (λ (m : Mapping). not (bytes_eq m.name name)) (map kept_as ks)
dropped [] name = refl
dropped (k ∷ ks) name =
    elim (cases_Bool (bytes_eq k.name name)) [ inl t ↦ rw t (dropped ks name) | inr f ↦ rw f (ap (λ s. kept_as k ∷ s) (dropped ks name)) ]

-- ---- mappings of a block

any-from : (ks : List KeptMapping) (block : Block) (i : ℕ) →
    is_some (position_from (λ (k : KeptMapping). same_block k.live.block block) i ks)
    ≡ list_any (λ (m : Mapping). same_block m.block block) (map kept_as ks)
any-from [] block i = refl
any-from (k ∷ ks) block i =
    elim (cases_Bool (same_block k.live.block block)) [ inl t ↦ rw t refl | inr f ↦ rw f (any-from ks block (i + 1)) ]

pub any-place : (ks : List KeptMapping) (block : Block) →
    is_some (position (λ (k : KeptMapping). same_block k.live.block block) ks)
    ≡ list_any (λ (m : Mapping). same_block m.block block) (map kept_as ks)
any-place ks block =
    ap is_some (position_from-zero (λ (k : KeptMapping). same_block k.live.block block) ks) ∙ any-from ks block 0
