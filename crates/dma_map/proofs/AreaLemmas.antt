-- Lemmas on the areas of a pool.
use Rattle.std.proofs.Common.{ℕ, zero, suc, ◌≡◌, ◌+◌, ◌-◌, ◌*◌, ◌/◌, ◌<◌, ◌≤◌, ◌==◌, None, nat_lt, refl, inl, inr, arith}
use Rattle.std.proofs.Math.Nat.{div-add-mod, div-le_self, div-lt_iff_lt-mul, lt-mul-div-succ, mul-pos}
use Rattle.std.proofs.lemmas.Bool.{cases_Bool}
use Rattle.event_core.specs.declared.boot.Boot.{Boot}
use Rattle.event_core.specs.Refusals.{pool_refusal}
use Rattle.dma_map.specs.declared.pool.Layout.{Layout}
use Rattle.dma_map.specs.Pools.{HasLayout, IsLayout, LiesIn}

factor : (areas size : ℕ) → 0 < areas * size → 0 < size
factor areas zero some = absurd (omega (arith, some))
factor areas (suc size) some = omega arith

-- an area has a slot
pub some-slots : (layout : Layout) → IsLayout layout → 0 < layout.slots / layout.areas
some-slots layout is = factor layout.areas (layout.slots / layout.areas) (omega (arith, is.whole, is.some_slots))

few-slots : (layout : Layout) → IsLayout layout → layout.slots / layout.areas ≤ 131072
few-slots layout is = let few = div-le_self layout.slots layout.areas in omega (arith, few, is.few_slots)

-- where a range ends in the area in which it begins
pub lies-in : (layout : Layout) (off len : ℕ) → IsLayout layout → off + len ≤ 2048 * layout.slots →
    off / (2048 * (layout.slots / layout.areas)) ≡ (off + len - 1) / (2048 * (layout.slots / layout.areas)) →
    LiesIn layout (off / (2048 * (layout.slots / layout.areas))) off len
lies-in layout off len is ends same =
    let slots : ℕ = layout.slots / layout.areas in
    let some : 0 < slots = some-slots layout is in
    let size : ℕ = 2048 * slots in
    let positive : 0 < size = omega (arith, some) in
    let low = div-add-mod off size in
    let high = lt-mul-div-succ (off + len - 1) {b = size} positive in
    let whole : layout.areas * slots ≡ layout.slots = is.whole in
    let all : 0 < layout.areas * size = mul-pos is.some_areas positive in
    let last : off + len - 1 < layout.areas * size = omega (arith, ends, whole, all) in
    let few = (div-lt_iff_lt-mul {k = size} {x = off + len - 1} {y = layout.areas} positive).1 last in
    record {
      few = rw same few;
      low = omega (arith, low);
      high = rw same (omega (arith, high));
    }

-- a range that ends in the area in which it begins isn't refused
pub unrefused : (boot : Boot) (layout : Layout) (off len : ℕ) → HasLayout boot layout → off + len ≤ 2048 * layout.slots →
    off / (2048 * (layout.slots / layout.areas)) ≡ (off + len - 1) / (2048 * (layout.slots / layout.areas)) →
    pool_refusal boot off len ≡ None
unrefused boot layout off len has ends same =
    rw (has.slots, has.areas)
    (elim (cases_Bool (nat_lt (2048 * layout.slots) (off + len))) [
      | inl t ↦ absurd (grind (arith, t, ends))
      | inr f ↦ rw f
          (elim (cases_Bool (off / (2048 * (layout.slots / layout.areas)) == (off + len - 1) / (2048 * (layout.slots / layout.areas)))) [
            | inl t ↦ rw t refl
            | inr f ↦ absurd (grind (arith, f, same))
          ])
    ])
