use Rattle.std.proofs.Common.{◌≡◌, ℕ, ◌+◌, ◌*◌, ◌%◌, ◌^◌, ◌<◌, ◌≤◌, Bool, true, false, ◌&&◌, None, Some, List, [], ◌∷◌, refl, sym, ◌∙◌, ap, inl, inr, arith, cond, ◌==◌, eqb-true, filter, nat_le}
use Rattle.std.specs.Prelude.{◌||◌, All, if◌then◌else◌}
use Rattle.std.specs.List.{list_any}
use Rattle.std.proofs.lemmas.Bool.{cases_Bool}
use Rattle.std.proofs.lemmas.Bool.Decides.{nat_tests}
use Rattle.std.proofs.lemmas.List.Elements.{All-tail}
use Rattle.std.proofs.lemmas.List.Folds.{list_any_none}
use Rattle.guest_base.specs.declared.memory.PageState.TheVariants.{Pending}
use Rattle.event_core.specs.declared.boot.Descriptor.{Descriptor}
use Rattle.event_core.specs.Map.{is_ram, is_unaccepted, holds_page, first_state, IsDescriptor}
use Rattle.event_core.specs.Stub.{is_short, holds_unit}

-- ---- RAM lies in memory

no_page : (d : Descriptor) (page : ℕ) → IsDescriptor d → 2 ^ 28 ≤ page → is_ram d ≡ true → holds_page page d ≡ false
no_page d page is high ram = let below : d.start + 4096 * d.pages ≤ 2 ^ 40 = rw ram at is.below in grind (arith, nat_tests)

no_ram : (d : Descriptor) (page : ℕ) → IsDescriptor d → 2 ^ 28 ≤ page → (is_ram d && holds_page page d) ≡ false
no_ram d page is high = elim (cases_Bool (is_ram d)) [ inl t ↦ rw t (no_page d page is high t) | inr f ↦ rw f refl ]

no_unaccepted : (d : Descriptor) (page : ℕ) → IsDescriptor d → 2 ^ 28 ≤ page → (is_unaccepted d && holds_page page d) ≡ false
no_unaccepted d page is high = elim (cases_Bool (is_unaccepted d)) [
  | inl t ↦ (let e : d.kind ≡ 15 = eqb-true d.kind 15 t in let ram : is_ram d ≡ true = ap (λ k. (nat_le 1 k && nat_le k 4) || ((k == 7) || (k == 15))) e in rw t (no_page d page is high ram))
  | inr f ↦ rw f refl
]

-- a page behind all memory has no state
pub first_none : (map : List Descriptor) (page : ℕ) → All IsDescriptor map → 2 ^ 28 ≤ page → first_state map page ≡ None
first_none map page each high =
    rw (list_any_none (λ (d : Descriptor). is_unaccepted d && holds_page page d) map (λ k d lt. no_unaccepted _ page (each k d lt) high))
    (rw (list_any_none (λ (d : Descriptor). is_ram d && holds_page page d) map (λ k d lt. no_ram _ page (each k d lt) high)) refl)

-- ---- the pages of an unaccepted unit

-- the unit's page is the descriptor's
page_held : (at page : ℕ) (d : Descriptor) → d.start % 4096 ≡ 0 → holds_unit at d ≡ true → at ≤ 4096 * page → 4096 * page < at + 2097152 → at % 4096 ≡ 0 → holds_page page d ≡ true
page_held at page d aligned holds low high even = grind (arith, nat_tests)

abbrev marks : ℕ → Descriptor → Bool
marks at d = if is_short d then false else holds_unit at d

mark_holds : (at : ℕ) (d : Descriptor) → marks at d ≡ true → holds_unit at d ≡ true
mark_holds at d h = elim (cases_Bool (is_short d)) [ inl t ↦ (let no : false ≡ true = sym (ap (λ b. cond b false (holds_unit at d)) t) ∙ h in cc) | inr f ↦ sym (ap (λ b. cond b false (holds_unit at d)) f) ∙ h ]

-- a unit that lies wholly in an unaccepted descriptor: each of its pages is an unaccepted descriptor's
pub any_pending : (at page : ℕ) (map : List Descriptor) → All IsDescriptor map → list_any (λ d. (if is_short d then false else holds_unit at d)) (filter is_unaccepted map) ≡ true → at ≤ 4096 * page → 4096 * page < at + 2097152 → at % 4096 ≡ 0 → list_any (λ d. is_unaccepted d && holds_page page d) map ≡ true
any_pending at page [] each h low high even = h
any_pending at page (d ∷ ds) each h low high even =
    let later = λ (g : list_any (marks at) (filter is_unaccepted ds) ≡ true). any_pending at page ds (All-tail IsDescriptor d ds each) g low high even in
    elim (cases_Bool (is_unaccepted d)) [
      | inr f ↦ (let g : list_any (marks at) (filter is_unaccepted ds) ≡ true = rw f at h in rw f (later g))
      | inl t ↦
          (let g : (marks at d || list_any (marks at) (filter is_unaccepted ds)) ≡ true = rw t at h in
          elim (cases_Bool (marks at d)) [
            | inl m ↦ (let held = page_held at page d (each 0 d (omega arith)).aligned (mark_holds at d m) low high even in rw (t, held) refl)
            | inr n ↦ rw t (elim (cases_Bool (holds_page page d)) [ inl p ↦ rw p refl | inr q ↦ rw q (later (rw n at g)) ])
          ])
    ]

-- its state is Pending
pub pending_first : (map : List Descriptor) (page : ℕ) → list_any (λ d. is_unaccepted d && holds_page page d) map ≡ true → first_state map page ≡ Some Pending
pending_first map page h = rw h refl
