use Rattle.std.proofs.Common.{◌≡◌, ◌+◌, ◌<◌, ◌/◌, ℕ, Some, List, [], ◌∷◌, ◌++◌, length, get_or, refl, sym, ◌∙◌, ap, subst, inl, inr, arith}
use Rattle.std.specs.Prelude.{slice_get}
use Rattle.std.proofs.Math.Seq.{get_or-append_seam}
use Rattle.std.proofs.lemmas.Bool.{cases_lt}
use Rattle.std.proofs.lemmas.List.{get_or_append_left, length_push}
use Rattle.std.proofs.lemmas.Option.{slice_get_within, get_or_from_slice_get, slice_get-get_or}
use Rattle.io_areas.specs.Value.{AreaValue}
use Rattle.guest_boot.specs.Areas.{IsFirstArea}
use Rattle.guest_boot.proofs.place.areas_of.Goals as goal

-- one area more
at-push : (share : ℕ) (items : List AreaValue) (area : AreaValue) → ((n : ℕ) (a : AreaValue) → slice_get items n ≡ Some a → IsFirstArea share n a) → IsFirstArea share (length items) area → (n : ℕ) (a : AreaValue) → slice_get (items ++ area ∷ []) n ≡ Some a → IsFirstArea share n a
at-push share items area each here n a is =
    let within = slice_get_within (items ++ area ∷ []) n a is in
    let long = length_push items area in
    let got = get_or_from_slice_get (items ++ area ∷ []) n a a is in
    elim (cases_lt n (length items)) [
      | inl low ↦ each n a (slice_get-get_or items n a low ∙ ap Some (sym (get_or_append_left items (area ∷ []) a n low) ∙ got))
      | inr high ↦
          (let at : length items ≡ n = omega (arith, within, long, high) in
          let same : area ≡ a = sym (get_or-append_seam items area [] a) ∙ ap (λ k. get_or (items ++ area ∷ []) k a) at ∙ got in
          subst (λ k. IsFirstArea share k a) at (subst (IsFirstArea share (length items)) same here))
    ]

pub loop-number-preserved : goal.loop-number-preserved
loop-number-preserved c =
    let items = c.loop-number.areas.items in
    let area = c.in_ok-area.area in
    let share = c.args.layout.slots / c.args.layout.areas in
    let count = c.loop-number.invariant.count in
    record {
      count = ap length c.in_ok-push.ensures.items ∙ length_push items area ∙ ap (λ n. n + 1) count;
      each = λ n a is. at-push share items area c.loop-number.invariant.each
          (record { number_is = c.in_ok-area.ensures.number ∙ sym count; slots = c.in_ok-area.ensures.slots; moved = c.in_ok-area.ensures.entries }) n a
          (ap (λ xs. slice_get xs n) (sym c.in_ok-push.ensures.items) ∙ is);
    }
