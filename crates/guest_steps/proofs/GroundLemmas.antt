use Rattle.std.proofs.Common.{◌≡◌, ◌≢◌, ◌⊎◌, ℕ, ◌<◌, false, Option, None, Some, List, [], ◌∷◌, ◌++◌, refl, sym, ◌∙◌, ap, subst, inl, inr, arith, map, set, get_or, length, append-nil, slice_get}
use Rattle.std.specs.Prelude.{All, ◌==◌}
use Rattle.std.specs.Option.{option_map_or}
use Rattle.std.proofs.lemmas.Bool.{cases_eq, ne_eqb}
use Rattle.std.proofs.lemmas.List.{length-set, map-append}
use Rattle.std.proofs.lemmas.List.Elements.{All-nil, All-head, All-tail, All-map, filter-append}
use Rattle.std.proofs.lemmas.Option.{slice_get-get_or, slice_get_past, slice_get_within}
use Rattle.event_core.specs.declared.boot.Boot.{Boot}
use Rattle.event_core.specs.declared.entry.Place.{Place}
use Rattle.event_core.specs.declared.entry.Place.TheVariants.{Memory, Area, Own}
use Rattle.event_core.specs.Moved.{Moved, made_by}
use Rattle.event_core.proofs.RisingLemmas.{filter-at}
use Rattle.io_areas.specs.Value.{AreaValue}
use Rattle.memory_core.specs.UnderLock.{unmoved}
use Rattle.guest_steps.specs.Ground.{EachArea, FoundAgain, Ground, IsGroundOf, IsSameArea, there_in}
use Rattle.guest_steps.proofs.ListLemmas.{past-none, slice_get-set_other, slice_get-set_same}

-- What the places have.

pub there-of : (base : Ground) (n : ℕ) (area : AreaValue) → slice_get base.areas n ≡ Some area → there_in base (Area n) ≡ area.moved
there-of base n area at = ap (λ (o : Option AreaValue). option_map_or (λ (a : AreaValue). a.moved) o []) at

pub there-none : (base : Ground) (n : ℕ) → slice_get base.areas n ≡ None → there_in base (Area n) ≡ []
there-none base n at = ap (λ (o : Option AreaValue). option_map_or (λ (a : AreaValue). a.moved) o []) at

-- ---- each area with one that something holds of

pub each-set : (R : AreaValue → AreaValue → Type 0) → ((a : AreaValue) → R a a) → (areas : List AreaValue) (n : ℕ) (was now : AreaValue) → slice_get areas n ≡ Some was → R was now → EachArea R areas (set areas n now)
each-set R same areas n was now at step = record { count = length-set areas n now; each = λ k a got. by_place k a got (cases_eq k n) } where
  by_place : (k : ℕ) (a : AreaValue) → slice_get areas k ≡ Some a → (k ≡ n) ⊎ (k ≡ n → ⊥) → (is : AreaValue) × (slice_get (set areas n now) k ≡ Some is) × R a is
  by_place k a got (inl here) =
      let one : Some was ≡ Some a = sym at ∙ ap (slice_get areas) (sym here) ∙ got in
      (now, ap (slice_get (set areas n now)) here ∙ slice_get-set_same areas n was now at, (let is : was ≡ a = cc in subst (λ x. R x now) is step))
  by_place k a got (inr other) = (a, slice_get-set_other areas n k now other ∙ got, same a)

pub each-weaker : (R S : AreaValue → AreaValue → Type 0) → ((a b : AreaValue) → R a b → S a b) → (before after : List AreaValue) → EachArea R before after → EachArea S before after
each-weaker R S weaker before after e = record {
  count = e.count;
  each = λ n was at. let one = e.each n was at in (one.0, one.1, weaker was one.0 one.2);
}

-- which area it was
pub record Was (R : AreaValue → AreaValue → Type 0) (before : List AreaValue) (n : ℕ) (is : AreaValue) : Type 0 where
  pub was : AreaValue
  pub at : slice_get before n ≡ Some was
  pub step : R was is

pub each-back : (R : AreaValue → AreaValue → Type 0) (before after : List AreaValue) → EachArea R before after → (n : ℕ) (is : AreaValue) → slice_get after n ≡ Some is → Was R before n is
each-back R before after e n is got =
    let within : n < length before = subst (λ m. n < m) e.count (slice_get_within after n is got) in
    let was = get_or before n is in
    let at = slice_get-get_or before n is within in
    let one = e.each n was at in
    let both : Some one.0 ≡ Some is = sym one.1 ∙ got in
    let same : one.0 ≡ is = cc in
    record { was = was; at = at; step = subst (R was) same one.2 }

-- the places are of the same boot
pub base-same : (boot : Boot) (before after : Ground) → IsGroundOf boot before → after.memory.boot ≡ before.memory.boot → EachArea IsSameArea before.areas after.areas → IsGroundOf boot after
base-same boot before after g memory areas = record {
  shares = g.shares;
  memory = memory ∙ g.memory;
  count = areas.count ∙ g.count;
  each = λ n area got.
      let back = each-back IsSameArea before.areas after.areas areas n area got in
      let was = g.each n back.was back.at in
      let step = back.step in
      (step.0 ∙ was.0, step.1 ∙ was.1);
}

-- ---- entries of others

-- a list has grown by entries of others
pub record Grown (cpu : ℕ) (left found : List Moved) : Type 0 where
  pub rest : List Moved
  pub longer : found ≡ left ++ rest
  pub others : All (λ (m : Moved). m.entry.cpu.0 ≢ cpu) rest

still-grown : (cpu : ℕ) (left found : List Moved) → found ≡ left → Grown cpu left found
still-grown cpu left found same = record { rest = []; longer = same ∙ sym (append-nil left); others = All-nil (λ (m : Moved). m.entry.cpu.0 ≢ cpu) }

pub found-there : (cpu : ℕ) (left found : Ground) → FoundAgain cpu left found → (place : Place) → Grown cpu (there_in left place) (there_in found place)
found-there cpu left found f Memory = record {
  rest = map unmoved f.memory.rest;
  longer = ap (map unmoved) f.memory.longer ∙ map-append unmoved left.memory.entries f.memory.rest;
  others = All-map (λ (m : Moved). m.entry.cpu.0 ≢ cpu) unmoved f.memory.rest f.memory.others;
}
found-there cpu left found f (Area n) = by_area (slice_get left.areas n) refl where
  by_area : (was : Option AreaValue) → slice_get left.areas n ≡ was → Grown cpu (there_in left (Area n)) (there_in found (Area n))
  by_area None at =
      let past = past-none left.areas n at in
      let count = f.areas.count in
      still-grown cpu (there_in left (Area n)) (there_in found (Area n)) (there-none found n (slice_get_past found.areas n (omega (arith, past, count))) ∙ sym (there-none left n at))
  by_area (Some was) at =
      let one = f.areas.each n was at in
      let again = one.2 in
      record {
        rest = again.rest;
        longer = there-of found n one.0 one.1 ∙ again.longer ∙ ap (λ ms. ms ++ again.rest) (sym (there-of left n was at));
        others = again.others;
      }
found-there cpu left found f Own = still-grown cpu [] [] refl

pub none-made-by : (cpu : ℕ) (rest : List Moved) → All (λ (m : Moved). m.entry.cpu.0 ≢ cpu) rest → made_by cpu rest ≡ []
none-made-by cpu [] none = refl
none-made-by cpu (m ∷ ms) none =
    filter-at (λ (x : Moved). x.entry.cpu.0 == cpu) m ms false (ne_eqb m.entry.cpu.0 cpu (All-head (λ (x : Moved). x.entry.cpu.0 ≢ cpu) m ms none))
    ∙ none-made-by cpu ms (All-tail (λ (x : Moved). x.entry.cpu.0 ≢ cpu) m ms none)

-- they leave what the processor made
pub made-grown : (cpu : ℕ) (left found : List Moved) → Grown cpu left found → made_by cpu found ≡ made_by cpu left
made-grown cpu left found g =
    ap (made_by cpu) g.longer
    ∙ filter-append (λ (m : Moved). m.entry.cpu.0 == cpu) left g.rest
    ∙ ap (λ ms. made_by cpu left ++ ms) (none-made-by cpu g.rest g.others)
    ∙ append-nil (made_by cpu left)
