-- The place of the pool among the ranges of RAM.
use Rattle.std.proofs.Common.{◌≡◌, ◌≢◌, ℕ, ◌+◌, ◌-◌, ◌/◌, ◌<◌, ◌≤◌, Bool, true, false, Option, None, Some, List, [], ◌∷◌, refl, sym, ◌∙◌, ap, subst, inl, inr, arith, cond, find, nat_le, ◌&&◌}
use Rattle.std.specs.Prelude.{◌||◌, is_some}
use Rattle.std.specs.List.{All, AllPairs, list_any}
use Rattle.std.specs.Option.{option_map}
use Rattle.std.proofs.lemmas.Bool.{cases_Bool, cases_lt, leb-true, le-leb}
use Rattle.std.proofs.lemmas.List.Elements.{All-head, All-tail}
use Rattle.guest_base.specs.Ranges.{in_range}
use Rattle.guest_base.proofs.RangeLemmas.{in_range-intro, in_range-elim}
use Rattle.guest_base.specs.declared.memory.Pages.{Pages}
use Rattle.guest_base.specs.declared.memory.PageRun.{PageRun}
use Rattle.guest_base.specs.declared.memory.PageState.TheVariants.{Pending, Accepted}
use Rattle.event_core.specs.declared.boot.Boot.{Boot}
use Rattle.event_core.specs.declared.boot.Descriptor.{Descriptor}
use Rattle.event_core.specs.Boot.{IsPoolPlace}
use Rattle.event_core.specs.Cut.{pages_end, ram_ranges}
use Rattle.event_core.specs.Given.{first_by}
use Rattle.event_core.specs.Map.{unaccepted_page, ram_page}
use Rattle.event_core.specs.Runs.{AreMaximalRuns, GoesBefore, run_holds, state_in}
use Rattle.event_core.specs.Table.{Bits, marks_page}
use Rattle.event_core.proofs.EarlyLemmas.{in_pages, or-cases, or-left, or-right}
use Rattle.event_laws.proofs.RiseLemmas.{zero-on}
use Rattle.block_laws.proofs.CutPages.{Gapped, gapped-low, joined-holds, ram-gapped}
use Rattle.guest_boot.specs.Placing.{HasNoRoom, place_in}
use Rattle.guest_base.specs.Requests.{raised_slots}

-- ---- the pages of ranges

-- a page of one of the ranges
abbrev pub in_ranges : ℕ → List Pages → Bool
in_ranges page ranges = list_any (in_pages page) ranges

some-step : (b : Bool) (run : PageRun) (found : Option PageRun) → is_some (option_map (λ (r : PageRun). r.state) (cond b (Some run) found)) ≡ (b || is_some (option_map (λ (r : PageRun). r.state) found))
some-step true run found = refl
some-step false run found = refl

-- the pages of the ranges are those that have a state
ranges-ram : (page : ℕ) (runs : List PageRun) → in_ranges page (ram_ranges runs) ≡ is_some (state_in runs page)
ranges-ram page [] = refl
ranges-ram page (run ∷ runs) =
    joined-holds page run.pages (ram_ranges runs)
    ∙ ap (λ b. in_pages page run.pages || b) (ranges-ram page runs)
    ∙ sym (some-step (run_holds page run) run (find (run_holds page) runs))

has-some : {A : Type 0} (o : Option A) → o ≢ None → is_some o ≡ true
has-some None not = absurd (not refl)
has-some (Some x) not = refl

some-has : {A : Type 0} (o : Option A) → is_some o ≡ true → o ≢ None
some-has None h = cc
some-has (Some x) h = λ none. cc

-- ---- the first range that has room

-- the place where a range stands first
abbrev place_behind : Bool → ℕ → Pages → List Pages → Option Pages
place_behind b size r rs = cond b (Some (record { first = r.first; count = size })) (place_in size rs)

place-step : (size : ℕ) (r : Pages) (rs : List Pages) → place_in size (r ∷ rs) ≡ place_behind (nat_le size r.count) size r rs
place-step size r rs = by_bool (nat_le size r.count) where
  by_bool : (b : Bool) → option_map (λ (range : Pages). record { first = range.first; count = size }) (cond b (Some r) (find (λ (range : Pages). nat_le size range.count) rs)) ≡ place_behind b size r rs
  by_bool true = refl
  by_bool false = refl

-- the place has the size, and its pages are the ranges'
pub record IsPlaceIn (size : ℕ) (ranges : List Pages) (pool : Pages) : Type 0 where
  pub pages : pool.count ≡ size
  pub room : (page : ℕ) → in_range pool.first size page ≡ true → in_ranges page ranges ≡ true

place-here : (size : ℕ) (r : Pages) (rs : List Pages) → nat_le size r.count ≡ true → IsPlaceIn size (r ∷ rs) (record { first = r.first; count = size })
place-here size r rs fits =
    let enough : size ≤ r.count = leb-true size r.count fits in
    record {
      pages = refl;
      room = λ page h. let two = in_range-elim r.first size page h in let high = two.1 in or-left (in_pages page r) (in_ranges page rs) (in_range-intro r.first r.count page two.0 (omega (arith, high, enough)));
    }

pub place-room : (size : ℕ) (ranges : List Pages) (pool : Pages) → place_in size ranges ≡ Some pool → IsPlaceIn size ranges pool
place-room size [] pool is = cc
place-room size (r ∷ rs) pool is =
    elim (cases_Bool (nat_le size r.count)) [
      | inl fits ↦
          (let at : Some (record { first = r.first; count = size }) ≡ Some pool = sym (place-step size r rs ∙ ap (λ b. place_behind b size r rs) fits) ∙ is in
          let same : record { first = r.first; count = size } ≡ pool = cc in
          subst (IsPlaceIn size (r ∷ rs)) same (place-here size r rs fits))
      | inr short ↦
          (let rest = place-room size rs pool (sym (place-step size r rs ∙ ap (λ b. place_behind b size r rs) short) ∙ is) in
          record { pages = rest.pages; room = λ page h. or-right (in_pages page r) (in_ranges page rs) (rest.room page h) })
    ]

-- it ends where the ranges may end
pub place-end : (size end : ℕ) (ranges : List Pages) (pool : Pages) → All (λ (r : Pages). pages_end r ≤ end) ranges → place_in size ranges ≡ Some pool → pages_end pool ≤ end
place-end size end [] pool low is = cc
place-end size end (r ∷ rs) pool low is =
    elim (cases_Bool (nat_le size r.count)) [
      | inl fits ↦
          (let at : Some (record { first = r.first; count = size }) ≡ Some pool = sym (place-step size r rs ∙ ap (λ b. place_behind b size r rs) fits) ∙ is in
          let same : record { first = r.first; count = size } ≡ pool = cc in
          let enough : size ≤ r.count = leb-true size r.count fits in
          let here : pages_end r ≤ end = All-head (λ (s : Pages). pages_end s ≤ end) r rs low in
          subst (λ (p : Pages). pages_end p ≤ end) same (omega (arith, enough, here)))
      | inr short ↦ place-end size end rs pool (All-tail (λ (s : Pages). pages_end s ≤ end) r rs low) (sym (place-step size r rs ∙ ap (λ b. place_behind b size r rs) short) ∙ is)
    ]

-- all pages from one on, this many, are the ranges'
abbrev pub AreIn : List Pages → ℕ → ℕ → Type 0
AreIn ranges first size = (page : ℕ) → in_range first size page ≡ true → in_ranges page ranges ≡ true

-- pages of the ranges whose first is one of a range all lie in that range, since behind it there is a gap
in-first : (size first : ℕ) (r : Pages) (rs : List Pages) → Gapped (pages_end r + 1) rs → AreIn (r ∷ rs) first size → in_pages first r ≡ true → first + size ≤ pages_end r
in-first size first r rs gapped are here =
    let high = (in_range-elim r.first r.count first here).1 in
    elim (cases_lt (pages_end r) (first + size)) [
      | inr within ↦ within
      | inl past ↦
          (let low : first ≤ pages_end r = omega (arith, high) in
          let there = are (pages_end r) (in_range-intro first size (pages_end r) low past) in
          elim (or-cases (in_pages (pages_end r) r) (in_ranges (pages_end r) rs) there) [
            | inl own ↦ (let less = (in_range-elim r.first r.count (pages_end r) own).1 in absurd (omega (arith, less)))
            | inr other ↦ (let more = gapped-low (pages_end r + 1) (pages_end r) rs gapped other in absurd (omega (arith, more)))
          ])
    ]

-- pages of the ranges that begin behind the first range are those of the others
behind-first : (size first : ℕ) (r : Pages) (rs : List Pages) → AreIn (r ∷ rs) first size → pages_end r < first → AreIn rs first size
behind-first size first r rs are past page h =
    let low = (in_range-elim first size page h).0 in
    elim (or-cases (in_pages page r) (in_ranges page rs) (are page h)) [
      | inl own ↦ (let high = (in_range-elim r.first r.count page own).1 in absurd (omega (arith, high, low, past)))
      | inr other ↦ other
    ]

-- where pages are the ranges', there is a place for as many, and it isn't higher
pub place-low : (size first from : ℕ) (ranges : List Pages) → Gapped from ranges → 0 < size → AreIn ranges first size → (pool : Pages) × (place_in size ranges ≡ Some pool) × (pool.first ≤ first)
place-low size first from [] gapped some are = let no : false ≡ true = are first (in_range-intro first size first (omega arith) (omega (arith, some))) in cc
place-low size first from (r ∷ rs) gapped some are =
    let begin = or-cases (in_pages first r) (in_ranges first rs) (are first (in_range-intro first size first (omega arith) (omega (arith, some)))) in
    elim (cases_Bool (nat_le size r.count)) [
      | inl fits ↦ (
        record { first = r.first; count = size },
        place-step size r rs ∙ ap (λ b. place_behind b size r rs) fits,
        elim begin [
          | inl own ↦ (in_range-elim r.first r.count first own).0
          | inr other ↦ (let low = gapped-low (pages_end r + 1) first rs gapped.1 other in omega (arith, low))
        ],
      )
      | inr short ↦
          elim begin [
            | inl own ↦
                (let within = in-first size first r rs gapped.1 are own in
                let low = (in_range-elim r.first r.count first own).0 in
                let fits : nat_le size r.count ≡ true = le-leb size r.count (omega (arith, within, low)) in
                let no : true ≡ false = sym fits ∙ short in
                cc)
            | inr other ↦
                (let low = gapped-low (pages_end r + 1) first rs gapped.1 other in
                let rest = place-low size first (pages_end r + 1) rs gapped.1 some (behind-first size first r rs are (omega (arith, low))) in
                (rest.0, place-step size r rs ∙ ap (λ b. place_behind b size r rs) short ∙ rest.1, rest.2))
          ]
    ]

-- ---- of RAM

-- the lowest place of its size in RAM
pub place-is : (boot : Boot) (ram : List PageRun) (size : ℕ) (pool : Pages) → boot.ram ≡ ram → AllPairs GoesBefore ram → 0 < size → place_in size (ram_ranges ram) ≡ Some pool → IsPoolPlace boot size pool
place-is boot ram size pool same rise some is =
    let at = place-room size (ram_ranges ram) pool is in
    record {
      pages = at.pages;
      room = λ page h. subst (λ runs. state_in runs page ≢ None) (sym same) (some-has (state_in ram page) (sym (ranges-ram page ram) ∙ at.room page h));
      lowest = λ first low room.
          let found = place-low size first 0 (ram_ranges ram) (ram-gapped 0 ram (zero-on ram) rise) some (λ page h. ranges-ram page ram ∙ has-some (state_in ram page) (subst (λ runs. state_in runs page ≢ None) same (room page h))) in
          let both : Some found.0 ≡ Some pool = sym found.1 ∙ is in
          let one : found.0 ≡ pool = cc in
          let less = found.2 in
          let first_is : found.0.first ≡ pool.first = ap (λ (p : Pages). p.first) one in
          omega (arith, less, first_is, low);
    }

first-some : (b c : Bool) → c ≡ true → cond b (Some Pending) (cond c (Some Accepted) None) ≢ None
first-some true c h = λ none. cc
first-some false true h = λ none. cc
first-some false false h = cc

-- RAM has a first state
ram-some : (map : List Descriptor) (table : Option Bits) (page : ℕ) → ram_page map page ≡ true → first_by map table page ≢ None
ram-some map None page h = first-some (unaccepted_page map page) (ram_page map page) h
ram-some map (Some t) page h = first-some (unaccepted_page map page && marks_page t page) (ram_page map page) h

-- where there is no place, no range of RAM has room
pub place-none : (map : List Descriptor) (table : Option Bits) (ram : List PageRun) (slots areas : ℕ) → AreMaximalRuns (first_by map table) ram → slots ≢ 0 → 0 < raised_slots slots areas / 2 → place_in (raised_slots slots areas / 2) (ram_ranges ram) ≡ None → HasNoRoom map slots areas
place-none map table ram slots areas maximal asked some none = record {
  asked = asked;
  nowhere = λ first are.
      let found = place-low (raised_slots slots areas / 2) first 0 (ram_ranges ram) (ram-gapped 0 ram (zero-on ram) maximal.rise) some
      (λ page h. ranges-ram page ram ∙ has-some (state_in ram page) (λ no. ram-some map table page (are page h) (sym (maximal.each page) ∙ no))) in
      let no : Some found.0 ≡ None = sym found.1 ∙ none in
      cc;
}
