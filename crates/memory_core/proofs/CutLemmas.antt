-- The cut of RAM into blocks: the form of its blocks, and that a page lies in one of them at most.
use Rattle.std.proofs.Common.{◌≡◌, ◌≢◌, ℕ, zero, suc, ◌+◌, ◌-◌, ◌%◌, ◌^◌, ◌<◌, ◌≤◌, Bool, true, false, Option, None, Some, List, [], ◌∷◌, length, get_or, refl, sym, ◌∙◌, ap, subst, inl, inr, cond, arith}
use Rattle.std.specs.Prelude.{Contains, find}
use Rattle.std.specs.List.{AllByRecursion, flat_map}
use Rattle.std.proofs.lemmas.Bool.{cases_Bool}
use Rattle.std.proofs.lemmas.Nat.{pow_pos}
use Rattle.std.proofs.lemmas.List.Elements.{All-contains, All-contains_itself, Contains-get_or, All-from_recursion, recursion_from_All}
use Rattle.guest_base.specs.declared.limits.TheConstants.{MAX_ORDER, PAGE_END}
use Rattle.guest_base.specs.declared.memory.Block.{Block}
use Rattle.guest_base.specs.declared.memory.Pages.{Pages}
use Rattle.guest_base.specs.declared.memory.PageState.{PageState}
use Rattle.guest_base.proofs.RangeLemmas.{in_range-intro, in_range-elim, in_range-past}
use Rattle.event_core.specs.declared.boot.Boot.{Boot}
use Rattle.event_core.specs.Absent.{in_block}
use Rattle.event_core.specs.Cut.{ram_ranges, without_pool, blocks_of, cut}
use Rattle.event_core.specs.Runs.{state_in}
use Rattle.event_core.proofs.BootFacts.{ram-low}
use Rattle.event_core.proofs.CutFacts.{blocks-orders}
use Rattle.event_laws.specs.Coming.{BootMade}
use Rattle.event_laws.proofs.RiseLemmas.{RiseTo, rise-above, cut-rises}
use Rattle.block_laws.proofs.CutPages.{CutBlock, cut-pages}
use Rattle.block_laws.proofs.ListFacts.{all-flat, found-one}
use Rattle.block_laws.proofs.PageFacts.{IsPrivate}

-- the form of a block of the cut
pub record CutForm (block : Block) : Type 0 where
  pub order : block.order ≤ MAX_ORDER
  pub aligned : block.first % 2 ^ block.order ≡ 0
  pub end : block.first + 2 ^ block.order ≤ PAGE_END

-- ---- lists

-- what holds of each item of a list holds of one in it
all-has : {A : Type 0} (P : A → Type 0) (xs : List A) (x : A) → AllByRecursion P xs → Contains xs x → P x
all-has P xs x all has = All-contains P xs x (All-from_recursion P xs all) has

all-each : {A : Type 0} (P : A → Type 0) → ((x : A) → P x) → (xs : List A) → AllByRecursion P xs
all-each P each [] = tt
all-each P each (x ∷ xs) = (each x, all-each P each xs)

-- what is found stands in the list and passes
pub found-in : {A : Type 0} (test : A → Bool) (xs : List A) (x : A) → find test xs ≡ Some x → Contains xs x × (test x ≡ true)
found-in test xs x is = found-one (Contains xs) test xs x (recursion_from_All (Contains xs) xs (All-contains_itself xs)) is

-- where nothing is found no item passes
pub found-none : {A : Type 0} (test : A → Bool) (xs : List A) (x : A) → find test xs ≡ None → Contains xs x → test x ≡ false
found-none test xs x none has = all-has (λ y. test y ≡ false) xs x (each test xs none) has where
  each : {A : Type 0} (test : A → Bool) (xs : List A) → find test xs ≡ None → AllByRecursion (λ y. test y ≡ false) xs
  each test [] none = tt
  each test (y ∷ ys) none =
      elim (cases_Bool (test y)) [
        | inl t ↦ (let some : find test (y ∷ ys) ≡ Some y = ap (λ (b : Bool). cond b (Some y) (find test ys)) t in let no : None ≡ Some y = sym none ∙ some in cc)
        | inr f ↦ (f, each test ys (sym (ap (λ (b : Bool). cond b (Some y) (find test ys)) f) ∙ none))
      ]

-- and where no item passes nothing is found
pub find-none : {A : Type 0} (test : A → Bool) (xs : List A) → ((x : A) → Contains xs x → test x ≡ false) → find test xs ≡ None
find-none test xs none = by_each test xs (recursion_from_All (λ y. test y ≡ false) xs (λ k d within. none (get_or xs k d) (Contains-get_or xs k d within))) where
  by_each : {A : Type 0} (test : A → Bool) (xs : List A) → AllByRecursion (λ y. test y ≡ false) xs → find test xs ≡ None
  by_each test [] all = refl
  by_each test (y ∷ ys) all = ap (λ (b : Bool). cond b (Some y) (find test ys)) all.0 ∙ by_each test ys all.1

find-here : {A : Type 0} (test : A → Bool) (x y : A) (xs : List A) → x ≡ y → test y ≡ true → find test (x ∷ xs) ≡ Some y
find-here test x y xs same t = ap (λ (b : Bool). cond b (Some x) (find test xs)) (ap test same ∙ t) ∙ ap Some same

find-later : {A : Type 0} (test : A → Bool) (x : A) (xs : List A) → test x ≡ false → find test (x ∷ xs) ≡ find test xs
find-later test x xs f = ap (λ (b : Bool). cond b (Some x) (find test xs)) f

-- ---- blocks that rise

rise-aligned : (from to : ℕ) (bs : List Block) → RiseTo from to bs → AllByRecursion (λ (b : Block). b.first % 2 ^ b.order ≡ 0) bs
rise-aligned from to [] rise = tt
rise-aligned from to (b ∷ bs) rise = (rise.1, rise-aligned (b.first + 2 ^ b.order) to bs rise.2)

-- the lowest block that passes a test is found
rise-lowest : (test : Block → Bool) (from to : ℕ) (bs : List Block) → RiseTo from to bs → (k : ℕ) (block : Block) → k < length bs → get_or bs k block ≡ block → test block ≡ true → ((other : Block) → Contains bs other → test other ≡ true → block.first ≤ other.first) → find test bs ≡ Some block
rise-lowest test from to [] rise k block within is passes least = absurd (omega (arith, within))
rise-lowest test from to (b ∷ bs) rise zero block within is passes least = find-here test b block bs is passes
rise-lowest test from to (b ∷ bs) rise (suc k) block within is passes least =
    let rest = rise-lowest test (b.first + 2 ^ b.order) to bs rise.2 k block (omega (arith, within)) is passes (λ other has t. least other (suc has.0, omega (arith, has.1), has.2) t) in
    elim (cases_Bool (test b)) [
      | inr f ↦ find-later test b bs f ∙ rest
      | inl t ↦
          (let low = least b (zero, omega arith, refl) t in
          let above = all-has (λ (c : Block). b.first + 2 ^ b.order ≤ c.first) bs block (rise-above (b.first + 2 ^ b.order) (b.first + 2 ^ b.order) to bs (omega arith) rise.2) (k, omega (arith, within), is) in
          let some = pow_pos b.order in
          absurd (omega (arith, low, above, some)))
    ]

-- what is found is the lowest block that passes
rise-least : (test : Block → Bool) (from to : ℕ) (bs : List Block) → RiseTo from to bs → (block : Block) → find test bs ≡ Some block → (k : ℕ) (other : Block) → k < length bs → get_or bs k other ≡ other → test other ≡ true → block.first ≤ other.first
rise-least test from to [] rise block found k other within is passes = absurd (omega (arith, within))
rise-least test from to (b ∷ bs) rise block found k other within is passes =
    elim (cases_Bool (test b)) [
      | inl t ↦
          (let both : Some b ≡ Some block = sym (find-here test b b bs refl t) ∙ found in
          let same : b ≡ block = cc in
          subst (λ (c : Block). c.first ≤ other.first) same (behind k within is))
      | inr f ↦ later k within is f (λ i low at. rise-least test (b.first + 2 ^ b.order) to bs rise.2 block (sym (find-later test b bs f) ∙ found) i other low at passes)
    ]
  where
    behind : (k : ℕ) → k < length (b ∷ bs) → get_or (b ∷ bs) k other ≡ other → b.first ≤ other.first
    behind zero within is = let same : b.first ≡ other.first = ap (λ (c : Block). c.first) is in omega (arith, same)
    behind (suc k) within is =
        let above = all-has (λ (c : Block). b.first ≤ c.first) bs other (rise-above b.first (b.first + 2 ^ b.order) to bs (omega arith) rise.2) (k, omega (arith, within), is) in above

    later : (k : ℕ) → k < length (b ∷ bs) → get_or (b ∷ bs) k other ≡ other → test b ≡ false → ((i : ℕ) → i < length bs → get_or bs i other ≡ other → block.first ≤ other.first) → block.first ≤ other.first
    later zero within is f rest = let never : true ≡ false = sym passes ∙ sym (ap test is) ∙ f in cc
    later (suc k) within is f rest = rest k (omega (arith, within)) is

-- the block that holds a page is found
rise-find : (page from to : ℕ) (bs : List Block) → RiseTo from to bs → (k : ℕ) (block : Block) → k < length bs → get_or bs k block ≡ block → in_block page block ≡ true → find (in_block page) bs ≡ Some block
rise-find page from to [] rise k block within is inside = absurd (omega (arith, within))
rise-find page from to (b ∷ bs) rise zero block within is inside = find-here (in_block page) b block bs is inside
rise-find page from to (b ∷ bs) rise (suc k) block within is inside =
    let rest = rise-find page (b.first + 2 ^ b.order) to bs rise.2 k block (omega (arith, within)) is inside in
    let above = all-has (λ (c : Block). b.first + 2 ^ b.order ≤ c.first) bs block (rise-above (b.first + 2 ^ b.order) (b.first + 2 ^ b.order) to bs (omega arith) rise.2) (k, omega (arith, within), is) in
    let low = (in_range-elim block.first (2 ^ block.order) page inside).0 in
    find-later (in_block page) b bs (in_range-past b.first (2 ^ b.order) page (omega (arith, above, low))) ∙ rest

-- each has a page, so below an end there are no more than pages
rise-length : (from to end : ℕ) (bs : List Block) → from ≤ end → RiseTo from to bs → AllByRecursion (λ (b : Block). b.first + 2 ^ b.order ≤ end) bs → from + length bs ≤ end
rise-length from to end [] low rise ends = omega (arith, low)
rise-length from to end (b ∷ bs) low rise ends =
    let some = pow_pos b.order in
    let first = rise.0 in
    let rest = rise-length (b.first + 2 ^ b.order) to end bs ends.0 rise.2 ends.1 in
    omega (arith, some, first, rest)

-- ---- of a boot

cut-orders : (boot : Boot) → AllByRecursion (λ (b : Block). b.order ≤ MAX_ORDER) (cut boot)
unfolding cut
cut-orders boot =
    let ranges : List Pages = flat_map (without_pool boot.pool) (ram_ranges boot.ram) in
    let P : Block → Type 0 = λ b. b.order ≤ MAX_ORDER in
    all-flat P blocks_of ranges (all-each (λ r. AllByRecursion P (blocks_of r)) (λ r. blocks-orders r.count r.first r.count) ranges)

private-some : (state : Option PageState) → IsPrivate state → state ≢ None
private-some state (inl is) = λ none. cc
private-some state (inr is) = λ none. cc

-- a block of the cut has a page, its first
pub first-inside : (block : Block) → in_block block.first block ≡ true
first-inside block = let some = pow_pos block.order in in_range-intro block.first (2 ^ block.order) block.first (omega arith) (omega (arith, some))

pub cut-form : (boot : Boot) → BootMade boot → (block : Block) → Contains (cut boot) block → CutForm block
cut-form boot made block has =
    let rises = cut-rises boot made.right.uncalled.ram.rise in
    let pages = all-has (CutBlock boot) (cut boot) block (cut-pages boot made) has in
    let some = pow_pos block.order in
    let last : ℕ = block.first + 2 ^ block.order - 1 in
    let inside = in_range-intro block.first (2 ^ block.order) last (omega (arith, some)) (omega (arith, some)) in
    let low = ram-low made.descriptors made.hosts made.table made.slots made.areas made.cpus boot made.rules made.right.uncalled last (private-some (state_in boot.ram last) (pages.each last inside).first) in
    record {
      order = all-has (λ (b : Block). b.order ≤ MAX_ORDER) (cut boot) block (cut-orders boot) has;
      aligned = all-has (λ (b : Block). b.first % 2 ^ b.order ≡ 0) (cut boot) block (rise-aligned 0 rises.0 (cut boot) rises.1) has;
      end = omega (arith, some, low);
    }

-- the block of the cut that holds a page is the one that is found
pub cut-find : (boot : Boot) → BootMade boot → (block : Block) (page : ℕ) → Contains (cut boot) block → in_block page block ≡ true → find (in_block page) (cut boot) ≡ Some block
cut-find boot made block page has inside =
    let rises = cut-rises boot made.right.uncalled.ram.rise in rise-find page 0 rises.0 (cut boot) rises.1 has.0 block has.1 has.2 inside

-- a page lies in one block of the cut at most
pub cut-one : (boot : Boot) → BootMade boot → (a b : Block) (page : ℕ) → Contains (cut boot) a → Contains (cut boot) b → in_block page a ≡ true → in_block page b ≡ true → a ≡ b
cut-one boot made a b page one other here there =
    let both : Some a ≡ Some b = sym (cut-find boot made a page one here) ∙ cut-find boot made b page other there in cc

-- there are no more blocks than pages
pub cut-length : (boot : Boot) → BootMade boot → length (cut boot) ≤ PAGE_END
cut-length boot made =
    let rises = cut-rises boot made.right.uncalled.ram.rise in
    let most = rise-length 0 rises.0 PAGE_END (cut boot) (omega arith) rises.1
    (recursion_from_All (λ (b : Block). b.first + 2 ^ b.order ≤ PAGE_END) (cut boot) (λ k d within. (cut-form boot made (get_or (cut boot) k d) (Contains-get_or (cut boot) k d within)).end))
    in
    omega (arith, most)

-- the lowest block of the cut that passes a test is the one that is found
pub cut-lowest : (boot : Boot) → BootMade boot → (test : Block → Bool) (block : Block) → Contains (cut boot) block → test block ≡ true → ((other : Block) → Contains (cut boot) other → test other ≡ true → block.first ≤ other.first) → find test (cut boot) ≡ Some block
cut-lowest boot made test block has passes least =
    let rises = cut-rises boot made.right.uncalled.ram.rise in rise-lowest test 0 rises.0 (cut boot) rises.1 has.0 block has.1 has.2 passes least

-- and what is found is the lowest such
pub cut-least : (boot : Boot) → BootMade boot → (test : Block → Bool) (block other : Block) → find test (cut boot) ≡ Some block → Contains (cut boot) other → test other ≡ true → block.first ≤ other.first
cut-least boot made test block other found has passes =
    let rises = cut-rises boot made.right.uncalled.ram.rise in rise-least test 0 rises.0 (cut boot) rises.1 block found has.0 other has.1 has.2 passes
