-- A picked block lies in one block of the cut.
use Rattle.std.proofs.Common.{◌≡◌, ◌≢◌, ℕ, zero, suc, ◌+◌, ◌-◌, ◌*◌, ◌/◌, ◌%◌, ◌^◌, ◌<◌, ◌≤◌, Bool, true, false, ◌&&◌, Option, None, Some, List, [], ◌∷◌, ◌++◌, refl, sym, ◌∙◌, ap, subst, inl, inr, arith, append_assoc, nat_lt, nat_le, cond, eq-eqb}
use Rattle.std.specs.Prelude.{Contains, find, not, ◌⊎◌, ◌==◌}
use Rattle.std.specs.List.{AllByRecursion, list_any, flat_map}
use Rattle.std.specs.Option.{option_map}
use Rattle.std.proofs.Math.Nat.{mul-mod_left, mul-le-mul_right, lt_of_mul-lt-mul_right, mul_comm, mul_assoc, add-mul, suc-mul, one-mul, mod-add-div'}
use Rattle.std.proofs.lemmas.Bool.{cases_Bool, cases_lt, and_parts, and_from}
use Rattle.std.proofs.lemmas.Bool.Decides.{nat_tests}
use Rattle.std.proofs.lemmas.List.Elements.{All-contains_itself, recursion_from_All}
use Rattle.std.proofs.lemmas.Nat.{pow_pos, pow-add}
use Rattle.guest_base.specs.Blocks.{is_free_block, lowest_free, pick}
use Rattle.guest_base.specs.Ranges.{in_range}
use Rattle.guest_base.specs.Search.{first_such}
use Rattle.guest_base.specs.declared.memory.Block.{Block}
use Rattle.guest_base.specs.declared.memory.Pages.{Pages}
use Rattle.guest_base.proofs.BlockFacts.{lowest_here, lowest_above, lowest_nothing}
use Rattle.guest_base.proofs.RangeLemmas.{in_range-intro, in_range-elim}
use Rattle.guest_base.proofs.SearchLemmas.{first_such-Some}
use Rattle.event_core.specs.declared.boot.Boot.{Boot}
use Rattle.event_core.specs.declared.entry.Entry.{Entry}
use Rattle.event_core.specs.Absent.{in_block}
use Rattle.event_core.specs.Blocks.{Loose, block_state, is_loose, is_owned, free_page}
use Rattle.event_core.specs.Boot.{PoolPlaced}
use Rattle.event_core.specs.Cut.{pages_end, ram_ranges, pages_between, without_pool, may_stand, order_at, blocks_from, blocks_of, cut}
use Rattle.event_core.proofs.CutFacts.{order-fits, blocks-none, blocks-some}
use Rattle.event_core.proofs.EarlyLemmas.{or-cases, or-left, or-right, in_pages}
use Rattle.event_laws.specs.Coming.{BootMade}
use Rattle.event_laws.proofs.TurnLemmas.{all-map}
use Rattle.event_laws.proofs.RiseLemmas.{zero-on}
use Rattle.block_laws.proofs.CutPages.{Gapped, IsWhole, all-whole, ram-gapped}
use Rattle.block_laws.proofs.HeldFacts.{picked-free}
use Rattle.block_laws.proofs.ListFacts.{all-flat, all-with, found-one}
use Rattle.memory_core.proofs.WaitingLemmas.{loose-is}

-- ---- the shape of a picked block

-- the place of a free block of an order that suffices
record IsPlace (order : ℕ) (first : ℕ) : Type 0 where
  pub more : ℕ
  pub whole : order + more ≤ 10
  pub number : ℕ
  pub low : number < 2 ^ (28 - (order + more))
  pub is : first ≡ number * 2 ^ (order + more)

place-above : (order first : ℕ) → IsPlace (order + 1) first → IsPlace order first
place-above order first is =
    let one : order + (is.more + 1) ≡ order + 1 + is.more = omega arith in
    let whole = is.whole in
    record {
      more = is.more + 1;
      whole = omega (arith, one, whole);
      number = is.number;
      low = subst (λ o. is.number < 2 ^ (28 - o)) (sym one) is.low;
      is = is.is ∙ ap (λ o. is.number * 2 ^ o) (sym one);
    }

lowest-place : (free : ℕ → Bool) (order orders first : ℕ) → order + orders ≤ 11 → lowest_free free order orders ≡ Some first → IsPlace order first
lowest-place free order zero first within is = let no : None ≡ Some first = sym (lowest_nothing free order) ∙ is in cc
lowest-place free order (suc orders) first within is = by_number (λ above. place-above order first (lowest-place free (order + 1) orders first (omega (arith, within)) above)) (first_such (is_free_block free order) 0 (2 ^ (28 - order))) refl where
  by_number : (lowest_free free (order + 1) orders ≡ Some first → IsPlace order first) → (found : Option ℕ) → first_such (is_free_block free order) 0 (2 ^ (28 - order)) ≡ found → IsPlace order first
  by_number later None at = later (sym (lowest_above free order orders at) ∙ is)
  by_number later (Some number) at =
      let both : Some (number * 2 ^ order) ≡ Some first = sym (lowest_here free order orders number at) ∙ is in
      let same : number * 2 ^ order ≡ first = cc in
      let high = (first_such-Some (is_free_block free order) 0 (2 ^ (28 - order)) number at).high in
      let none : order + 0 ≡ order = omega arith in
      record {
        more = 0;
        whole = omega (arith, within);
        number = number;
        low = subst (λ o. number < 2 ^ (28 - o)) (sym none) (omega (arith, high));
        is = sym same ∙ ap (λ o. number * 2 ^ o) (sym none);
      }

-- a picked block has an order and a place that blocks have
pub record HasPlace (block : Block) : Type 0 where
  pub order : block.order ≤ 10
  pub aligned : block.first % 2 ^ block.order ≡ 0
  pub end : block.first + 2 ^ block.order ≤ 2 ^ 28

place-is : (first order : ℕ) → IsPlace order first → HasPlace (record { first = first; order = order })
place-is first order is =
    let split = pow-add 2 order is.more in
    let whole = is.whole in
    let some = pow_pos is.more in
    let size : ℕ = 2 ^ order in
    let times : ℕ = 2 ^ is.more in
    let at : first ≡ is.number * times * size = is.is ∙ ap (λ n. is.number * n) split ∙ product is.number size times in
    let whole_is : 28 - (order + is.more) + (order + is.more) ≡ 28 = omega (arith, whole) in
    let all : 2 ^ (28 - (order + is.more)) * 2 ^ (order + is.more) ≡ 2 ^ 28 = sym (pow-add 2 (28 - (order + is.more)) (order + is.more)) ∙ ap (λ n. 2 ^ n) whole_is in
    let most = mul-le-mul_right (2 ^ (order + is.more)) is.low in
    let fits = mul-le-mul_right size some in
    record {
      order = omega (arith, whole);
      aligned = ap (λ n. n % size) at ∙ mul-mod_left (is.number * times) size;
      end = ends first is.number (2 ^ (order + is.more)) size times (2 ^ (28 - (order + is.more))) is.is (split ∙ mul_comm size times) fits most all;
    }
  where
    product : (a b c : ℕ) → a * (b * c) ≡ a * c * b
    product a b c = ap (λ n. a * n) (mul_comm b c) ∙ sym (mul_assoc a c b)

    ends : (first number whole size times numbers : ℕ) → first ≡ number * whole → whole ≡ times * size → 1 * size ≤ times * size → suc number * whole ≤ numbers * whole → numbers * whole ≡ 2 ^ 28 → first + size ≤ 2 ^ 28
    ends first number whole size times numbers is split fits most all =
        let next = suc-mul number whole in
        let one = one-mul size in
        omega (arith, is, split, fits, most, all, next, one)

pub picked-place : (free : ℕ → Bool) (order : ℕ) (block : Block) → pick free order ≡ Some block → HasPlace block
picked-place free order block is = by_first (lowest_free free order (11 - order)) refl is where
  by_first : (found : Option ℕ) → lowest_free free order (11 - order) ≡ found → option_map (λ first. let b : Block = record { first = first; order = order } in b) found ≡ Some block → HasPlace block
  by_first None at made = cc
  by_first (Some first) at made =
      let same : record { first = first; order = order } ≡ block = cc in
      elim (cases_lt 11 order) [
        | inl high ↦
            (let none : 11 - order ≡ 0 = omega (arith, high) in
            let no : None ≡ Some first = sym (lowest_nothing free order) ∙ ap (lowest_free free order) (sym none) ∙ at in
            cc)
        | inr low ↦ subst HasPlace same (place-is first order (lowest-place free order (11 - order) first (omega (arith, low)) at))
      ]

-- ---- a block in a range

-- what holds of a block that has a page: it holds the block of an order there
abbrev Holds : ℕ → ℕ → Block → Type 0
Holds first order block = in_block first block ≡ true → first + 2 ^ order ≤ block.first + 2 ^ block.order

order-greatest : (at left order most : ℕ) → order ≤ most → may_stand at left order ≡ true → order ≤ order_at at left most
unfolding order_at
order-greatest at left order zero below may = below
order-greatest at left order (suc most) below may =
    elim (cases_Bool (may_stand at left (suc most))) [
      | inl t ↦ rw t below
      | inr f ↦
          (let other : order ≢ suc most = λ same. (let no : true ≡ false = sym may ∙ ap (may_stand at left) same ∙ f in cc) in
          rw f (order-greatest at left order most (omega (arith, below, other)) may))
    ]

order-aligned : (at left most : ℕ) → at % 2 ^ order_at at left most ≡ 0
unfolding order_at
order-aligned at left zero = omega arith
order-aligned at left (suc most) =
    elim (cases_Bool (may_stand at left (suc most))) [
      | inl t ↦ rw t (aligned (suc most) t)
      | inr f ↦ rw f (order-aligned at left most)
    ]
  where
    aligned : (order : ℕ) → may_stand at left order ≡ true → at % 2 ^ order ≡ 0
    aligned order may = grind (arith, nat_tests)

multiple : (n size : ℕ) → n % size ≡ 0 → n ≡ n / size * size
multiple n size is = let whole = mod-add-div' n size in omega (arith, whole, is)

-- the larger of two aligned ranges that have a page in common holds the smaller
nested : (at first size times : ℕ) → at % (times * size) ≡ 0 → first % size ≡ 0 → first < at + times * size → first + size ≤ at + times * size
nested at first size times whole aligned high =
    let b : first ≡ first / size * size = multiple first size aligned in
    let a : at + times * size ≡ (at / (times * size) * times + times) * size =
    ap (λ n. n + times * size) (multiple at (times * size) whole ∙ sym (mul_assoc (at / (times * size)) times size)) ∙ sym (add-mul (at / (times * size) * times) times size)
    in
    let less : first / size < at / (times * size) * times + times = lt_of_mul-lt-mul_right size (omega (arith, a, b, high)) in
    let most = mul-le-mul_right size less in
    let next = suc-mul (first / size) size in
    omega (arith, a, b, most, next)

-- a multiple of more is one of less
less-aligned : (first order more : ℕ) → first % 2 ^ (order + more) ≡ 0 → first % 2 ^ order ≡ 0
less-aligned first order more is =
    let at : first ≡ first / 2 ^ (order + more) * 2 ^ more * 2 ^ order =
    multiple first (2 ^ (order + more)) is ∙ ap (λ n. first / 2 ^ (order + more) * n) (pow-add 2 order more ∙ mul_comm (2 ^ order) (2 ^ more)) ∙ sym (mul_assoc (first / 2 ^ (order + more)) (2 ^ more) (2 ^ order))
    in
    ap (λ n. n % 2 ^ order) at ∙ mul-mod_left (first / 2 ^ (order + more) * 2 ^ more) (2 ^ order)

head-holds : (first order at left own : ℕ) → order ≤ 10 → first % 2 ^ order ≡ 0 → own ≡ order_at at left 10 → 2 ^ own ≤ left → (at ≤ first → first < at + left → first + 2 ^ order ≤ at + left) → Holds first order (record { first = at; order = own })
head-holds first order at left own whole aligned is fits within inside =
    let two = in_range-elim at (2 ^ own) first inside in
    let low = two.0 in
    let high = two.1 in
    let end = within low (omega (arith, high, fits)) in
    let own-aligned : at % 2 ^ own ≡ 0 = subst (λ o. at % 2 ^ o ≡ 0) (sym is) (order-aligned at left 10) in
    elim (cases_lt own order) [
      | inl small ↦
          (let more : own + (order - own) ≡ order = omega (arith, small) in
          let less : first % 2 ^ own ≡ 0 = less-aligned first own (order - own) (subst (λ o. first % 2 ^ o ≡ 0) (sym more) aligned) in
          let same : first ≡ at = first-is first at (2 ^ own) own-aligned less low high in
          let stands : may_stand at left order ≡ true = and_from (at % 2 ^ order == 0) (nat_le (2 ^ order) left) (eq-eqb (at % 2 ^ order) 0 (ap (λ n. n % 2 ^ order) (sym same) ∙ aligned)) (le-true (2 ^ order) left (omega (arith, end, same))) in
          let greatest = order-greatest at left order 10 whole stands in
          absurd (omega (arith, greatest, small, is)))
      | inr large ↦
          (let more : order + (own - order) ≡ own = omega (arith, large) in
          let size : 2 ^ own ≡ 2 ^ (own - order) * 2 ^ order = ap (λ n. 2 ^ n) (sym more) ∙ pow-add 2 order (own - order) ∙ mul_comm (2 ^ order) (2 ^ (own - order)) in
          subst (λ n. first + 2 ^ order ≤ at + n) (sym size)
          (nested at first (2 ^ order) (2 ^ (own - order)) (subst (λ n. at % n ≡ 0) size own-aligned) aligned (subst (λ n. first < at + n) size high)))
    ]
  where
    first-is : (n m size : ℕ) → m % size ≡ 0 → n % size ≡ 0 → m ≤ n → n < m + size → n ≡ m
    first-is n m size a b low high =
        let one : size ≡ 1 * size = sym (one-mul size) in
        let fits = nested m n size 1 (subst (λ k. m % k ≡ 0) one a) b (subst (λ k. n < m + k) one high) in
        omega (arith, low, fits, one)

    le-true : (a b : ℕ) → a ≤ b → nat_le a b ≡ true
    le-true a b h = grind (arith, nat_tests, h)

range-holds : (first order most at left : ℕ) → order ≤ 10 → first % 2 ^ order ≡ 0 → (at ≤ first → first < at + left → first + 2 ^ order ≤ at + left) → AllByRecursion (Holds first order) (blocks_from most at left)
unfolding blocks_from
range-holds first order zero at left whole aligned within = tt
range-holds first order (suc most) at left whole aligned within =
    elim (cases_lt 0 left) [
      | inr none ↦ subst (AllByRecursion (Holds first order)) (sym (blocks-none (suc most) at left (omega (arith, none)))) tt
      | inl some ↦
          (let own : ℕ = order_at at left 10 in
          let size : ℕ = 2 ^ own in
          let fits : size ≤ left = order-fits at left 10 some in
          subst (AllByRecursion (Holds first order)) (sym (blocks-some most at left (omega (arith, some)))) (
            head-holds first order at left own whole aligned refl fits within,
            range-holds first order most (at + size) (left - size) whole aligned
                (λ low high. (let end = within (omega (arith, low)) (omega (arith, high, fits)) in omega (arith, end, fits))),
          ))
    ]

-- ---- ranges without the pool

more-gapped : (from to : ℕ) (rs : List Pages) → from ≤ to → Gapped to rs → Gapped from rs
more-gapped from to [] less gapped = tt
more-gapped from to (r ∷ rs) less gapped = let first = gapped.0 in (omega (arith, less, first), gapped.1)

between-gapped : (from first end : ℕ) (rs : List Pages) → from ≤ first → Gapped (end + 1) rs → Gapped from rs → Gapped from (pages_between first end ++ rs)
between-gapped from first end rs low gapped other =
    elim (cases_Bool (nat_lt first end)) [
      | inl some ↦
          (let less : first < end = grind (arith, nat_tests, some) in
          let same : first + (end - first) ≡ end = omega (arith, less) in
          rw some (low, subst (λ e. Gapped (e + 1) rs) (sym same) gapped))
      | inr none ↦ rw none other
    ]

-- a pool has a page, or is at the first page
abbrev SomePool : Option Pages → Type 0
SomePool None = Unit {0}
SomePool (Some pool) = (pool.first ≡ 0) ⊎ (0 < pool.count)

without-gapped : (from : ℕ) (pool : Option Pages) (r : Pages) (rs : List Pages) → SomePool pool → from ≤ r.first → Gapped (pages_end r + 1) rs → Gapped from (without_pool pool r ++ rs)
without-gapped from None r rs some low gapped = (low, gapped)
without-gapped from (Some pool) r rs some low gapped =
    elim (cases_Bool (nat_le r.first pool.first && nat_le (pages_end pool) (pages_end r))) [
      | inr apart ↦ rw apart (low, gapped)
      | inl holds ↦
          (let two = and_parts (nat_le r.first pool.first) (nat_le (pages_end pool) (pages_end r)) holds in
          let one_ = two.0 in
          let two_ = two.1 in
          let under : r.first ≤ pool.first = grind (arith, nat_tests, one_) in
          let over : pages_end pool ≤ pages_end r = grind (arith, nat_tests, two_) in
          let tail : (at : ℕ) → at ≤ pages_end pool → Gapped at (pages_between (pages_end pool) (pages_end r) ++ rs) =
          λ at less. between-gapped at (pages_end pool) (pages_end r) rs less gapped (more-gapped at (pages_end r + 1) rs (omega (arith, less, over)) gapped)
          in
          let upper = pages_between (pages_end pool) (pages_end r) ++ rs in
          let all : Gapped from (pages_between r.first pool.first ++ upper) =
          elim some [
            | inl zero_ ↦
                (let none : nat_lt r.first pool.first ≡ false = not-below r.first pool.first zero_ in
                rw none (tail from (omega (arith, low, under))))
            | inr page ↦ between-gapped from r.first pool.first upper low (tail (pool.first + 1) (omega (arith, page))) (tail from (omega (arith, low, under)))
          ]
          in
          rw holds (subst (Gapped from) (sym (append_assoc (pages_between r.first pool.first) (pages_between (pages_end pool) (pages_end r)) rs)) all))
    ]
  where
    not-below : (a b : ℕ) → b ≡ 0 → nat_lt a b ≡ false
    not-below a b is = grind (arith, nat_tests, is)

ranges-gapped : (from : ℕ) (pool : Option Pages) (rs : List Pages) → SomePool pool → Gapped from rs → Gapped from (flat_map (without_pool pool) rs)
ranges-gapped from pool [] some gapped = tt
ranges-gapped from pool (r ∷ rs) some gapped = without-gapped from pool r (flat_map (without_pool pool) rs) some gapped.0 (ranges-gapped (pages_end r + 1) pool rs some gapped.1)

-- ---- the cut

any-append : {A : Type 0} (test : A → Bool) (xs ys : List A) → list_any test (xs ++ ys) ≡ true → (list_any test xs ≡ true) ⊎ (list_any test ys ≡ true)
any-append test [] ys h = inr h
any-append test (x ∷ xs) ys h =
    elim (or-cases (test x) (list_any test (xs ++ ys)) h) [
      | inl here ↦ inl (or-left (test x) (list_any test xs) here)
      | inr there ↦
          elim (any-append test xs ys there) [
            | inl first ↦ inl (or-right (test x) (list_any test xs) first)
            | inr second ↦ inr second
          ]
    ]

blocks-within : (page most first left : ℕ) → list_any (in_block page) (blocks_from most first left) ≡ true → in_range first left page ≡ true
unfolding blocks_from
blocks-within page zero first left h = cc
blocks-within page (suc most) first left h =
    elim (cases_lt 0 left) [
      | inr none ↦ (let no : false ≡ true = subst (λ bs. list_any (in_block page) bs ≡ true) (blocks-none (suc most) first left (omega (arith, none))) h in cc)
      | inl some ↦
          (let size : ℕ = 2 ^ order_at first left 10 in
          let fits : size ≤ left = order-fits first left 10 some in
          let either = subst (λ bs. list_any (in_block page) bs ≡ true) (blocks-some most first left (omega (arith, some))) h in
          elim (or-cases (in_range first size page) (list_any (in_block page) (blocks_from most (first + size) (left - size))) either) [
            | inl here ↦
                (let two = in_range-elim first size page here in
                let low = two.0 in
                let high = two.1 in
                in_range-intro first left page low (omega (arith, high, fits)))
            | inr there ↦
                (let two = in_range-elim (first + size) (left - size) page (blocks-within page most (first + size) (left - size) there) in
                let low = two.0 in
                let high = two.1 in
                in_range-intro first left page (omega (arith, low)) (omega (arith, high, fits)))
          ])
    ]

cut-within : (page : ℕ) (rs : List Pages) → list_any (in_block page) (flat_map blocks_of rs) ≡ true → list_any (in_pages page) rs ≡ true
cut-within page [] h = cc
cut-within page (r ∷ rs) h =
    elim (any-append (in_block page) (blocks_of r) (flat_map blocks_of rs) h) [
      | inl here ↦ or-left (in_pages page r) (list_any (in_pages page) rs) (blocks-within page r.count r.first r.count here)
      | inr there ↦ or-right (in_pages page r) (list_any (in_pages page) rs) (cut-within page rs there)
    ]

some-pool : (boot : Boot) (pool : Option Pages) → PoolPlaced boot pool → SomePool pool
some-pool boot None placed = tt
some-pool boot (Some pool) placed =
    elim (cases_lt 0 pool.count) [
      | inl some ↦ inr some
      | inr none ↦
          elim (cases_lt 0 pool.first) [
            | inr zero_ ↦ inl (omega (arith, zero_))
            | inl above ↦
                (let size = placed.1.pages in
                absurd (placed.1.lowest 0 above (λ page h. (let high = (in_range-elim 0 (boot.slots / 2) page h).1 in absurd (omega (arith, high, size, none))))))
          ]
    ]

-- a block of the cut that has the first page of a whole aligned block of the cut's pages holds this block
pub cut-holds : (boot : Boot) (first order : ℕ) → BootMade boot → order ≤ 10 → first % 2 ^ order ≡ 0 → ((page : ℕ) → first ≤ page → page < first + 2 ^ order → list_any (in_block page) (cut boot) ≡ true) → AllByRecursion (Holds first order) (cut boot)
unfolding cut
cut-holds boot first order made whole aligned all =
    let rs : List Pages = flat_map (without_pool boot.pool) (ram_ranges boot.ram) in
    let plain = made.right.uncalled in
    let gapped : Gapped 0 rs = ranges-gapped 0 boot.pool (ram_ranges boot.ram) (some-pool boot boot.pool plain.pool) (ram-gapped 0 boot.ram (zero-on boot.ram) plain.ram.rise) in
    all-flat (Holds first order) blocks_of rs
    (all-map (IsWhole rs) (λ r. AllByRecursion (Holds first order) (blocks_of r))
    (λ r is. range-holds first order r.count r.first r.count whole aligned
    (λ low high. elim (cases_lt (pages_end r) (first + 2 ^ order)) [
      | inr within ↦ within
      | inl past ↦ absurd ((is.each (pages_end r) (cut-within (pages_end r) rs (all (pages_end r) (omega (arith, high)) past))).0 refl)
    ]))
    rs (all-whole 0 rs gapped))

-- ---- a picked block

-- a block of the cut that is accepted, and holds the block
pub record IsHome (boot : Boot) (memory : List Entry) (block home : Block) : Type 0 where
  pub cut_has : Contains (cut boot) home
  pub loose : block_state boot memory home ≡ Loose
  pub inside : (page : ℕ) → in_block page block ≡ true → in_block page home ≡ true

free-in-cut : (boot : Boot) (memory : List Entry) (page : ℕ) → free_page boot memory page ≡ true → (home : Block) × (find (in_block page) (cut boot) ≡ Some home) × (block_state boot memory home ≡ Loose)
unfolding free_page
free-in-cut boot memory page free = by_block (find (in_block page) (cut boot)) refl free where
  by_block : (found : Option Block) → find (in_block page) (cut boot) ≡ found
      → elim found as (λ _. Bool) [ None ↦ false | Some block ↦ is_loose (block_state boot memory block) && not (is_owned memory page) ] ≡ true
      → (home : Block) × (find (in_block page) (cut boot) ≡ Some home) × (block_state boot memory home ≡ Loose)
  by_block None at is = cc
  by_block (Some block) at is = (block, at, loose-is (block_state boot memory block) (and_parts (is_loose (block_state boot memory block)) (not (is_owned memory page)) is).0)

found-any : {A : Type 0} (test : A → Bool) (xs : List A) (x : A) → find test xs ≡ Some x → list_any test xs ≡ true
found-any test [] x is = cc
found-any test (y ∷ ys) x is =
    elim (cases_Bool (test y)) [
      | inl t ↦ or-left (test y) (list_any test ys) t
      | inr f ↦ or-right (test y) (list_any test ys) (found-any test ys x (sym (ap (λ (b : Bool). cond b (Some y) (find test ys)) f) ∙ is))
    ]

record Both (boot : Boot) (first order : ℕ) (block : Block) : Type 0 where
  pub has : Contains (cut boot) block
  pub holds : Holds first order block

pub picked-home : (boot : Boot) (memory : List Entry) (order : ℕ) (block : Block) → BootMade boot → pick (free_page boot memory) order ≡ Some block → (home : Block) × IsHome boot memory block home
picked-home boot memory order block made is =
    let place = picked-place (free_page boot memory) order block is in
    let some = pow_pos block.order in
    let free = λ (page : ℕ) (inside : in_block page block ≡ true). free-in-cut boot memory page (picked-free (free_page boot memory) order block is page inside) in
    let found = free block.first (in_range-intro block.first (2 ^ block.order) block.first (omega arith) (omega (arith, some))) in
    let held = cut-holds boot block.first block.order made place.order place.aligned
    (λ page low high. (let at = free page (in_range-intro block.first (2 ^ block.order) page low high) in found-any (in_block page) (cut boot) at.0 at.1))
    in
    let each = all-with (Contains (cut boot)) (Holds block.first block.order) (Both boot block.first block.order) (λ b has holds. record { has = has; holds = holds })
    (cut boot) (recursion_from_All (Contains (cut boot)) (cut boot) (All-contains_itself (cut boot))) held
    in
    let both = found-one (Both boot block.first block.order) (in_block block.first) (cut boot) found.0 each found.1 in
    let end = both.0.holds both.1 in
    let from = (in_range-elim found.0.first (2 ^ found.0.order) block.first both.1).0 in (
      found.0,
      record {
        cut_has = both.0.has;
        loose = found.2;
        inside = λ page inside. (
            let two = in_range-elim block.first (2 ^ block.order) page inside in
            let low = two.0 in
            let high = two.1 in
            in_range-intro found.0.first (2 ^ found.0.order) page (omega (arith, from, low)) (omega (arith, high, end)));
      },
    )
