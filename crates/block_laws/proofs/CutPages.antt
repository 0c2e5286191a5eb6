-- The pages of the blocks of the cut are RAM outside the pool.
use Rattle.std.proofs.Common.{◌≡◌, ◌≢◌, ℕ, zero, suc, ◌+◌, ◌-◌, ◌^◌, ◌<◌, ◌≤◌, Bool, true, false, ◌&&◌, Option, None, Some, List, [], ◌∷◌, refl, sym, ◌∙◌, ap, subst, inl, inr, arith, cond, nat_lt, nat_le, ◌==◌, eqb-true}
use Rattle.std.specs.Prelude.{◌||◌, find}
use Rattle.std.specs.List.{AllByRecursion, AllPairs, list_any, flat_map}
use Rattle.std.specs.Option.{option_map}
use Rattle.std.proofs.lemmas.Bool.{cases_Bool, cases_lt, and_parts}
use Rattle.std.proofs.lemmas.Bool.Decides.{nat_tests}
use Rattle.guest_base.specs.Ranges.{in_range}
use Rattle.guest_base.proofs.RangeLemmas.{in_range-intro, in_range-elim}
use Rattle.guest_base.specs.declared.memory.Block.{Block}
use Rattle.guest_base.specs.declared.memory.Pages.{Pages}
use Rattle.guest_base.specs.declared.memory.PageRun.{PageRun}
use Rattle.guest_base.specs.declared.memory.PageState.TheVariants.{Pending, Accepted}
use Rattle.event_core.specs.declared.boot.Boot.{Boot}
use Rattle.event_core.specs.declared.boot.Descriptor.{Descriptor}
use Rattle.event_core.specs.Absent.{in_block}
use Rattle.event_core.specs.Boot.{PoolPlaced}
use Rattle.event_core.specs.Cut.{pages_end, joined, ram_ranges, pages_between, without_pool, order_at, blocks_from, blocks_of, cut}
use Rattle.event_core.specs.Given.{first_by}
use Rattle.event_core.specs.Map.{unaccepted_page, ram_page}
use Rattle.event_core.specs.Runs.{run_holds, run_end, GoesBefore, state_in}
use Rattle.event_core.specs.Table.{Bits, marks_page}
use Rattle.event_core.proofs.BootFacts.{all-append}
use Rattle.event_core.proofs.CutFacts.{order-fits, blocks-none, blocks-some}
use Rattle.event_core.proofs.EarlyLemmas.{or-cases, or-left, or-right, in_pages, pairs-tail}
use Rattle.event_laws.specs.Coming.{BootMade}
use Rattle.event_laws.proofs.TurnLemmas.{all-map}
use Rattle.event_laws.proofs.RiseLemmas.{FromOn, next-from, zero-on}
use Rattle.block_laws.proofs.ListFacts.{all-flat, all-with}
use Rattle.block_laws.proofs.PageFacts.{IsPrivate}

-- ---- ranges with gaps

-- ranges that rise from a page on, with a page between each two
abbrev pub Gapped : ℕ → List Pages → Type 0
Gapped from [] = Unit {0}
Gapped from (r ∷ rs) = (from ≤ r.first) × Gapped (pages_end r + 1) rs

gapped-joined : (from : ℕ) (r : Pages) (rs : List Pages) → from ≤ r.first → Gapped (pages_end r) rs → Gapped from (joined r rs)
gapped-joined from r [] low gapped = (low, tt)
gapped-joined from r (next ∷ rs) low gapped =
    elim (cases_Bool (pages_end r == next.first)) [
      | inl near ↦
          (let at : pages_end r ≡ next.first = eqb-true (pages_end r) next.first near in
          let ends : r.first + (r.count + next.count) ≡ pages_end next = omega (arith, at) in
          rw near (low, subst (λ end. Gapped (end + 1) rs) (sym ends) gapped.1))
      | inr far ↦
          (let here = gapped.0 in
          let apart : pages_end r ≢ next.first = λ same. (let no : true ≡ false = sym (eq-is (pages_end r) next.first same) ∙ far in cc) in
          rw far (low, (omega (arith, here, apart), gapped.1)))
    ]
  where
    eq-is : (a b : ℕ) → a ≡ b → (a == b) ≡ true
    eq-is a b same = grind (arith, nat_tests, same)

pub ram-gapped : (from : ℕ) (runs : List PageRun) → FromOn from runs → AllPairs GoesBefore runs → Gapped from (ram_ranges runs)
ram-gapped from [] low pairs = tt
ram-gapped from (run ∷ runs) low pairs =
    gapped-joined from run.pages (ram_ranges runs) low (ram-gapped (run_end run) runs (next-from run runs pairs) (pairs-tail GoesBefore run runs pairs))

pub gapped-low : (from page : ℕ) (rs : List Pages) → Gapped from rs → list_any (in_pages page) rs ≡ true → from ≤ page
gapped-low from page [] gapped h = cc
gapped-low from page (r ∷ rs) gapped h =
    let first = gapped.0 in
    elim (or-cases (in_pages page r) (list_any (in_pages page) rs) h) [
      | inl here ↦ (let low = (in_range-elim r.first r.count page here).0 in omega (arith, first, low))
      | inr there ↦ (let low = gapped-low (pages_end r + 1) page rs gapped.1 there in omega (arith, first, low))
    ]

gapped-firsts : (at from : ℕ) (rs : List Pages) → at ≤ from → Gapped from rs → AllByRecursion (λ (r : Pages). at ≤ r.first) rs
gapped-firsts at from [] less gapped = tt
gapped-firsts at from (r ∷ rs) less gapped = let first = gapped.0 in (omega (arith, less, first), gapped-firsts at (pages_end r + 1) rs (omega (arith, less, first)) gapped.1)

-- no page of the ranges stands right behind one of them, or right before it
pub record IsWhole (rs : List Pages) (r : Pages) : Type 0 where
  pub each : (page : ℕ) → list_any (in_pages page) rs ≡ true → (page ≢ pages_end r) × (page + 1 ≢ r.first)

whole-head : (r : Pages) (rs : List Pages) → Gapped (pages_end r + 1) rs → IsWhole (r ∷ rs) r
whole-head r rs gapped = record {
  each = λ page h. elim (or-cases (in_pages page r) (list_any (in_pages page) rs) h) [
    | inl here ↦ (let two = in_range-elim r.first r.count page here in let low = two.0 in let high = two.1 in ((λ same. omega (arith, low, high, same)), (λ same. omega (arith, low, high, same))))
    | inr there ↦ (let low = gapped-low (pages_end r + 1) page rs gapped there in ((λ same. omega (arith, low, same)), (λ same. omega (arith, low, same))))
  ];
}

whole-tail : (r : Pages) (all rs : List Pages) → AllByRecursion (λ (s : Pages). pages_end r + 1 ≤ s.first) rs → AllByRecursion (IsWhole all) rs → AllByRecursion (IsWhole (r ∷ all)) rs
whole-tail r all [] firsts wholes = tt
whole-tail r all (s ∷ rs) firsts wholes =
    let first = firsts.0 in (
      record {
        each = λ page h. elim (or-cases (in_pages page r) (list_any (in_pages page) all) h) [
          | inl here ↦ (let high = (in_range-elim r.first r.count page here).1 in ((λ same. omega (arith, first, high, same)), (λ same. omega (arith, first, high, same))))
          | inr there ↦ wholes.0.each page there
        ];
      },
      whole-tail r all rs firsts.1 wholes.1,
    )

pub all-whole : (from : ℕ) (rs : List Pages) → Gapped from rs → AllByRecursion (IsWhole rs) rs
all-whole from [] gapped = tt
all-whole from (r ∷ rs) gapped =
    (whole-head r rs gapped.1, whole-tail r rs rs (gapped-firsts (pages_end r + 1) (pages_end r + 1) rs (omega arith) gapped.1) (all-whole (pages_end r + 1) rs gapped.1))

-- ---- the ranges are the RAM

both-in : (first count next more page : ℕ) → first + count ≡ next → in_range first (count + more) page ≡ (in_range first count page || in_range next more page)
both-in first count next more page at = grind (arith, nat_tests, at)

pub joined-holds : (page : ℕ) (r : Pages) (rs : List Pages) → list_any (in_pages page) (joined r rs) ≡ (in_pages page r || list_any (in_pages page) rs)
joined-holds page r [] = refl
joined-holds page r (next ∷ rs) =
    elim (cases_Bool (pages_end r == next.first)) [
      | inl near ↦
          (let at : pages_end r ≡ next.first = eqb-true (pages_end r) next.first near in
          rw near (ap (λ b. b || list_any (in_pages page) rs) (both-in r.first r.count next.first next.count page at) ∙ or-assoc (in_pages page r) (in_pages page next) (list_any (in_pages page) rs)))
      | inr far ↦ rw far refl
    ]
  where
    or-assoc : (a b c : Bool) → ((a || b) || c) ≡ (a || (b || c))
    or-assoc true b c = refl
    or-assoc false b c = refl

ranges-hold : (page : ℕ) (runs : List PageRun) → list_any (in_pages page) (ram_ranges runs) ≡ list_any (run_holds page) runs
ranges-hold page [] = refl
ranges-hold page (run ∷ runs) = joined-holds page run.pages (ram_ranges runs) ∙ ap (λ b. in_pages page run.pages || b) (ranges-hold page runs)

-- a page that has a state lies in a run
ram-held : (page : ℕ) (runs : List PageRun) → state_in runs page ≢ None → list_any (run_holds page) runs ≡ true
ram-held page [] some = absurd (some refl)
ram-held page (run ∷ runs) some =
    elim (cases_Bool (run_holds page run)) [
      | inl t ↦ or-left (run_holds page run) (list_any (run_holds page) runs) t
      | inr f ↦
          (let same : state_in (run ∷ runs) page ≡ state_in runs page = ap (λ b. option_map (λ (r : PageRun). r.state) (cond b (Some run) (find (run_holds page) runs))) f in
          or-right (run_holds page run) (list_any (run_holds page) runs) (ram-held page runs (λ none. some (same ∙ none))))
    ]

held-ram : (page : ℕ) (runs : List PageRun) → list_any (run_holds page) runs ≡ true → state_in runs page ≢ None
held-ram page [] h = cc
held-ram page (run ∷ runs) h =
    elim (cases_Bool (run_holds page run)) [
      | inl t ↦
          (let same : state_in (run ∷ runs) page ≡ Some run.state = ap (λ b. option_map (λ (r : PageRun). r.state) (cond b (Some run) (find (run_holds page) runs))) t in
          λ none. (let no : None ≡ Some run.state = sym none ∙ same in cc))
      | inr f ↦
          (let same : state_in (run ∷ runs) page ≡ state_in runs page = ap (λ b. option_map (λ (r : PageRun). r.state) (cond b (Some run) (find (run_holds page) runs))) f in
          let rest : list_any (run_holds page) runs ≡ true = sym (ap (λ b. b || list_any (run_holds page) runs) f) ∙ h in
          λ none. held-ram page runs rest (sym same ∙ none))
    ]

-- ---- without the pool

-- a page of RAM outside a pool
record IsLeft (ram : List PageRun) (pool : Option Pages) (page : ℕ) : Type 0 where
  pub held : list_any (run_holds page) ram ≡ true
  pub outside : (p : Pages) → pool ≡ Some p → in_range p.first p.count page ≡ false

-- the pages of a range are such ones
record AreLeft (ram : List PageRun) (pool : Option Pages) (r : Pages) : Type 0 where
  pub each : (page : ℕ) → in_range r.first r.count page ≡ true → IsLeft ram pool page

-- each page of a pool is RAM
abbrev PoolInRam : List PageRun → Pages → Type 0
PoolInRam ram pool = (page : ℕ) → in_range pool.first pool.count page ≡ true → list_any (run_holds page) ram ≡ true

-- a range that has a page of the pool holds it
pool-within : (ram : List PageRun) (pool r : Pages) → PoolInRam ram pool → IsWhole (ram_ranges ram) r → (page : ℕ) → in_range r.first r.count page ≡ true → in_range pool.first pool.count page ≡ true → (nat_le r.first pool.first && nat_le (pages_end pool) (pages_end r)) ≡ true
pool-within ram pool r room whole page inside within =
    let a = in_range-elim r.first r.count page inside in
    let b = in_range-elim pool.first pool.count page within in
    let first = a.0 in
    let last = a.1 in
    let from = b.0 in
    let to = b.1 in
    elim (cases_lt (pages_end r) (pages_end pool)) [
      | inl past ↦
          (let there = room (pages_end r) (in_range-intro pool.first pool.count (pages_end r) (omega (arith, from, last)) past) in
          absurd ((whole.each (pages_end r) (ranges-hold (pages_end r) ram ∙ there)).0 refl))
      | inr high ↦
          elim (cases_lt pool.first r.first) [
            | inl before ↦
                (let at : ℕ = r.first - 1 in
                let there = room at (in_range-intro pool.first pool.count at (omega (arith, before)) (omega (arith, before, first, to))) in
                let next : at + 1 ≡ r.first = omega (arith, before) in
                absurd ((whole.each at (ranges-hold at ram ∙ there)).1 next))
            | inr low ↦ (let one : nat_le r.first pool.first ≡ true = grind (arith, nat_tests, low) in let two : nat_le (pages_end pool) (pages_end r) ≡ true = grind (arith, nat_tests, high) in rw (one, two) refl)
          ]
    ]

between-left : (ram : List PageRun) (pool : Option Pages) (from to : ℕ) → ((page : ℕ) → from ≤ page → page < to → IsLeft ram pool page) → AllByRecursion (AreLeft ram pool) (pages_between from to)
between-left ram pool from to each =
    elim (cases_Bool (nat_lt from to)) [
      | inl some ↦
          (let less : from < to = grind (arith, nat_tests, some) in
          rw some (record { each = λ page h. (let two = in_range-elim from (to - from) page h in let low = two.0 in let high = two.1 in each page low (omega (arith, high, less))) }, tt))
      | inr none ↦ rw none tt
    ]

range-left : (ram : List PageRun) (pool : Option Pages) (r : Pages) → ((p : Pages) → pool ≡ Some p → PoolInRam ram p) → IsWhole (ram_ranges ram) r → ((page : ℕ) → in_range r.first r.count page ≡ true → list_any (run_holds page) ram ≡ true) → AllByRecursion (AreLeft ram pool) (without_pool pool r)
range-left ram None r room whole held = (record { each = λ page h. record { held = held page h; outside = λ p no. cc } }, tt)
range-left ram (Some pool) r room whole held =
    elim (cases_Bool (nat_le r.first pool.first && nat_le (pages_end pool) (pages_end r))) [
      | inl holds ↦
          (let two = and_parts (nat_le r.first pool.first) (nat_le (pages_end pool) (pages_end r)) holds in
          let one_ = two.0 in
          let two_ = two.1 in
          let low : r.first ≤ pool.first = grind (arith, nat_tests, one_) in
          let high : pages_end pool ≤ pages_end r = grind (arith, nat_tests, two_) in
          rw holds
          (all-append (AreLeft ram (Some pool)) (pages_between r.first pool.first) (pages_between (pages_end pool) (pages_end r))
          (between-left ram (Some pool) r.first pool.first
          (λ page from to. record {
            held = held page (in_range-intro r.first r.count page from (omega (arith, to, high)));
            outside = λ p is. (let same : pool ≡ p = cc in subst (λ (q : Pages). in_range q.first q.count page ≡ false) same (below pool.first pool.count page to));
          }))
          (between-left ram (Some pool) (pages_end pool) (pages_end r)
          (λ page from to. record {
            held = held page (in_range-intro r.first r.count page (omega (arith, from, low)) to);
            outside = λ p is. (let same : pool ≡ p = cc in subst (λ (q : Pages). in_range q.first q.count page ≡ false) same (past pool.first pool.count page from));
          }))))
      | inr apart ↦
          rw apart (
            record {
              each = λ page h. record {
                held = held page h;
                outside =
                    λ p is.
                    elim (cases_Bool (in_range p.first p.count page)) [
                      | inr out ↦ out
                      | inl within ↦
                          (let same : pool ≡ p = cc in
                          let here = subst (λ (q : Pages). in_range q.first q.count page ≡ true) (sym same) within in
                          let no : true ≡ false = sym (pool-within ram pool r (room pool refl) whole page h here) ∙ apart in
                          cc)
                    ];
              };
            },
            tt,
          )
    ]
  where
    below : (first count page : ℕ) → page < first → in_range first count page ≡ false
    below first count page less = grind (arith, nat_tests, less)

    past : (first count page : ℕ) → first + count ≤ page → in_range first count page ≡ false
    past first count page more = grind (arith, nat_tests, more)

-- ---- blocks

-- the pages of a block are such ones
record BlockLeft (ram : List PageRun) (pool : Option Pages) (block : Block) : Type 0 where
  pub each : (page : ℕ) → in_block page block ≡ true → IsLeft ram pool page

blocks-left : (ram : List PageRun) (pool : Option Pages) (most first left : ℕ) → ((page : ℕ) → first ≤ page → page < first + left → IsLeft ram pool page) → AllByRecursion (BlockLeft ram pool) (blocks_from most first left)
unfolding blocks_from
blocks-left ram pool zero first left each = tt
blocks-left ram pool (suc most) first left each =
    elim (cases_lt 0 left) [
      | inl some ↦
          (let size : ℕ = 2 ^ order_at first left 10 in
          let fits : size ≤ left = order-fits first left 10 some in
          subst (AllByRecursion (BlockLeft ram pool)) (sym (blocks-some most first left (omega (arith, some)))) (
            record { each = λ page h. (let two = in_range-elim first size page h in let low = two.0 in let high = two.1 in each page low (omega (arith, high, fits))) },
            blocks-left ram pool most (first + size) (left - size) (λ page low high. each page (omega (arith, low)) (omega (arith, high, fits))),
          ))
      | inr none ↦ subst (AllByRecursion (BlockLeft ram pool)) (sym (blocks-none (suc most) first left (omega (arith, none)))) tt
    ]

block-left : (ram : List PageRun) (pool : Option Pages) (r : Pages) → AreLeft ram pool r → AllByRecursion (BlockLeft ram pool) (blocks_of r)
block-left ram pool r are = blocks-left ram pool r.count r.first r.count (λ page low high. are.each page (in_range-intro r.first r.count page low high))

-- the pages of each range are RAM
ranges-ram : (all rs : List Pages) → ((page : ℕ) → list_any (in_pages page) rs ≡ true → list_any (in_pages page) all ≡ true) → AllByRecursion (λ (r : Pages). (page : ℕ) → in_range r.first r.count page ≡ true → list_any (in_pages page) all ≡ true) rs
ranges-ram all [] sub = tt
ranges-ram all (r ∷ rs) sub =
    ((λ page h. sub page (or-left (in_pages page r) (list_any (in_pages page) rs) h)), ranges-ram all rs (λ page h. sub page (or-right (in_pages page r) (list_any (in_pages page) rs) h)))

cut-left : (boot : Boot) → AllPairs GoesBefore boot.ram → ((p : Pages) → boot.pool ≡ Some p → PoolInRam boot.ram p) → AllByRecursion (BlockLeft boot.ram boot.pool) (cut boot)
unfolding cut
cut-left boot pairs room =
    let ranges : List Pages = ram_ranges boot.ram in
    all-flat (BlockLeft boot.ram boot.pool) blocks_of (flat_map (without_pool boot.pool) ranges)
    (all-map (AreLeft boot.ram boot.pool) (λ r. AllByRecursion (BlockLeft boot.ram boot.pool) (blocks_of r)) (block-left boot.ram boot.pool) (flat_map (without_pool boot.pool) ranges)
    (all-flat (AreLeft boot.ram boot.pool) (without_pool boot.pool) ranges
    (all-with (IsWhole ranges) (λ (r : Pages). (page : ℕ) → in_range r.first r.count page ≡ true → list_any (in_pages page) ranges ≡ true) (λ r. AllByRecursion (AreLeft boot.ram boot.pool) (without_pool boot.pool r))
    (λ r whole held. range-left boot.ram boot.pool r room whole (λ page h. sym (ranges-hold page boot.ram) ∙ held page h))
    ranges (all-whole 0 ranges (ram-gapped 0 boot.ram (zero-on boot.ram) pairs)) (ranges-ram ranges ranges (λ page h. h)))))

-- ---- of a boot

-- a page that is private at first, and that the pool hasn't
pub record CutPage (boot : Boot) (page : ℕ) : Type 0 where
  pub first : IsPrivate (state_in boot.ram page)
  pub outside : (pool : Pages) → boot.pool ≡ Some pool → in_range pool.first pool.count page ≡ false

pub record CutBlock (boot : Boot) (block : Block) : Type 0 where
  pub each : (page : ℕ) → in_block page block ≡ true → CutPage boot page

first-private : (b c : Bool) → cond b (Some Pending) (cond c (Some Accepted) None) ≢ None → IsPrivate (cond b (Some Pending) (cond c (Some Accepted) None))
first-private true c some = inl refl
first-private false true some = inr refl
first-private false false some = absurd (some refl)

pub private-by : (map : List Descriptor) (table : Option Bits) (page : ℕ) → first_by map table page ≢ None → IsPrivate (first_by map table page)
private-by map None page some = first-private (unaccepted_page map page) (ram_page map page) some
private-by map (Some t) page some = first-private (unaccepted_page map page && marks_page t page) (ram_page map page) some

pool-room : (boot : Boot) (pool : Option Pages) → PoolPlaced boot pool → (p : Pages) → pool ≡ Some p → PoolInRam boot.ram p
pool-room boot None placed p is = cc
pool-room boot (Some pool) placed p is =
    let same : pool ≡ p = cc in
    λ page h.
    ram-held page boot.ram
    (placed.1.room page (sym (ap (λ n. in_range pool.first n page) placed.1.pages ∙ refl) ∙ subst (λ (q : Pages). in_range q.first q.count page ≡ true) (sym same) h))

pub cut-pages : (boot : Boot) → BootMade boot → AllByRecursion (CutBlock boot) (cut boot)
cut-pages boot made =
    let plain = made.right.uncalled in
    all-map (BlockLeft boot.ram boot.pool) (CutBlock boot)
    (λ block are. record {
      each = λ page h. (
          let left = are.each page h in
          let at = plain.ram.each page in
          record {
            first = subst IsPrivate (sym at) (private-by made.descriptors made.table page (λ none. held-ram page boot.ram left.held (at ∙ none)));
            outside = left.outside;
          });
    })
    (cut boot) (cut-left boot plain.ram.rise (pool-room boot boot.pool plain.pool))
