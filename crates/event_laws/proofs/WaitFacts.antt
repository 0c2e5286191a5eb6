-- Which blocks wait at boot, by the calls before them.
use Rattle.std.proofs.Common.{◌≡◌, ℕ, ◌+◌, ◌-◌, ◌*◌, ◌/◌, ◌%◌, ◌^◌, ◌<◌, ◌≤◌, max, Bool, true, false, Option, None, Some, List, [], ◌∷◌, ◌++◌, map, refl, sym, ◌∙◌, ap, subst, inl, inr, arith, ◌==◌, eq-eqb, nat_lt, append_assoc, append-nil}
use Rattle.std.specs.Prelude.{◌⊎◌, fold}
use Rattle.std.specs.List.{AllByRecursion}
use Rattle.std.specs.Option.{option_map_or}
use Rattle.std.proofs.lemmas.Bool.{cases_Bool, and_parts}
use Rattle.std.proofs.lemmas.List.Elements.{filter-append}
use mathlib.Core.Path.{fun_ext}
use Rattle.guest_base.specs.Ranges.{in_range}
use Rattle.guest_base.specs.Search.{any_such}
use Rattle.guest_base.proofs.RangeLemmas.{in_range-intro}
use Rattle.guest_base.proofs.SearchLemmas.{any_such_same}
use Rattle.guest_base.specs.declared.memory.Page.{Page}
use Rattle.guest_base.specs.declared.memory.Pages.{Pages}
use Rattle.guest_base.specs.declared.memory.Units.{Units}
use Rattle.guest_base.specs.declared.memory.Block.{Block}
use Rattle.event_core.specs.declared.boot.Boot.{Boot}
use Rattle.event_core.specs.declared.module_call.CallKind.TheVariants.{Accept}
use Rattle.event_core.specs.declared.module_call.PortAnswer.TheVariants.{Ok as AnsweredOk}
use Rattle.event_core.specs.declared.module_call.ModuleCall.{ModuleCall}
use Rattle.event_core.specs.Blocks.{up_to_share, behind_share, calls_below, calls_before, block_units, waits_at_boot}
use Rattle.event_core.specs.Boot.{InTurn, StagePart, Stage, Early, PoolAccepted, PoolShared, BlockAccepted, AcceptsPiece, AcceptsRange, pending_piece, pool_stages, share_call}
use Rattle.event_core.specs.Calls.{covers}
use Rattle.event_core.specs.Units.{bit_of, bit_after, unit_count, unit_first, unit_pages, units_end, mark_step, is_marked}
use Rattle.event_laws.specs.Coming.{ComesTo, waits_after}
use Rattle.event_core.proofs.BootFacts.{all-append, in-turn-each}
use Rattle.event_laws.proofs.TurnLemmas.{all-map, turn-split}
use Rattle.event_laws.proofs.StageLemmas.{stages-split}
use Rattle.event_laws.proofs.RiseLemmas.{RiseTo, cut-rises, rise-split, rise-below, rise-above}
use Rattle.event_laws.proofs.PlaceLemmas.{LiesIn, steps-in, Begins, range-begins, guarded-at, UnitFits, begins-above, ends-below, unit-some}
use Rattle.event_laws.proofs.EarlyLemmas.{PieceApart, early-apart}
use Rattle.event_laws.proofs.UnitFacts.{units-fit}
use Rattle.event_laws.proofs.MarkLemmas.{below-none, below-all, Counts, marks-below, marks-none, below-keep, up-to, behind}

-- ---- early pieces

-- the call accepts, and is about no page of a unit whose bit is set
abbrev EarlyCall : Boot → ModuleCall → Type 0
EarlyCall boot call = (call.kind ≡ Accept) × ((unit page : ℕ) → bit_of boot.bits unit ≡ true → in_range (unit_first boot unit) (unit_pages boot) page ≡ true → covers call page ≡ false)

piece-calls : (boot : Boot) (done : List ModuleCall) (pages : Pages) (calls : List ModuleCall) (stop : Option Page) → PieceApart boot pages → AcceptsPiece boot done pages calls stop → AllByRecursion (EarlyCall boot) calls
piece-calls boot done pages calls stop apart part =
    all-map (LiesIn (pending_piece boot done pages)) (EarlyCall boot)
    (λ call lies. (
      lies.kind,
      λ unit page set inside. elim (cases_Bool (covers call page)) [
        | inl covered ↦
            (let here : in_range pages.first pages.count page ≡ true = (and_parts _ _ (lies.pages page covered)).0 in
            let no : true ≡ false = sym here ∙ apart unit page set inside in
            cc)
        | inr uncovered ↦ uncovered
      ],
    ))
    calls (steps-in boot.hosts (pending_piece boot done pages) _ _ None calls part.0)

abbrev StageApart : Boot → Stage → Type 0
StageApart boot (Early pages) = PieceApart boot pages
StageApart boot (PoolAccepted pages) = ⊥
StageApart boot (PoolShared pages) = ⊥
StageApart boot (BlockAccepted block) = ⊥

apart-calls : (boot : Boot) (done : List ModuleCall) (stage : Stage) (calls : List ModuleCall) (stop : Option Page) → StageApart boot stage → StagePart boot done stage calls stop → AllByRecursion (EarlyCall boot) calls
apart-calls boot done (Early pages) calls stop apart part = piece-calls boot done pages calls stop apart part
apart-calls boot done (PoolAccepted pages) calls stop apart part = absurd apart
apart-calls boot done (PoolShared pages) calls stop apart part = absurd apart
apart-calls boot done (BlockAccepted block) calls stop apart part = absurd apart

stages-apart : (boot : Boot) (pieces : List Pages) → AllByRecursion (PieceApart boot) pieces → AllByRecursion (StageApart boot) (map Early pieces)
stages-apart boot [] all = tt
stages-apart boot (p ∷ pieces) all = (all.0, stages-apart boot pieces all.1)

early-calls : (boot : Boot) (done : List ModuleCall) (pieces : List Pages) (calls : List ModuleCall) → AllByRecursion (PieceApart boot) pieces → InTurn (StagePart boot) done (map Early pieces) calls None → AllByRecursion (EarlyCall boot) calls
early-calls boot done pieces calls all turn = in-turn-each (StagePart boot) (StageApart boot) (EarlyCall boot) (apart-calls boot) done (map Early pieces) calls None (stages-apart boot pieces all) turn

-- ---- ranges of pages that are accepted

pages-begin : (boot : Boot) (done : List ModuleCall) (low first count : ℕ) (calls : List ModuleCall) (stop : Option Page) → UnitFits boot.unit boot.base → low % 1024 ≡ 0 → low ≤ first → AcceptsRange boot done (4096 * first) (4096 * count) calls stop → AllByRecursion (Begins low (first + count + 512)) calls
pages-begin boot done low first count calls stop fits even less part =
    range-begins boot done low (first + count + 512) (4096 * first) (4096 * count) calls stop
    (λ units is.
    let at = guarded-at boot.unit boot.base (unit_count boot.bits) (4096 * first) (4096 * count) units (unit-some boot.unit boot.base fits) is in
    let from : unit_first boot units.first ≡ boot.base / 4096 + ((max (4096 * first) boot.base - boot.base) / boot.unit) * (boot.unit / 4096) = ap (λ n. boot.base / 4096 + n * (boot.unit / 4096)) at.first in
    let above = begins-above boot.unit boot.base low first fits even less in
    (omega (arith, from, above), ends-below boot.unit boot.base first count (units_end units) fits at.reaches at.end))
    part

-- ---- blocks

abbrev LowStage : ℕ → Stage → Type 0
LowStage end (Early pages) = ⊥
LowStage end (PoolAccepted pages) = ⊥
LowStage end (PoolShared pages) = ⊥
LowStage end (BlockAccepted b) = b.first + 2 ^ b.order + 512 ≤ end

low-block : (boot : Boot) (end : ℕ) (done : List ModuleCall) (b : Block) (calls : List ModuleCall) (stop : Option Page) (ten : Bool) → UnitFits boot.unit boot.base → b.first + 2 ^ b.order + 512 ≤ end → elim ten as (λ _. Type 0) [ true ↦ (calls ≡ []) × (stop ≡ None) | false ↦ AcceptsRange boot done (4096 * b.first) (4096 * 2 ^ b.order) calls stop ] → AllByRecursion (Begins 0 end) calls
low-block boot end done b calls stop true fits low part = subst (AllByRecursion (Begins 0 end)) (sym part.0) tt
low-block boot end done b calls stop false fits low part =
    all-map (Begins 0 (b.first + 2 ^ b.order + 512)) (Begins 0 end)
    (λ call at. let high = at.high in record { kind = at.kind; low = at.low; high = omega (arith, high, low) })
    calls (pages-begin boot done 0 b.first (2 ^ b.order) calls stop fits refl (omega arith) part)

low-stage : (boot : Boot) (end : ℕ) → UnitFits boot.unit boot.base → (done : List ModuleCall) (stage : Stage) (calls : List ModuleCall) (stop : Option Page) → LowStage end stage → StagePart boot done stage calls stop → AllByRecursion (Begins 0 end) calls
low-stage boot end fits done (Early pages) calls stop low part = absurd low
low-stage boot end fits done (PoolAccepted pages) calls stop low part = absurd low
low-stage boot end fits done (PoolShared pages) calls stop low part = absurd low
low-stage boot end fits done (BlockAccepted b) calls stop low part = low-block boot end done b calls stop (b.order == 10) fits low part

low-stages : (first end : ℕ) (blocks : List Block) → first + 512 ≤ end → AllByRecursion (λ (b : Block). b.first + 2 ^ b.order ≤ first) blocks → AllByRecursion (LowStage end) (map BlockAccepted blocks)
low-stages first end [] far all = tt
low-stages first end (b ∷ blocks) far all = let here = all.0 in (omega (arith, here, far), low-stages first end blocks far all.1)

-- a block of order 10, or one from a page on
abbrev HighStage : ℕ → Stage → Type 0
HighStage low (Early pages) = ⊥
HighStage low (PoolAccepted pages) = ⊥
HighStage low (PoolShared pages) = ⊥
HighStage low (BlockAccepted b) = (b.order ≡ 10) ⊎ (low ≤ b.first)

high-block : (boot : Boot) (low : ℕ) (done : List ModuleCall) (b : Block) (calls : List ModuleCall) (stop : Option Page) (ten : Bool) → (b.order == 10) ≡ ten → UnitFits boot.unit boot.base → low % 1024 ≡ 0 → (b.order ≡ 10) ⊎ (low ≤ b.first) → elim ten as (λ _. Type 0) [ true ↦ (calls ≡ []) × (stop ≡ None) | false ↦ AcceptsRange boot done (4096 * b.first) (4096 * 2 ^ b.order) calls stop ] → AllByRecursion (λ (call : ModuleCall). low ≤ call.first) calls
high-block boot low done b calls stop true is fits even high part = subst (AllByRecursion (λ (call : ModuleCall). low ≤ call.first)) (sym part.0) tt
high-block boot low done b calls stop false is fits even (inl ten) part = let no : true ≡ false = sym (eq-eqb b.order 10 ten) ∙ is in cc
high-block boot low done b calls stop false is fits even (inr high) part =
    all-map (Begins low (b.first + 2 ^ b.order + 512)) (λ (call : ModuleCall). low ≤ call.first) (λ call at. at.low)
    calls (pages-begin boot done low b.first (2 ^ b.order) calls stop fits even high part)

high-stage : (boot : Boot) (low : ℕ) → UnitFits boot.unit boot.base → low % 1024 ≡ 0 → (done : List ModuleCall) (stage : Stage) (calls : List ModuleCall) (stop : Option Page) → HighStage low stage → StagePart boot done stage calls stop → AllByRecursion (λ (call : ModuleCall). low ≤ call.first) calls
high-stage boot low fits even done (Early pages) calls stop high part = absurd high
high-stage boot low fits even done (PoolAccepted pages) calls stop high part = absurd high
high-stage boot low fits even done (PoolShared pages) calls stop high part = absurd high
high-stage boot low fits even done (BlockAccepted b) calls stop high part = high-block boot low done b calls stop (b.order == 10) refl fits even high part

high-stages : (low : ℕ) (blocks : List Block) → AllByRecursion (λ (b : Block). low ≤ b.first) blocks → AllByRecursion (HighStage low) (map BlockAccepted blocks)
high-stages low [] all = tt
high-stages low (b ∷ blocks) all = (inr all.0, high-stages low blocks all.1)

-- ---- where boot stands

-- boot stands at a block of order 10: the lower blocks lie below it, and the calls that are left begin at or above its end
record Stands (boot : Boot) (block : Block) (pieces : List Pages) (lower : List Block) (pool : Option Pages) (done rest : List ModuleCall) : Type 0 where
  pub fits : UnitFits boot.unit boot.base
  pub apart : AllByRecursion (PieceApart boot) pieces
  pub ten : block.order ≡ 10
  pub low : AllByRecursion (LowStage (block.first + 2 ^ block.order)) (map BlockAccepted lower)
  pub calls : boot.calls ≡ done ++ rest
  pub did : InTurn (StagePart boot) [] (map Early pieces ++ (pool_stages pool ++ map BlockAccepted lower)) done None
  pub left : AllByRecursion (λ (call : ModuleCall). block.first + 2 ^ block.order ≤ call.first) rest

-- the calls of lower blocks begin below the block's end
lower-calls : (boot : Boot) (block : Block) (pieces : List Pages) (lower : List Block) (pool : Option Pages) (done rest : List ModuleCall) → Stands boot block pieces lower pool done rest → (before calls : List ModuleCall) → InTurn (StagePart boot) before (map BlockAccepted lower) calls None → AllByRecursion (Begins 0 (block.first + 2 ^ block.order)) calls
lower-calls boot block pieces lower pool done rest at before calls turn =
    in-turn-each (StagePart boot) (LowStage (block.first + 2 ^ block.order)) (Begins 0 (block.first + 2 ^ block.order)) (low-stage boot (block.first + 2 ^ block.order) at.fits) before (map BlockAccepted lower) calls None at.low turn

-- ---- bits

bits-same : (boot : Boot) (xs ys : List ModuleCall) → ((unit page : ℕ) → in_range (unit_first boot unit) (unit_pages boot) page ≡ true → is_marked (bit_of boot.bits unit) xs page ≡ is_marked (bit_of boot.bits unit) ys page) → (unit : ℕ) → bit_after boot xs unit ≡ bit_after boot ys unit
unfolding bit_after
bits-same boot xs ys same unit =
    ap (λ (b : Bool). elim (nat_lt unit (unit_count boot.bits)) as (λ _. Bool) [ true ↦ b | false ↦ false ])
    (any_such_same (is_marked (bit_of boot.bits unit) xs) (is_marked (bit_of boot.bits unit) ys) (unit_first boot unit) (unit_pages boot)
    (record { same = λ page low high. same unit page (in_range-intro (unit_first boot unit) (unit_pages boot) page low high) }))

waits-same : (boot : Boot) (block : Block) (done before : List ModuleCall) → block.order ≡ 10 → calls_before boot boot.pool block ≡ before → ((unit : ℕ) → bit_after boot before unit ≡ bit_after boot done unit) → waits_at_boot boot block ≡ waits_after boot done block
unfolding waits_at_boot
waits-same boot block done before ten is same =
    ap (λ (b : Bool). elim b as (λ _. Bool) [ true ↦ waits_after boot (calls_before boot boot.pool block) block | false ↦ false ]) (eq-eqb block.order 10 ten)
    ∙ ap (λ (bits : ℕ → Bool). option_map_or (λ (units : Units). any_such bits units.first units.count) (block_units boot block) false) (ap (bit_after boot) is ∙ fun_ext same)

-- ---- without a pool

below-left : (end : ℕ) (calls done rest : List ModuleCall) → calls ≡ done ++ rest → AllByRecursion (λ (call : ModuleCall). end ≤ call.first) rest → calls_below end calls ≡ calls_below end done
below-left end calls done rest is left =
    ap (calls_below end) is ∙ filter-append (λ (call : ModuleCall). nat_lt call.first end) done rest
    ∙ ap (λ cs. calls_below end done ++ cs) (below-none end rest left) ∙ append-nil (calls_below end done)

abbrev Harmless : Boot → ℕ → ModuleCall → Type 0
Harmless boot end call = (call.kind ≡ Accept) × ((call.first < end) ⊎ ((unit page : ℕ) → bit_of boot.bits unit ≡ true → in_range (unit_first boot unit) (unit_pages boot) page ≡ true → covers call page ≡ false))

harmless-counts : (boot : Boot) (end unit page : ℕ) → bit_of boot.bits unit ≡ true → in_range (unit_first boot unit) (unit_pages boot) page ≡ true → (call : ModuleCall) → Harmless boot end call → Counts end page call
harmless-counts boot end unit page set inside call (kind, inl low) = inl low
harmless-counts boot end unit page set inside call (kind, inr apart) = inr (apart unit page set inside)

marks-alone : (boot : Boot) (end : ℕ) (done : List ModuleCall) → AllByRecursion (Harmless boot end) done → (unit page : ℕ) → in_range (unit_first boot unit) (unit_pages boot) page ≡ true → is_marked (bit_of boot.bits unit) (calls_below end done) page ≡ is_marked (bit_of boot.bits unit) done page
marks-alone boot end done all unit page inside =
    let accepts : AllByRecursion (λ (call : ModuleCall). call.kind ≡ Accept) done = all-map (Harmless boot end) (λ (call : ModuleCall). call.kind ≡ Accept) (λ call h. h.0) done all in
    elim (cases_Bool (bit_of boot.bits unit)) [
      | inl set ↦
          ap (λ b. fold (mark_step page) b (calls_below end done)) set
          ∙ marks-below end page true done (all-map (Harmless boot end) (Counts end page) (harmless-counts boot end unit page set inside) done all)
          ∙ sym (ap (λ b. fold (mark_step page) b done) set)
      | inr clear ↦
          ap (λ b. fold (mark_step page) b (calls_below end done)) clear
          ∙ marks-none page (calls_below end done) (below-keep (λ (call : ModuleCall). call.kind ≡ Accept) end done accepts)
          ∙ sym (marks-none page done accepts)
          ∙ sym (ap (λ b. fold (mark_step page) b done) clear)
    ]

waits-alone : (boot : Boot) (block : Block) (pieces : List Pages) (lower : List Block) (done rest : List ModuleCall) → boot.pool ≡ None → Stands boot block pieces lower None done rest → waits_at_boot boot block ≡ waits_after boot done block
waits-alone boot block pieces lower done rest alone at =
    let end : ℕ = block.first + 2 ^ block.order in
    let s = turn-split (StagePart boot) [] (map Early pieces) (map BlockAccepted lower) done at.did in
    let early = early-calls boot [] pieces s.first at.apart s.left in
    let low = lower-calls boot block pieces lower None done rest at ([] ++ s.first) s.second s.right in
    let all : AllByRecursion (Harmless boot end) done =
    subst (AllByRecursion (Harmless boot end)) (sym s.is)
    (all-append (Harmless boot end) s.first s.second
    (all-map (EarlyCall boot) (Harmless boot end) (λ call e. (e.0, inr e.1)) s.first early)
    (all-map (Begins 0 end) (Harmless boot end) (λ call b. (b.kind, inl b.high)) s.second low))
    in
    waits-same boot block done (calls_below end done) at.ten
    (ap (λ pool. calls_before boot pool block) alone ∙ below-left end boot.calls done rest at.calls at.left)
    (bits-same boot (calls_below end done) done (marks-alone boot end done all))

-- ---- with a pool

record PoolParts (boot : Boot) (pool : Pages) (stages : List Stage) (calls : List ModuleCall) : Type 0 where
  pub accepts : List ModuleCall
  pub behind : List ModuleCall
  pub before : List ModuleCall
  pub is : calls ≡ accepts ++ share_call pool AnsweredOk ∷ behind
  pub kinds : AllByRecursion (λ (call : ModuleCall). call.kind ≡ Accept) accepts
  pub turn : InTurn (StagePart boot) before stages behind None

pool-parts : (boot : Boot) (done : List ModuleCall) (pool : Pages) (stages : List Stage) (calls : List ModuleCall) → UnitFits boot.unit boot.base → InTurn (StagePart boot) done (PoolAccepted pool ∷ PoolShared pool ∷ stages) calls None → PoolParts boot pool stages calls
pool-parts boot done pool stages calls fits (inl stopped) = let no : None ≡ Some stopped.0 = stopped.2 in cc
pool-parts boot done pool stages calls fits (inr (now, later, is, part, inl stopped)) = let no : None ≡ Some stopped.0 = stopped.2 in cc
pool-parts boot done pool stages calls fits (inr (now, later, is, part, inr (share, behind, later_is, shared, rest))) = record {
  accepts = now;
  behind = behind;
  before = (done ++ now) ++ share;
  is = is ∙ ap (λ cs. now ++ cs) (later_is ∙ ap (λ cs. cs ++ behind) shared);
  kinds =
      all-map (Begins 0 (pool.first + pool.count + 512)) (λ (call : ModuleCall). call.kind ≡ Accept) (λ call b. b.kind)
      now (pages-begin boot done 0 pool.first pool.count now None fits refl (omega arith) part);
  turn = rest;
}

before-pool : (boot : Boot) (block : Block) (pool : Pages) (front behind_it rest : List ModuleCall) → boot.calls ≡ (front ++ share_call pool AnsweredOk ∷ behind_it) ++ rest → AllByRecursion (λ (call : ModuleCall). call.kind ≡ Accept) front → AllByRecursion (Begins 0 (block.first + 2 ^ block.order)) behind_it → AllByRecursion (λ (call : ModuleCall). block.first + 2 ^ block.order ≤ call.first) rest → calls_before boot (Some pool) block ≡ front ++ share_call pool AnsweredOk ∷ behind_it
before-pool boot block pool front behind_it rest is kinds low left =
    let end : ℕ = block.first + 2 ^ block.order in
    let share : ModuleCall = share_call pool AnsweredOk in
    let all : boot.calls ≡ front ++ share ∷ (behind_it ++ rest) = is ∙ append_assoc front (share ∷ behind_it) rest in
    let lows = all-map (Begins 0 end) (λ (call : ModuleCall). call.first < end) (λ call b. b.high) behind_it low in
    ap (λ cs. cs ++ calls_below end (behind_share boot.calls)) (ap up_to_share all ∙ up-to front share (behind_it ++ rest) kinds refl)
    ∙ ap (λ cs. (front ++ share ∷ []) ++ calls_below end cs) (ap behind_share all ∙ behind front share (behind_it ++ rest) kinds refl)
    ∙ ap (λ cs. (front ++ share ∷ []) ++ cs) (below-left end (behind_it ++ rest) behind_it rest refl left ∙ below-all end behind_it lows)
    ∙ append_assoc front (share ∷ []) behind_it

waits-pooled : (boot : Boot) (block : Block) (pieces : List Pages) (lower : List Block) (pool : Pages) (done rest : List ModuleCall) → boot.pool ≡ Some pool → Stands boot block pieces lower (Some pool) done rest → waits_at_boot boot block ≡ waits_after boot done block
waits-pooled boot block pieces lower pool done rest pooled at =
    let s = turn-split (StagePart boot) [] (map Early pieces) (PoolAccepted pool ∷ PoolShared pool ∷ map BlockAccepted lower) done at.did in
    let early = early-calls boot [] pieces s.first at.apart s.left in
    let p = pool-parts boot ([] ++ s.first) pool (map BlockAccepted lower) s.second at.fits s.right in
    let low = lower-calls boot block pieces lower (Some pool) done rest at p.before p.behind p.turn in
    let is : done ≡ (s.first ++ p.accepts) ++ share_call pool AnsweredOk ∷ p.behind = s.is ∙ ap (λ cs. s.first ++ cs) p.is ∙ sym (append_assoc s.first p.accepts (share_call pool AnsweredOk ∷ p.behind)) in
    let kinds : AllByRecursion (λ (call : ModuleCall). call.kind ≡ Accept) (s.first ++ p.accepts) =
    all-append (λ (call : ModuleCall). call.kind ≡ Accept) s.first p.accepts (all-map (EarlyCall boot) (λ (call : ModuleCall). call.kind ≡ Accept) (λ call e. e.0) s.first early) p.kinds
    in
    waits-same boot block done done at.ten
    (ap (λ found. calls_before boot found block) pooled ∙ before-pool boot block pool (s.first ++ p.accepts) p.behind rest (at.calls ∙ ap (λ cs. cs ++ rest) is) kinds low at.left ∙ sym is)
    (λ unit. refl)

-- ---- both

waits-by : (boot : Boot) (block : Block) (pieces : List Pages) (lower : List Block) (pool : Option Pages) (done rest : List ModuleCall) → boot.pool ≡ pool → Stands boot block pieces lower pool done rest → waits_at_boot boot block ≡ waits_after boot done block
waits-by boot block pieces lower None done rest is at = waits-alone boot block pieces lower done rest is at
waits-by boot block pieces lower (Some pool) done rest is at = waits-pooled boot block pieces lower pool done rest is at

pub waits-as-comes : (boot : Boot) (block : Block) (done : List ModuleCall) → ComesTo boot block done → block.order ≡ 10 → waits_at_boot boot block ≡ waits_after boot done block
waits-as-comes boot block done comes ten =
    let made = comes.made in
    let right = made.right.uncalled in
    let split = stages-split boot comes.pieces comes.before block comes.later comes.stages in
    let rises = cut-rises boot right.ram.rise in
    let at = rise-split 0 rises.0 split.lower block split.higher (subst (RiseTo 0 rises.0) split.cut_is rises.1) in
    let size : 2 ^ block.order ≡ 1024 = ap (λ n. 2 ^ n) ten in
    let even : (block.first + 2 ^ block.order) % 1024 ≡ 0 =
    (let stands : block.first % 1024 ≡ 0 = ap (λ n. block.first % n) (sym size) ∙ at.stands in omega (arith, stands, size))
    in
    let fits = units-fit made.descriptors made.table boot.unit boot.base made.fits right.unit right.base in
    let low = rise-below 0 block.first split.lower at.below in
    let high = rise-above (block.first + 2 ^ block.order) (block.first + 2 ^ block.order) rises.0 split.higher (omega arith) at.above in
    let highs : AllByRecursion (HighStage (block.first + 2 ^ block.order)) (BlockAccepted block ∷ comes.later) =
    (inl ten, subst (AllByRecursion (HighStage (block.first + 2 ^ block.order))) (sym split.later_is) (high-stages (block.first + 2 ^ block.order) split.higher high))
    in
    waits-by boot block comes.pieces split.lower boot.pool done comes.rest refl
    (record {
      fits = fits;
      apart = early-apart boot made comes.pieces comes.early;
      ten = ten;
      low = low-stages block.first (block.first + 2 ^ block.order) split.lower (omega (arith, size)) low;
      calls = comes.calls;
      did = subst (λ stages. InTurn (StagePart boot) [] stages done None) split.before_is comes.did;
      left =
          in-turn-each (StagePart boot) (HighStage (block.first + 2 ^ block.order)) (λ (call : ModuleCall). block.first + 2 ^ block.order ≤ call.first)
          (high-stage boot (block.first + 2 ^ block.order) fits even) done (BlockAccepted block ∷ comes.later) comes.rest None highs comes.does;
    })
