-- The store when boot is over: its free and its waiting blocks are the boot's.
use Rattle.std.proofs.Common.{◌≡◌, ℕ, ◌+◌, ◌^◌, ◌<◌, Bool, true, false, ◌&&◌, Option, None, Some, find, List, [], ◌∷◌, ◌++◌, refl, sym, ◌∙◌, ap, subst, cond, inl, inr, append_assoc, map, arith, eqb-true, ◌==◌}
use Rattle.std.specs.Prelude.{not, ◌||◌}
use Rattle.std.specs.List.{AllByRecursion, list_any}
use Rattle.std.proofs.lemmas.Bool.{cases_Bool}
use Rattle.std.proofs.lemmas.List.{map-append}
use Rattle.guest_base.specs.declared.memory.HostRun.{HostRun}
use Rattle.guest_base.specs.declared.memory.Page.{Page}
use Rattle.guest_base.specs.declared.memory.PageRun.{PageRun}
use Rattle.guest_base.specs.declared.memory.Block.{Block}
use Rattle.guest_base.proofs.RangeLemmas.{in_range-elim, in_range-below}
use Rattle.event_core.specs.declared.boot.Descriptor.{Descriptor}
use Rattle.event_core.specs.declared.boot.Boot.{Boot}
use Rattle.event_core.specs.declared.module_call.ModuleCall.{ModuleCall}
use Rattle.event_core.specs.Absent.{in_block}
use Rattle.event_core.specs.Blocks.{Waits, Loose, block_state, is_loose, is_waiting, is_owned, free_page, waits_at_boot}
use Rattle.event_core.specs.Boot.{InTurn, StagePart, Stage, Early, BlockAccepted, AcceptsBlock, pool_stages}
use Rattle.event_core.specs.Cut.{cut}
use Rattle.event_core.specs.Table.{Bits}
use Rattle.event_core.specs.Units.{bit_after}
use Rattle.event_core.proofs.BlockLemmas.{first-state, none-owned}
use Rattle.event_laws.specs.Coming.{BootMade, ComesTo, waits_after}
use Rattle.event_laws.proofs.RiseLemmas.{RiseTo, cut-rises}
use Rattle.event_laws.proofs.TurnLemmas.{turn-split}
use Rattle.event_laws.proofs.WaitFacts.{waits-as-comes}
use Rattle.block_laws.proofs.ListFacts.{each-split}
use Rattle.block_allocator.specs.State.{State}
use Rattle.memory_core.specs.KeptBlocks.{BlocksAfter}
use Rattle.guest_boot.specs.Putting.{PutBlock, PutsBlock, HasPut, StagesPut, waits_then}
use Rattle.guest_boot.proofs.BootLemmas.{Begins, begins-right, Went}
use Rattle.guest_boot.proofs.InTurnLemmas.{turn-append, turn-map, turn-same}
use Rattle.guest_boot.specs.Booting.{early_stages}
use Rattle.guest_boot.proofs.StageLemmas.{with_calls, part-same, cut-same, both-stages, early-grew, kept-pieces}
use Rattle.dma_map.specs.declared.pool.Layout.{Layout}

-- ---- the store by the blocks of the cut

-- whether a block waits when boot is over
first-waiting : (boot : Boot) (block : Block) → is_waiting (block_state boot [] block) ≡ waits_at_boot boot block
first-waiting boot block = ap is_waiting (first-state boot block) ∙ by_bool (waits_at_boot boot block) where
  by_bool : (b : Bool) → is_waiting (cond b Waits Loose) ≡ b
  by_bool true = refl
  by_bool false = refl

first-loose : (boot : Boot) (block : Block) → is_loose (block_state boot [] block) ≡ not (waits_at_boot boot block)
first-loose boot block = ap is_loose (first-state boot block) ∙ by_bool (waits_at_boot boot block) where
  by_bool : (b : Bool) → is_loose (cond b Waits Loose) ≡ not b
  by_bool true = refl
  by_bool false = refl

-- each block was put among the waiting ones exactly if it waits when boot is over
abbrev pub PutRight : Boot → List PutBlock → Type 0
PutRight boot puts = AllByRecursion (λ (put : PutBlock). put.waits ≡ waits_at_boot boot put.block) puts

abbrev blocks_put : List PutBlock → List Block
blocks_put puts = map (λ (put : PutBlock). put.block) puts

and_swap : (b c : Bool) → (b && c) ≡ (c && b)
and_swap true true = refl
and_swap true false = refl
and_swap false true = refl
and_swap false false = refl

waiting-put : (boot : Boot) (puts : List PutBlock) (first : ℕ) → PutRight boot puts → list_any (λ (put : PutBlock). put.waits && put.block.first == first) puts ≡ list_any (λ (block : Block). block.first == first && is_waiting (block_state boot [] block)) (blocks_put puts)
waiting-put boot [] first right = refl
waiting-put boot (put ∷ puts) first right =
    ap (λ b. b || list_any (λ (p : PutBlock). p.waits && p.block.first == first) puts) (and_swap put.waits (put.block.first == first) ∙ ap (λ b. put.block.first == first && b) (right.0 ∙ sym (first-waiting boot put.block)))
    ∙ ap (λ b. (put.block.first == first && is_waiting (block_state boot [] put.block)) || b) (waiting-put boot puts first right.1)

-- no block from a page on holds a lower one
none-above : (from to page : ℕ) (puts : List PutBlock) → page < from → RiseTo from to (blocks_put puts) → list_any (λ (put : PutBlock). not put.waits && in_block page put.block) puts ≡ false
none-above from to page [] below rise = refl
none-above from to page (put ∷ puts) below rise =
    let low = rise.0 in
    let out = in_range-below put.block.first (2 ^ put.block.order) page (omega (arith, below, low)) in
    ap (λ b. (not put.waits && b) || list_any (λ (p : PutBlock). not p.waits && in_block page p.block) puts) out
    ∙ ap (λ b. b || list_any (λ (p : PutBlock). not p.waits && in_block page p.block) puts) (no_part (not put.waits))
    ∙ none-above (put.block.first + 2 ^ put.block.order) to page puts (omega (arith, below, low)) rise.2
  where
    no_part : (b : Bool) → (b && false) ≡ false
    no_part true = refl
    no_part false = refl

-- whether the block found for a page is loose and the page unowned
abbrev free-by : Boot → ℕ → Option Block → Bool
free-by boot page found = elim found as (λ _. Bool) [ None ↦ false | Some block ↦ is_loose (block_state boot [] block) && not (is_owned [] page) ]

free-put : (boot : Boot) (from to page : ℕ) (puts : List PutBlock) → RiseTo from to (blocks_put puts) → PutRight boot puts → list_any (λ (put : PutBlock). not put.waits && in_block page put.block) puts ≡ free-by boot page (find (in_block page) (blocks_put puts))
free-put boot from to page [] rise right = refl
free-put boot from to page (put ∷ puts) rise right =
    let rest : Bool = list_any (λ (p : PutBlock). not p.waits && in_block page p.block) puts in
    let found : Option Block = find (in_block page) (blocks_put puts) in
    elim (cases_Bool (in_block page put.block)) [
      | inl here ↦
          (let high = (in_range-elim put.block.first (2 ^ put.block.order) page here).1 in
          let none : rest ≡ false = none-above (put.block.first + 2 ^ put.block.order) to page puts high rise.2 in
          ap (λ b. (not put.waits && b) || rest) here ∙ ap (λ b. (not put.waits && true) || b) none ∙ whole (not put.waits)
          ∙ ap not right.0 ∙ sym (first-loose boot put.block) ∙ sym (unowned (is_loose (block_state boot [] put.block)))
          ∙ sym (ap (λ b. free-by boot page (cond b (Some put.block) found)) here))
      | inr out ↦
          ap (λ b. (not put.waits && b) || rest) out ∙ ap (λ b. b || rest) (no_part (not put.waits))
          ∙ free-put boot (put.block.first + 2 ^ put.block.order) to page puts rise.2 right.1
          ∙ sym (ap (λ b. free-by boot page (cond b (Some put.block) found)) out)
    ]
  where
    whole : (b : Bool) → ((b && true) || false) ≡ b
    whole true = refl
    whole false = refl

    no_part : (b : Bool) → (b && false) ≡ false
    no_part true = refl
    no_part false = refl

    unowned : (b : Bool) → (b && not (is_owned [] page)) ≡ b
    unowned b = ap (λ o. b && not o) (none-owned page) ∙ and_true b
      where
        and_true : (b : Bool) → (b && true) ≡ b
        and_true true = refl
        and_true false = refl

free-first : (boot : Boot) (page : ℕ) → free_page boot [] page ≡ free-by boot page (find (in_block page) (cut boot))
unfolding free_page
free-first boot page = refl

after-put : (boot : Boot) (puts : List PutBlock) (store : State) (to : ℕ) → blocks_put puts ≡ cut boot → RiseTo 0 to (cut boot) → PutRight boot puts → HasPut puts store → BlocksAfter boot [] store
after-put boot puts store to are rise right has = record {
  free = λ page. has.free page ∙ free-put boot 0 to page puts (subst (RiseTo 0 to) (sym are) rise) right ∙ ap (λ bs. free-by boot page (find (in_block page) bs)) are ∙ sym (free-first boot page);
  waiting = λ first. has.waiting first ∙ waiting-put boot puts first right ∙ ap (list_any (λ (block : Block). block.first == first && is_waiting (block_state boot [] block))) are;
}

-- ---- when boot came to each block

-- the calls, which the definitions don't read
waits-same : (boot : Boot) (calls done : List ModuleCall) (block : Block) → waits_after boot done block ≡ waits_after (with_calls boot calls) done block
unfolding bit_after
waits-same boot calls done block = refl

-- the parts of blocks are those of the stages
stages-put : (boot : Boot) (calls done : List ModuleCall) (puts : List PutBlock) (now : List ModuleCall) (stop : Option Page) → InTurn (PutsBlock boot) done puts now stop → InTurn (StagePart (with_calls boot calls)) done (map BlockAccepted (blocks_put puts)) now stop
stages-put boot calls done puts now stop turn =
    turn-same (StagePart boot) (StagePart (with_calls boot calls)) done (map BlockAccepted (blocks_put puts)) now stop (part-same boot calls)
    (turn-map (StagePart boot) BlockAccepted done (blocks_put puts) now stop
    (turn-map (AcceptsBlock boot) (λ (put : PutBlock). put.block) done puts now stop
    (turn-same (PutsBlock boot) (λ before put calls end. AcceptsBlock boot before put.block calls end) done puts now stop (λ before put calls end part. part.0) turn)))

-- where the first of some blocks was put
first-put : (boot : Boot) (done : List ModuleCall) (put : PutBlock) (puts : List PutBlock) (now : List ModuleCall) → InTurn (PutsBlock boot) done (put ∷ puts) now None → put.waits ≡ waits_then boot done put.block
first-put boot done put puts now (inl stopped) = let no : None ≡ Some stopped.0 = stopped.2 in cc
first-put boot done put puts now (inr (calls, later, is, part, rest)) = part.1

-- a smaller block doesn't wait
small-loose : (boot : Boot) (block : Block) → (block.order == 10) ≡ false → waits_at_boot boot block ≡ false
unfolding waits_at_boot
small-loose boot block small = rw (small, waits_at_boot) refl

waits-right : (boot : Boot) (calls done : List ModuleCall) (block : Block) → ComesTo (with_calls boot calls) block done → waits_then boot done block ≡ waits_at_boot (with_calls boot calls) block
waits-right boot calls done block comes =
    elim (cases_Bool (block.order == 10)) [
      | inl ten ↦ ap (λ b. b && waits_after boot done block) ten ∙ waits-same boot calls done block ∙ sym (waits-as-comes (with_calls boot calls) block done comes (eqb-true block.order 10 ten))
      | inr small ↦ ap (λ b. b && waits_after boot done block) small ∙ sym (small-loose (with_calls boot calls) block small)
    ]

module _ {descriptors : List Descriptor} {hosts : List HostRun} {table : Option Bits} {slots areas cpus : ℕ} {ram : List PageRun} {bits : Option Bits} {pieces : List PageRun} {layout : Option Layout} {boot : Boot} (calls made : List ModuleCall) (begin : Begins descriptors hosts table slots areas cpus ram bits pieces layout boot) (same : calls ≡ made) (went : Went boot pieces made None) where
  pub boot-made : BootMade (with_calls boot calls)
  boot-made = record {
    descriptors = descriptors;
    hosts = hosts;
    table = table;
    slots = slots;
    areas = areas;
    cpus = cpus;
    rules = begin.rules;
    fits = begin.fits;
    right = begins-right calls made begin same went;
  }

  -- the early pieces come first, and then the pool
  early-done : (store : State) (s : StagesPut boot [] pieces made store) → InTurn (StagePart (with_calls boot calls)) [] (map Early begin.begins.early.pieces ++ pool_stages boot.pool) s.opened None
  early-done store s =
      let own : List Stage = early_stages pieces ++ pool_stages boot.pool in
      let same_stages : own ≡ map Early begin.begins.early.pieces ++ pool_stages boot.pool =
      ap (λ runs. early_stages runs ++ pool_stages boot.pool) begin.begins.early.are ∙ ap (λ stages. stages ++ pool_stages boot.pool) (kept-pieces begin.begins.early.pieces)
      in
      let grown = both-stages boot [] s.middle s.opened (early_stages pieces) (pool_stages boot.pool) (early-grew boot [] s.middle pieces s.early) s.pool in
      let P : List ModuleCall → Type 0 = λ m. InTurn (StagePart boot) [] own m None in
      let Q : List Stage → Type 0 = λ xs. InTurn (StagePart boot) [] xs s.opened None in
      turn-same (StagePart boot) (StagePart (with_calls boot calls)) [] (map Early begin.begins.early.pieces ++ pool_stages boot.pool) s.opened None (part-same boot calls)
      (subst Q same_stages (subst P (sym grown.1) grown.2))

  -- boot comes to each block, with the calls done that stand before it
  comes-put : (store : State) (s : StagesPut boot [] pieces made store) (lower higher : List PutBlock) (put : PutBlock) → s.blocks.puts ≡ lower ++ put ∷ higher → put.waits ≡ waits_at_boot (with_calls boot calls) put.block
  unfolding boot-made
  comes-put store s lower higher put is =
      let now = s.blocks.parts in
      let front : List Stage = map Early begin.begins.early.pieces ++ pool_stages boot.pool in
      let P : List PutBlock → Type 0 = λ puts. InTurn (PutsBlock boot) s.opened puts now.0 None in
      let split = turn-split (PutsBlock boot) s.opened lower (put ∷ higher) now.0 (subst P is now.2) in
      let done : List ModuleCall = s.opened ++ split.first in
      let all : cut (with_calls boot calls) ≡ blocks_put lower ++ put.block ∷ blocks_put higher =
      sym (cut-same boot calls) ∙ sym s.blocks.are ∙ ap blocks_put is ∙ map-append (λ (p : PutBlock). p.block) lower (put ∷ higher)
      in
      first-put boot done put higher split.second split.right
      ∙ waits-right boot calls done put.block
      (record {
        made = boot-made;
        pieces = begin.begins.early.pieces;
        early = begin.begins.early.early;
        before = front ++ map BlockAccepted (blocks_put lower);
        later = map BlockAccepted (blocks_put higher);
        stages =
            ap (λ (blocks : List Block). front ++ map BlockAccepted blocks) all
            ∙ ap (λ stages. front ++ stages) (map-append BlockAccepted (blocks_put lower) (put.block ∷ blocks_put higher))
            ∙ sym (append_assoc front (map BlockAccepted (blocks_put lower)) (BlockAccepted put.block ∷ map BlockAccepted (blocks_put higher)));
        rest = split.second;
        calls = same ∙ now.1 ∙ ap (λ m. s.opened ++ m) split.is ∙ sym (append_assoc s.opened split.first split.second);
        did = turn-append (StagePart (with_calls boot calls)) [] front (map BlockAccepted (blocks_put lower)) s.opened split.first None (early-done store s) (stages-put boot calls s.opened lower split.first None split.left);
        does = stages-put boot calls done (put ∷ higher) split.second None split.right;
      })

  put-right : (store : State) (s : StagesPut boot [] pieces made store) → PutRight (with_calls boot calls) s.blocks.puts
  put-right store s = each-split (λ (put : PutBlock). put.waits ≡ waits_at_boot (with_calls boot calls) put.block) [] s.blocks.puts (comes-put store s)

  -- the store is the boot's
  pub store-right : (store : State) → StagesPut boot [] pieces made store → BlocksAfter (with_calls boot calls) [] store
  store-right store s =
      let rises = cut-rises (with_calls boot calls) boot-made.right.uncalled.ram.rise in
      after-put (with_calls boot calls) s.blocks.puts store rises.0 (s.blocks.are ∙ cut-same boot calls) rises.1 (put-right store s) s.blocks.has
