-- The blocks that boot has put into the store so far, and those that are left.
use Rattle.std.proofs.Common.{◌≡◌, ℕ, ◌+◌, ◌*◌, ◌/◌, ◌^◌, ◌<◌, ◌≤◌, Bool, true, false, ◌&&◌, None, List, [], ◌∷◌, ◌++◌, refl, sym, ◌∙◌, ap, subst, inr, append_assoc, append-nil, map, length, drop, get_or, arith, eqb-true, ne_eqb, ◌==◌}
use Rattle.std.specs.Prelude.{not, ◌||◌, Result, Ok, Err, OnOk}
use Rattle.std.specs.List.{AllPairs, list_any}
use Rattle.std.proofs.lemmas.Bool.{and_parts}
use Rattle.std.proofs.lemmas.List.{drop_all, map-append}
use Rattle.std.proofs.lemmas.List.Folds.{list_any-append}
use Rattle.guest_base.specs.declared.limits.TheConstants.{PAGE_END}
use Rattle.guest_base.specs.declared.memory.PageRun.{PageRun}
use Rattle.guest_base.specs.declared.memory.Block.{Block}
use Rattle.guest_base.proofs.RangeLemmas.{in_range-past}
use Rattle.event_core.specs.declared.boot.Boot.{Boot}
use Rattle.event_core.specs.declared.module_call.ModuleCall.{ModuleCall}
use Rattle.event_core.specs.Absent.{in_block}
use Rattle.event_core.specs.Boot.{InTurn, StagePart, AcceptsBlock, pool_stages}
use Rattle.event_core.specs.Cut.{cut}
use Rattle.event_core.specs.Runs.{GoesBefore}
use Rattle.event_laws.proofs.RiseLemmas.{RiseTo, cut-rises}
use Rattle.block_allocator.specs.State.{State, is_free, waits, page_waits, MayPut}
use Rattle.guest_boot.specs.Booting.{Grew, AcceptsRunPiece}
use Rattle.guest_boot.specs.declared.fault.BootFault.{BootFault}
use Rattle.guest_boot.specs.Putting.{PutBlock, PutsBlock, HasPut, AllPut, StagesPut, waits_then}
use Rattle.guest_boot.proofs.InTurnLemmas.{turn-append, at-drop}

any-push : {A : Type 0} (test : A → Bool) (xs : List A) (x : A) → list_any test (xs ++ x ∷ []) ≡ (list_any test xs || test x)
any-push test xs x = list_any-append test xs (x ∷ []) ∙ ap (λ b. list_any test xs || b) (or_false (test x)) where
  or_false : (b : Bool) → (b || false) ≡ b
  or_false true = refl
  or_false false = refl

-- ---- what is left

-- the blocks that are left rise from a page on, and nothing of the store lies at or above it
pub record Leaves (rest : List Block) (store : State) : Type 0 where
  pub at : ℕ
  pub end : ℕ
  pub rises : RiseTo at end rest
  pub free : (page : ℕ) → at ≤ page → is_free store page ≡ false
  pub waiting : (page : ℕ) → at ≤ page → page_waits store page ≡ false

may-put : (block : Block) (rest : List Block) (store : State) → block.order ≤ 10 → block.first + 2 ^ block.order ≤ PAGE_END → Leaves (block ∷ rest) store → MayPut store block
may-put block rest store order end leaves =
    let low = leaves.rises.0 in
    record {
      order = order;
      aligned = leaves.rises.1;
      end = end;
      not_free = λ page inside. (let above = inside.0 in leaves.free page (omega (arith, low, above)));
      not_waiting = λ page inside. (let above = inside.0 in leaves.waiting page (omega (arith, low, above)));
    }

-- a page behind a block doesn't lie in it, and if the block waits not in what waits
past-waits : (block : Block) (is_waiting : Bool) (page : ℕ) → (is_waiting ≡ true → block.order ≡ 10) → block.first + 2 ^ block.order ≤ page → (is_waiting && block.first == page / 2 ^ 10 * 2 ^ 10) ≡ false
past-waits block false page ten past = refl
past-waits block true page ten past =
    let size : 2 ^ block.order ≡ 1024 = ap (λ n. 2 ^ n) (ten refl) in
    ne_eqb block.first (page / 2 ^ 10 * 2 ^ 10) (λ same. omega (arith, same, past, size))

neither : (b c : Bool) → b ≡ false → c ≡ false → (b || c) ≡ false
neither false c one two = two
neither true c one two = cc

no-part : (b c : Bool) → c ≡ false → (b && c) ≡ false
no-part false c out = refl
no-part true c out = out

leaves-next : (block : Block) (rest : List Block) (old new : State) (is_waiting : Bool) → (is_waiting ≡ true → block.order ≡ 10) → Leaves (block ∷ rest) old
    → ((page : ℕ) → is_free new page ≡ (is_free old page || (not is_waiting && in_block page block))) → ((first : ℕ) → waits new first ≡ (waits old first || (is_waiting && block.first == first))) → Leaves rest new
leaves-next block rest old new is_waiting ten leaves free waiting =
    let low = leaves.rises.0 in
    record {
      at = block.first + 2 ^ block.order;
      end = leaves.end;
      rises = leaves.rises.2;
      free = λ page past. free page ∙ neither _ _ (leaves.free page (omega (arith, low, past))) (no-part (not is_waiting) _ (in_range-past block.first (2 ^ block.order) page past));
      waiting = λ page past. waiting (page / 2 ^ 10 * 2 ^ 10) ∙ neither _ _ (leaves.waiting page (omega (arith, low, past))) (past-waits block is_waiting page ten past);
    }

-- ---- what was put

-- boot has made the calls, and put the blocks of all but the rest
pub record PutsTo (boot : Boot) (start : List ModuleCall) (all : List Block) (made : List ModuleCall) (rest : List Block) (store : State) : Type 0 where
  pub puts : List PutBlock
  pub are : map (λ (put : PutBlock). put.block) puts ++ rest ≡ all
  pub parts : Grew start made (λ now. InTurn (PutsBlock boot) start puts now None)
  pub has : HasPut puts store
  pub leaves : Leaves rest store

pub puts-start : (boot : Boot) (start : List ModuleCall) (all : List Block) (store : State) → AllPairs GoesBefore boot.ram → all ≡ cut boot → HasPut [] store → PutsTo boot start all start (drop 0 all) store
puts-start boot start all store ram is empty =
    let rises = cut-rises boot ram in
    record {
      puts = [];
      are = refl;
      parts = ([], sym (append-nil start), (refl, refl));
      has = empty;
      leaves = record {
        at = 0;
        end = rises.0;
        rises = subst (RiseTo 0 rises.0) (sym is) rises.1;
        free = λ page low. empty.free page;
        waiting = λ page low. empty.waiting (page / 2 ^ 10 * 2 ^ 10);
      };
    }

-- only a block of order 10 waits
pub waits-ten : (boot : Boot) (done : List ModuleCall) (block : Block) (is_waiting : Bool) → is_waiting ≡ waits_then boot done block → is_waiting ≡ true → block.order ≡ 10
waits-ten boot done block is_waiting is does = eqb-true block.order 10 (and_parts (block.order == 10) _ (sym is ∙ does)).0

-- the next block may be put
pub puts-may : {boot : Boot} {start made : List ModuleCall} (all : List Block) (at : ℕ) (d : Block) (store : State) → at < length all → (get_or all at d).order ≤ 10 → (get_or all at d).first + 2 ^ (get_or all at d).order ≤ PAGE_END
    → PutsTo boot start all made (drop at all) store → MayPut store (get_or all at d)
puts-may all at d store low order end puts = may-put (get_or all at d) (drop (at + 1) all) store order end (subst (λ rest. Leaves rest store) (at-drop all at d low) puts.leaves)

puts-one : (boot : Boot) (start made made' : List ModuleCall) (all : List Block) (block : Block) (rest : List Block) (old new : State) (is_waiting : Bool)
    → PutsTo boot start all made (block ∷ rest) old → Grew made made' (λ now. AcceptsBlock boot made block now None) → is_waiting ≡ waits_then boot made block
    → ((page : ℕ) → is_free new page ≡ (is_free old page || (not is_waiting && in_block page block))) → ((first : ℕ) → waits new first ≡ (waits old first || (is_waiting && block.first == first)))
    → PutsTo boot start all made' rest new
puts-one boot start made made' all block rest old new is_waiting so_far (later, grew, part) flag free waiting =
    let put : PutBlock = record { block = block; waits = is_waiting } in
    let before = so_far.parts in
    let Part : List ModuleCall → Type 0 = λ done. PutsBlock boot done put later None in
    record {
      puts = so_far.puts ++ put ∷ [];
      are = ap (λ bs. bs ++ rest) (map-append (λ (p : PutBlock). p.block) so_far.puts (put ∷ [])) ∙ append_assoc (map (λ (p : PutBlock). p.block) so_far.puts) (block ∷ []) rest ∙ so_far.are;
      parts = (
        before.0 ++ later,
        grew ∙ ap (λ m. m ++ later) before.1 ∙ append_assoc start before.0 later,
        turn-append (PutsBlock boot) start so_far.puts (put ∷ []) before.0 later None before.2 (inr (later, [], sym (append-nil later), subst Part before.1 (part, flag), (refl, refl))),
      );
      has = record {
        free = λ page. free page ∙ ap (λ b. b || (not is_waiting && in_block page block)) (so_far.has.free page) ∙ sym (any-push (λ (p : PutBlock). not p.waits && in_block page p.block) so_far.puts put);
        waiting = λ first. waiting first ∙ ap (λ b. b || (is_waiting && block.first == first)) (so_far.has.waiting first) ∙ sym (any-push (λ (p : PutBlock). p.waits && p.block.first == first) so_far.puts put);
      };
      leaves = leaves-next block rest old new is_waiting (waits-ten boot made block is_waiting flag) so_far.leaves free waiting;
    }

-- the next block was put
pub puts-next : (boot : Boot) (start made made' : List ModuleCall) (all : List Block) (at : ℕ) (d : Block) (old new : State) (is_waiting : Bool) → at < length all
    → PutsTo boot start all made (drop at all) old → Grew made made' (λ now. AcceptsBlock boot made (get_or all at d) now None) → is_waiting ≡ waits_then boot made (get_or all at d)
    → ((page : ℕ) → is_free new page ≡ (is_free old page || (not is_waiting && in_block page (get_or all at d)))) → ((first : ℕ) → waits new first ≡ (waits old first || (is_waiting && (get_or all at d).first == first)))
    → PutsTo boot start all made' (drop (at + 1) all) new
puts-next boot start made made' all at d old new is_waiting low so_far grew flag free waiting =
    puts-one boot start made made' all (get_or all at d) (drop (at + 1) all) old new is_waiting (subst (λ rest. PutsTo boot start all made rest old) (at-drop all at d low) so_far) grew flag free waiting

-- all were put
pub puts-end : (boot : Boot) (start made : List ModuleCall) (all : List Block) (at : ℕ) (store : State) → length all ≤ at → PutsTo boot start all made (drop at all) store → AllPut boot start all made store
puts-end boot start made all at store past so_far = record {
  puts = so_far.puts;
  are = sym (append-nil (map (λ (p : PutBlock). p.block) so_far.puts)) ∙ ap (λ bs. map (λ (p : PutBlock). p.block) so_far.puts ++ bs) (sym (drop_all at all past)) ∙ so_far.are;
  parts = so_far.parts;
  has = so_far.has;
}

-- the blocks behind the early pieces and the pool
pub stages-put : {T : Type 0} (r : Result T BootFault) (boot : Boot) (start middle opened made : List ModuleCall) (pieces : List PageRun) (blocks : List Block) (store : State) → blocks ≡ cut boot
    → Grew start middle (λ now. InTurn (AcceptsRunPiece boot) start pieces now None) → Grew middle opened (λ now. InTurn (StagePart boot) middle (pool_stages boot.pool) now None) → OnOk r (AllPut boot opened blocks made store) → OnOk r (StagesPut boot start pieces made store)
stages-put (Ok done) boot start middle opened made pieces blocks store is early pool put = record {
  middle = middle;
  early = early;
  opened = opened;
  pool = pool;
  blocks = subst (λ bs. AllPut boot opened bs made store) is put;
}
stages-put (Err fault) boot start middle opened made pieces blocks store is early pool put = tt
