use Rattle.std.proofs.Common.{◌≡◌, ℕ, Option, None, Some, List, [], ◌∷◌, ◌++◌, refl, sym, ◌∙◌, ap, subst, inl, inr, map, append-nil, append_assoc}
use Rattle.std.specs.Prelude.{Result, Ok}
use Rattle.guest_base.specs.declared.memory.Block.{Block}
use Rattle.guest_base.specs.declared.memory.Page.{Page}
use Rattle.guest_base.specs.declared.memory.Pages.{Pages}
use Rattle.guest_base.specs.declared.memory.PageRun.{PageRun}
use Rattle.event_core.specs.declared.boot.Boot.{Boot}
use Rattle.event_core.specs.declared.module_call.ModuleCall.{ModuleCall}
use Rattle.event_core.specs.Boot.{InTurn, StagePart, Stage, Early, PoolAccepted, PoolShared, BlockAccepted, AcceptsBlock, SharesPool, stages_of, pool_stages}
use Rattle.event_core.specs.Cut.{cut}
use Rattle.event_core.specs.MemoryRows.{pending_in}
use Rattle.event_core.specs.Units.{bit_after}
use Rattle.unaccepted_bitmap.specs.StubMap.{pending_run}
use Rattle.memory_core.specs.Bitmaps.{BitsAfter}
use Rattle.event_core.specs.Table.{Bits}
use Rattle.event_core.proofs.FrontLemmas.{stage-exists}
use Rattle.guest_boot.specs.Booting.{Grew, EndedBy, LeftBy, AcceptsRunPiece, early_stages, stages_by}
use Rattle.guest_boot.specs.declared.fault.BootFault.{BootFault}
use Rattle.guest_boot.specs.declared.fault.BootFault.TheVariants.{PoolNoRoom, Module, NoMemory}
use Rattle.guest_boot.proofs.InTurnLemmas.{ended-on, left-on, turn-append, turn-before, turn-front, turn-map, turn-same}

-- The stages of boot, one behind the other.

-- the pieces as they are kept
pub early-turn : (boot : Boot) (done : List ModuleCall) (runs : List PageRun) (calls : List ModuleCall) (stop : Option Page) → InTurn (AcceptsRunPiece boot) done runs calls stop → InTurn (StagePart boot) done (map (λ (run : PageRun). Early run.pages) runs) calls stop
early-turn boot done runs calls stop turn = turn-map (StagePart boot) (λ (run : PageRun). Early run.pages) done runs calls stop turn

pub early-left : (boot : Boot) (done made : List ModuleCall) (runs : List PageRun) (e : BootFault) → Grew done made (LeftBy e (InTurn (AcceptsRunPiece boot) done runs)) → Grew done made (LeftBy e (InTurn (StagePart boot) done (early_stages runs)))
early-left boot done made runs e (now, grew, left) =
    (now, grew, left-on e (InTurn (AcceptsRunPiece boot) done runs) (InTurn (StagePart boot) done (early_stages runs)) [] now (early-turn boot done runs) left)

pub early-grew : (boot : Boot) (done made : List ModuleCall) (runs : List PageRun) → Grew done made (λ now. InTurn (AcceptsRunPiece boot) done runs now None) → Grew done made (λ now. InTurn (StagePart boot) done (early_stages runs) now None)
early-grew boot done made runs (now, grew, turn) = (now, grew, early-turn boot done runs now None turn)

-- the blocks of the cut
pub blocks-ended : {T : Type 0} (r : Result T BootFault) (boot : Boot) (done made : List ModuleCall) (blocks : List Block) → blocks ≡ cut boot → Grew done made (EndedBy r (InTurn (AcceptsBlock boot) done blocks)) → Grew done made (EndedBy r (InTurn (StagePart boot) done (map BlockAccepted (cut boot))))
blocks-ended r boot done made blocks is (now, grew, ended) = (
  now,
  grew,
  ended-on r (InTurn (AcceptsBlock boot) done blocks) (InTurn (StagePart boot) done (map BlockAccepted (cut boot))) [] now
      (λ calls stop turn.
      let P : List Block → Type 0 = λ bs. InTurn (StagePart boot) done (map BlockAccepted bs) calls stop in
      subst P is (turn-map (StagePart boot) BlockAccepted done blocks calls stop turn))
      ended,
)

-- one stage
one-stage : (boot : Boot) (done : List ModuleCall) (stage : Stage) (calls : List ModuleCall) (stop : Option Page) → StagePart boot done stage calls stop → InTurn (StagePart boot) done (stage ∷ []) calls stop
one-stage boot done stage calls (Some page) part = inl (page, part, refl)
one-stage boot done stage calls None part = inr (calls, [], sym (append-nil calls), part, (refl, refl))

-- boot ends at one of the first stages
pub stages-left : (boot : Boot) (done made : List ModuleCall) (xs ys : List Stage) (e : BootFault) → Grew done made (LeftBy e (InTurn (StagePart boot) done xs)) → Grew done made (LeftBy e (InTurn (StagePart boot) done (xs ++ ys)))
stages-left boot done made xs ys PoolNoRoom (now, grew, left) = absurd left
stages-left boot done made xs ys (Module page) (now, grew, turn) = (now, grew, turn-before (StagePart boot) done xs ys now page turn)
stages-left boot done made xs ys NoMemory (now, grew, front) = (now, grew, turn-front (StagePart boot) done xs ys now (stage-exists boot) front)

-- stages behind others
pub stages-behind : {T : Type 0} (r : Result T BootFault) (boot : Boot) (done mid made : List ModuleCall) (xs ys : List Stage) → Grew done mid (λ now. InTurn (StagePart boot) done xs now None) → Grew mid made (EndedBy r (InTurn (StagePart boot) mid ys)) → Grew done made (EndedBy r (InTurn (StagePart boot) done (xs ++ ys)))
stages-behind r boot done mid made xs ys (now, grew, turn) (later, grown, behind) = (
  now ++ later,
  grown ∙ ap (λ m. m ++ later) grew ∙ append_assoc done now later,
  ended-on r (InTurn (StagePart boot) mid ys) (InTurn (StagePart boot) done (xs ++ ys)) now later
      (λ calls stop ys_turn.
      let P : List ModuleCall → Type 0 = λ m. InTurn (StagePart boot) m ys calls stop in
      turn-append (StagePart boot) done xs ys now calls stop turn (subst P grew ys_turn))
      behind,
)

pub both-stages : (boot : Boot) (done mid made : List ModuleCall) (xs ys : List Stage) → Grew done mid (λ now. InTurn (StagePart boot) done xs now None) → Grew mid made (λ now. InTurn (StagePart boot) mid ys now None) → Grew done made (λ now. InTurn (StagePart boot) done (xs ++ ys) now None)
both-stages boot done mid made xs ys first second = stages-behind {T = Unit {0}} (Ok tt) boot done mid made xs ys first second

-- the pool: its guarded units are accepted, and then its pages shared
pub pool-behind : {T : Type 0} (r : Result T BootFault) (boot : Boot) (done mid made : List ModuleCall) (pool : Pages) → Grew done mid (λ now. StagePart boot done (PoolAccepted pool) now None) → Grew mid made (EndedBy r (SharesPool pool)) → Grew done made (EndedBy r (InTurn (StagePart boot) done (pool_stages (Some pool))))
pool-behind r boot done mid made pool (now, grew, accepted) (later, grown, shared) =
    stages-behind r boot done mid made (PoolAccepted pool ∷ []) (PoolShared pool ∷ [])
    (now, grew, one-stage boot done (PoolAccepted pool) now None accepted)
    (later, grown, ended-on r (SharesPool pool) (InTurn (StagePart boot) mid (PoolShared pool ∷ [])) [] later (λ calls stop shares. one-stage boot mid (PoolShared pool) calls stop shares) shared)

-- ---- the stages as they are kept are boot's

pub kept-pieces : (pieces : List Pages) → map (λ (run : PageRun). Early run.pages) (map pending_run pieces) ≡ map Early pieces
kept-pieces [] = refl
kept-pieces (pages ∷ pieces) = ap (λ stages. Early pages ∷ stages) (kept-pieces pieces)

pub stages-are : (boot : Boot) (runs : List PageRun) (pieces : List Pages) → runs ≡ map pending_run pieces → stages_by boot runs ≡ stages_of boot pieces
stages-are boot runs pieces are =
    ap (stages_by boot) are
    ∙ ap (λ stages. (stages ++ pool_stages boot.pool) ++ map BlockAccepted (cut boot)) (kept-pieces pieces)

-- ---- the calls, which the definitions of the stages don't read

abbrev pub with_calls : Boot → List ModuleCall → Boot
with_calls boot calls = record boot { calls = calls }

pub bit-same : (boot : Boot) (calls done : List ModuleCall) (unit : ℕ) → bit_after boot done unit ≡ bit_after (with_calls boot calls) done unit
unfolding bit_after
bit-same boot calls done unit = refl

pub bits-same : (boot : Boot) (calls done : List ModuleCall) (bits : Option Bits) → BitsAfter boot done bits → BitsAfter (with_calls boot calls) done bits
bits-same boot calls done None after = record { same = after.same; set = λ unit. after.set unit ∙ bit-same boot calls done unit }
bits-same boot calls done (Some b) after = record { same = after.same; set = λ unit. after.set unit ∙ bit-same boot calls done unit }

pub part-same : (boot : Boot) (calls before : List ModuleCall) (stage : Stage) (now : List ModuleCall) (stop : Option Page) → StagePart boot before stage now stop → StagePart (with_calls boot calls) before stage now stop
unfolding bit_after pending_in
part-same boot calls before (Early pages) now stop part = part
part-same boot calls before (PoolAccepted pages) now stop part = part
part-same boot calls before (PoolShared pages) now stop part = part
part-same boot calls before (BlockAccepted block) now stop part = part

pub cut-same : (boot : Boot) (calls : List ModuleCall) → cut boot ≡ cut (with_calls boot calls)
unfolding cut
cut-same boot calls = refl

pub stages-same : (boot : Boot) (calls : List ModuleCall) (pieces : List Pages) (made : List ModuleCall) (stop : Option Page) → InTurn (StagePart boot) [] (stages_of boot pieces) made stop → InTurn (StagePart (with_calls boot calls)) [] (stages_of (with_calls boot calls) pieces) made stop
stages-same boot calls pieces made stop turn =
    let P : List Block → Type 0 = λ blocks. InTurn (StagePart (with_calls boot calls)) [] ((map Early pieces ++ pool_stages boot.pool) ++ map BlockAccepted blocks) made stop in
    subst P (cut-same boot calls) (turn-same (StagePart boot) (StagePart (with_calls boot calls)) [] (stages_of boot pieces) made stop (part-same boot calls) turn)
