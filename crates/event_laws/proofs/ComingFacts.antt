-- Boot comes to each block of the cut.
use Rattle.std.proofs.Common.{◌≡◌, None, List, [], ◌∷◌, ◌++◌, map, refl, sym, ◌∙◌, ap, subst, append_assoc}
use Rattle.guest_base.specs.declared.memory.Pages.{Pages}
use Rattle.guest_base.specs.declared.memory.Block.{Block}
use Rattle.event_core.specs.declared.boot.Boot.{Boot}
use Rattle.event_core.specs.declared.module_call.ModuleCall.{ModuleCall}
use Rattle.event_core.specs.Boot.{InTurn, StagePart, Stage, Early, BlockAccepted, pool_stages, stages_of}
use Rattle.event_core.specs.Cut.{cut}
use Rattle.event_laws.specs.Coming.{BootMade, ComesTo}
use Rattle.event_laws.proofs.TurnLemmas.{turn-split}

blocks-append : (lower : List Block) (block : Block) (higher : List Block) → map BlockAccepted (lower ++ block ∷ higher) ≡ map BlockAccepted lower ++ BlockAccepted block ∷ map BlockAccepted higher
blocks-append [] block higher = refl
blocks-append (b ∷ lower) block higher = ap (λ stages. BlockAccepted b ∷ stages) (blocks-append lower block higher)

stages-at : (boot : Boot) (pieces : List Pages) (lower higher : List Block) (block : Block) → cut boot ≡ lower ++ block ∷ higher → stages_of boot pieces ≡ ((map Early pieces ++ pool_stages boot.pool) ++ map BlockAccepted lower) ++ BlockAccepted block ∷ map BlockAccepted higher
stages-at boot pieces lower higher block is =
    let front : List Stage = map Early pieces ++ pool_stages boot.pool in
    ap (λ (blocks : List Block). front ++ map BlockAccepted blocks) is ∙ ap (λ stages. front ++ stages) (blocks-append lower block higher)
    ∙ sym (append_assoc front (map BlockAccepted lower) (BlockAccepted block ∷ map BlockAccepted higher))

pub comes-to : (boot : Boot) (lower higher : List Block) (block : Block) → BootMade boot → cut boot ≡ lower ++ block ∷ higher → (done : List ModuleCall) × ComesTo boot block done
comes-to boot lower higher block made is =
    let calls = made.right.made in
    let before : List Stage = (map Early calls.pieces ++ pool_stages boot.pool) ++ map BlockAccepted lower in
    let later : List Stage = map BlockAccepted higher in
    let stages = stages-at boot calls.pieces lower higher block is in
    let s = turn-split (StagePart boot) [] before (BlockAccepted block ∷ later) boot.calls (subst (λ all. InTurn (StagePart boot) [] all boot.calls None) stages calls.stages) in (
      s.first,
      record {
        made = made;
        pieces = calls.pieces;
        early = calls.early;
        before = before;
        later = later;
        stages = stages;
        rest = s.second;
        calls = s.is;
        did = s.left;
        does = s.right;
      },
    )
