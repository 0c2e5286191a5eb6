use Rattle.std.proofs.Common.{◌≡◌, Option, None, Some, List, [], ◌∷◌, ◌++◌, map, refl, sym, ◌∙◌, ap, append_assoc}
use Rattle.std.specs.List.{AllByRecursion}
use Rattle.guest_base.specs.declared.memory.Pages.{Pages}
use Rattle.guest_base.specs.declared.memory.Block.{Block}
use Rattle.event_core.specs.declared.boot.Boot.{Boot}
use Rattle.event_core.specs.Boot.{Stage, Early, BlockAccepted, pool_stages, stages_of}
use Rattle.event_core.specs.Cut.{cut}
use Rattle.event_core.proofs.BootFacts.{all-append}

-- What stands before a block among the stages of boot, and behind it.

abbrev NoBlock : Stage → Type 0
NoBlock stage = (block : Block) → stage ≡ BlockAccepted block → ⊥

record FrontSplit (front xs before : List Stage) (block : Block) (later : List Stage) : Type 0 where
  pub between : List Stage
  pub before_is : before ≡ front ++ between
  pub xs_is : xs ≡ between ++ BlockAccepted block ∷ later

front-split : (front xs before : List Stage) (block : Block) (later : List Stage) → AllByRecursion NoBlock front → front ++ xs ≡ before ++ BlockAccepted block ∷ later → FrontSplit front xs before block later
front-split [] xs before block later none is = record { between = before; before_is = refl; xs_is = is }
front-split (stage ∷ front) xs [] block later none is = let same : stage ≡ BlockAccepted block = cc in absurd (none.0 block same)
front-split (stage ∷ front) xs (first ∷ before) block later none is =
    let same : stage ≡ first = cc in
    let others : front ++ xs ≡ before ++ BlockAccepted block ∷ later = cc in
    let rest = front-split front xs before block later none.1 others in
    record { between = rest.between; before_is = ap (λ s. s ∷ before) (sym same) ∙ ap (λ b. stage ∷ b) rest.before_is; xs_is = rest.xs_is }

-- the blocks below and above one of the blocks
pub record BlocksSplit (blocks : List Block) (before : List Stage) (block : Block) (later : List Stage) : Type 0 where
  pub lower : List Block
  pub higher : List Block
  pub blocks_are : blocks ≡ lower ++ block ∷ higher
  pub before_is : before ≡ map BlockAccepted lower
  pub later_is : later ≡ map BlockAccepted higher

blocks-split : (blocks : List Block) (before : List Stage) (block : Block) (later : List Stage) → map BlockAccepted blocks ≡ before ++ BlockAccepted block ∷ later → BlocksSplit blocks before block later
blocks-split [] [] block later is = cc
blocks-split [] (first ∷ before) block later is = cc
blocks-split (b ∷ blocks) [] block later is =
    let same : b ≡ block = cc in
    let others : map BlockAccepted blocks ≡ later = cc in
    record { lower = []; higher = blocks; blocks_are = ap (λ x. x ∷ blocks) same; before_is = refl; later_is = sym others }
blocks-split (b ∷ blocks) (first ∷ before) block later is =
    let same : BlockAccepted b ≡ first = cc in
    let others : map BlockAccepted blocks ≡ before ++ BlockAccepted block ∷ later = cc in
    let rest = blocks-split blocks before block later others in
    record {
      lower = b ∷ rest.lower;
      higher = rest.higher;
      blocks_are = ap (λ bs. b ∷ bs) rest.blocks_are;
      before_is = ap (λ s. s ∷ before) (sym same) ∙ ap (λ ss. BlockAccepted b ∷ ss) rest.before_is;
      later_is = rest.later_is;
    }

early-none : (pieces : List Pages) → AllByRecursion NoBlock (map Early pieces)
early-none [] = tt
early-none (p ∷ pieces) = ((λ block is. cc), early-none pieces)

pool-none : (pool : Option Pages) → AllByRecursion NoBlock (pool_stages pool)
pool-none None = tt
pool-none (Some pool) = ((λ block is. cc), ((λ block is. cc), tt))

-- the stages before a block: the pieces, the pool and the lower blocks
pub record StagesSplit (boot : Boot) (pieces : List Pages) (before : List Stage) (block : Block) (later : List Stage) : Type 0 where
  pub lower : List Block
  pub higher : List Block
  pub cut_is : cut boot ≡ lower ++ block ∷ higher
  pub before_is : before ≡ map Early pieces ++ (pool_stages boot.pool ++ map BlockAccepted lower)
  pub later_is : later ≡ map BlockAccepted higher

pub stages-split : (boot : Boot) (pieces : List Pages) (before : List Stage) (block : Block) (later : List Stage) → stages_of boot pieces ≡ before ++ BlockAccepted block ∷ later → StagesSplit boot pieces before block later
stages-split boot pieces before block later is =
    let front = front-split (map Early pieces ++ pool_stages boot.pool) (map BlockAccepted (cut boot)) before block later (all-append NoBlock (map Early pieces) (pool_stages boot.pool) (early-none pieces) (pool-none boot.pool)) is in
    let blocks = blocks-split (cut boot) front.between block later front.xs_is in
    record {
      lower = blocks.lower;
      higher = blocks.higher;
      cut_is = blocks.blocks_are;
      before_is = front.before_is ∙ ap (λ b. (map Early pieces ++ pool_stages boot.pool) ++ b) blocks.before_is ∙ append_assoc (map Early pieces) (pool_stages boot.pool) (map BlockAccepted blocks.lower);
      later_is = blocks.later_is;
    }
