-- Lemmas on refusals of commands on mappings and on the pool.
use Rattle.std.proofs.Common.{◌≡◌, ℕ, ◌+◌, ◌*◌, ◌==◌, List, Option, Some, None, is_none, is_some, nat_lt, map, arith, refl}
use Rattle.std.specs.Option.{option_map}
use Rattle.guest_base.specs.Requests.{too_long}
use Rattle.guest_base.specs.declared.memory.Block.{Block}
use Rattle.event_core.specs.declared.boot.Boot.{Boot}
use Rattle.event_core.specs.declared.reply.Reply.{Reply}
use Rattle.event_core.specs.declared.reply.Reply.TheVariants.{NoPool, Range, Taken, TooLong, Zero}
use Rattle.event_core.specs.Holdings.{Holding, Mapping, block_bytes, block_named}
use Rattle.event_core.specs.Refusals.{map_refusal, refuse, unknown_or}
use Rattle.dma_map.specs.Kept.{live_of}
use Rattle.dma_map.specs.Pools.{HasLayout, HasPool}
use Rattle.dma_map.specs.declared.kept.Live.{Live}
use Rattle.dma_map.specs.declared.pool.Layout.{Layout}
use Rattle.held_blocks.specs.declared.kept.KeptBlock.{KeptBlock}
use Rattle.held_blocks.specs.Held.{holding, own_with}
use Rattle.held_blocks.proofs.HeldLemmas.{private-or}

-- ---- mappings

pub live-or : (o : Option Mapping) (conditions : ℕ → Option Reply) →
    unknown_or (option_map live_of o) (λ (l : Live). conditions l.run.len) ≡ unknown_or o (λ (m : Mapping). conditions m.run.len)
live-or None conditions = refl
live-or (Some m) conditions = refl

pub taken-or : (o : Option Mapping) (live : Live) (others : Option Reply) → Some live ≡ option_map live_of o → Some Taken ≡ refuse Taken (is_some o) others
taken-or None live others is = absurd (grind (arith, is))
taken-or (Some m) live others is = refl

pub free-or : (o : Option Mapping) (others : Option Reply) → None ≡ option_map live_of o → others ≡ refuse Taken (is_some o) others
free-or None others is = refl
free-or (Some m) others is = absurd (grind (arith, is))

-- ---- the pool

pub no-pool : (boot : Boot) (layout : Option Layout) → HasPool boot layout → is_none layout ≡ is_none boot.pool
no-pool boot None has = rw has refl
no-pool boot (Some layout) has = rw has.pool refl

pub pool-or : (boot : Boot) (layout : Layout) (others : Option Reply) → HasLayout boot layout → refuse NoPool (is_none boot.pool) others ≡ others
pool-or boot layout others has = rw has.pool refl

-- the refusals of a mapping by the layout are those by the boot
pub map-or : (boot : Boot) (ks : List KeptBlock) (name : List ℕ) (off len mask : ℕ) (layout : Option Layout) → HasPool boot layout →
    unknown_or (option_map (λ (h : Holding). h.block) (block_named (own_with (map holding ks)) name))
    (λ (block : Block). refuse Zero (len == 0) (refuse Range (nat_lt (block_bytes block) (off + len))
    (refuse TooLong (too_long (4096 * block.first + off) len mask) (refuse NoPool (is_none layout) None))))
    ≡ unknown_or (block_named (own_with (map holding ks)) name) (λ h. map_refusal boot h off len mask)
map-or boot ks name off len mask layout has =
    rw (no-pool boot layout has)
    (private-or ks name (λ (block : Block). refuse Zero (len == 0) (refuse Range (nat_lt (block_bytes block) (off + len))
    (refuse TooLong (too_long (4096 * block.first + off) len mask) (refuse NoPool (is_none boot.pool) None)))))
