use Rattle.std.proofs.Common.{rules, ℕ, List, [], ◌∷◌, ap}
use Rattle.std.specs.List.{repeat}
use Rattle.std.specs.Option.{ForSome}
use Rattle.event_core.specs.Holdings.{Own, block_named}
use Rattle.event_core.specs.Own.{with_bytes_at}
use Rattle.held_blocks.specs.Held.{blocks_of, own_with, EndsWithin}
use Rattle.held_blocks.specs.Holdings.{own_in, HoldingsValue, Leaves}
use Rattle.held_blocks.proofs.HeldLemmas.{ends-after, ends-some}
use Rattle.pool_tests.proofs.holdings.holds_bytes_by_name.Goals as goal

-- a write to the block of a name does not move its end
still-ends : (old new : HoldingsValue) (name : List ℕ) (at off len : ℕ) (more : List ℕ) →
    ForSome (block_named (own_in old) name) (λ h. Leaves old new (with_bytes_at h.block at more (own_in old))) →
    EndsWithin (own_in old) name off len → EndsWithin (own_in new) name off len
still-ends old new name at off len more wrote ends =
    ends-after (blocks_of old.held) (blocks_of new.held) name name at off len more (ends-some (own_in old) name off len ends)
    (λ h named. ap (λ (own : Own). own_with own.blocks) (wrote h named).own)
    ends

pub fill-requires : goal.fill-requires
fill-requires g c =
    let ends : EndsWithin (own_in c.got.new.self) c.in_ok-name.name 0 2 = search rules in
    still-ends c.got.new.self c.write.new.self c.in_ok-name.name 4094 0 2 (1 ∷ 2 ∷ []) c.in_ok-write.ensures.ok ends

pub read-requires : goal.read-requires
read-requires g c =
    let name = c.in_ok-name.name in
    let ends : EndsWithin (own_in c.got.new.self) name 4093 3 = search rules in
    still-ends c.write.new.self c.fill.new.self name 0 4093 3 (repeat 2 (7 ∷ [])) c.in_ok-fill.ensures.ok
    (still-ends c.got.new.self c.write.new.self name 4094 4093 3 (1 ∷ 2 ∷ []) c.in_ok-write.ensures.ok ends)

pub load-requires : goal.load-requires
load-requires g c =
    let name = c.in_ok-name.name in
    let ends : EndsWithin (own_in c.got.new.self) name 0 1 = search rules in
    still-ends c.write.new.self c.fill.new.self name 0 0 1 (repeat 2 (7 ∷ [])) c.in_ok-fill.ensures.ok
    (still-ends c.got.new.self c.write.new.self name 4094 0 1 (1 ∷ 2 ∷ []) c.in_ok-write.ensures.ok ends)
