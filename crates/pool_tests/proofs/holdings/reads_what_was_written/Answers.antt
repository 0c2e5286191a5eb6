use Rattle.std.proofs.Common.{rules, [], ◌∷◌}
use Rattle.held_blocks.specs.Held.{blocks_of, owned, EndsWithin}
use Rattle.held_blocks.proofs.HeldLemmas.{ends-after, ends-some}
use Rattle.pool_tests.proofs.holdings.reads_what_was_written.Goals as goal

pub read-requires : goal.read-requires
read-requires g c =
    let name = c.in_ok-name.name in
    let ends : EndsWithin (owned c.got.new.self) name 4093 3 = search rules in
    ends-after (blocks_of c.got.new.self) (blocks_of c.write.new.self) name name 4094 4093 3 (1 ∷ 2 ∷ []) (ends-some (owned c.got.new.self) name 4093 3 ends)
    c.in_ok-write.ensures.ok ends

pub load-requires : goal.load-requires
load-requires g c =
    let name = c.in_ok-name.name in
    let ends : EndsWithin (owned c.got.new.self) name 4094 1 = search rules in
    ends-after (blocks_of c.got.new.self) (blocks_of c.write.new.self) name name 4094 4094 1 (1 ∷ 2 ∷ []) (ends-some (owned c.got.new.self) name 4094 1 ends)
    c.in_ok-write.ensures.ok ends
