use Rattle.std.proofs.Common.{rules}
use Rattle.pool_tests.proofs.holdings.copies_between_block_and_mapping.Goals as goal

pub reserve_copy-requires : goal.reserve_copy-requires
reserve_copy-requires g c = let mapped = c.mapped.ensures 0 in search rules

pub copied_out-requires-clause-within : goal.copied_out-requires-clause-within
copied_out-requires-clause-within g c = let mapped = c.mapped.ensures 0 in search rules

pub mapped_bytes-requires : goal.mapped_bytes-requires
mapped_bytes-requires g c = let mapped = c.mapped.ensures 0 in search rules
