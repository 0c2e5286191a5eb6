use Rattle.page_convert.proofs.BlockLemmas.{block-converts}
use Rattle.page_convert.proofs.laws.block_is_converted.Goals as goal

pub returns : goal.returns
returns c = block-converts
