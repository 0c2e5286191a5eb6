use Rattle.event_rows.proofs.MeanwhileFacts.{claim-goes_by}
use Rattle.event_rows.proofs.meanwhile.claim_goes_by_its_bits.Goals as goal

pub returns : goal.returns
returns c = claim-goes_by
