use Rattle.event_rows.proofs.OnceFacts.{given_twice-not}
use Rattle.event_rows.proofs.giving.given_twice_is_not.Goals as goal

pub returns : goal.returns
returns c = given_twice-not
