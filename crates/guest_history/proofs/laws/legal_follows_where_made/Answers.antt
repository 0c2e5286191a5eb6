use Rattle.guest_history.proofs.AgreeLemmas.{legal-lists}
use Rattle.guest_history.proofs.laws.legal_follows_where_made.Goals as goal

pub returns : goal.returns
returns c = legal-lists
