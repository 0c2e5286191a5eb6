use Rattle.event_rows.proofs.TableFacts.{small_table-fits}
use Rattle.event_rows.proofs.tables.small_table_fits.Goals as goal

pub returns : goal.returns
returns c = small_table-fits
