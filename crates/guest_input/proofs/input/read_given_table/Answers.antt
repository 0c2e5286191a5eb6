use Rattle.std.proofs.Common.{ap}
use Rattle.guest_words.specs.Views.{seen, text_in}
use Rattle.guest_input.proofs.InputLemmas.{no_table, good_table}
use Rattle.guest_input.proofs.input.read_given_table.Goals as goal

pub returns-in-None-clause-good : goal.returns-in-None-clause-good
returns-in-None-clause-good g c is_map = no_table (g.F.Files.holds c.args.files.now) (seen c.args.names.now) c.args.map.now (ap text_in c.in-None.is) is_map

pub returns-in_ok-read_named_table-in-Some-clause-good : goal.returns-in_ok-read_named_table-in-Some-clause-good
returns-in_ok-read_named_table-in-Some-clause-good g c is_map =
    let read = c.in_ok-read_named_table-in-Some.ensures in
    good_table (g.F.Files.holds c.args.files.now) (seen c.args.names.now) c.args.map.now _ read.short read.table read.fits is_map
