use Rattle.std.proofs.Common.{refl, sym, ◌∙◌, arith, append-nil, []}
use Rattle.guest_input.specs.declared.stop.InputFile.TheVariants.{Order, Map, Table, Script}
use Rattle.guest_input.specs.Causes.{cause_of, cause_by, IsGood}
use Rattle.guest_input.specs.Reading.{reading}
use Rattle.guest_input.specs.Stopping.{StopsReading}
use Rattle.guest_words.specs.Views.{seen}
use Rattle.guest_words.specs.Words.{cpus_in}
use Rattle.guest_input.proofs.InputLemmas.{stopped_at, stopped_at_one, judges_order, judges_table, before_order, before_map, before_table, asked_two, asked_three, asked_all, err-is, good_again, map_again, table_again, scripts_again, all_good}
use Rattle.guest_input.proofs.input.read_input.Goals as goal

pub returns-in_err-order-clause-stop : goal.returns-in_err-order-clause-stop
returns-in_err-order-clause-stop g c =
    let holds = g.F.Files.holds c.args.files.now in
    let named = seen c.args.names.now in
    let files = reading g.F.Files.holds g.F.Files.asked g.F.Files.faults c.args.files.now c.read_given_order.new.files in
    err-is c.from_residual.result c.in_err-order.field-0.0 (StopsReading files named) c.from_residual.ensures.1
    (stopped_at files files named Order (cause_of (cpus_in named) Order) [] c.in_err-order.field-0.0 refl (omega arith) refl refl refl
    c.in_err-order.ensures.is_named (judges_order holds named) (before_order (IsGood holds named)) c.in_err-order.ensures.stop c.in_err-order.ensures.asks)

pub returns-in_err-map-clause-stop : goal.returns-in_err-map-clause-stop
returns-in_err-map-clause-stop g c =
    let holds = g.F.Files.holds c.args.files.now in
    let named = seen c.args.names.now in
    let files = reading g.F.Files.holds g.F.Files.asked g.F.Files.faults c.args.files.now c.read_guest_map.new.files in
    let now = reading g.F.Files.holds g.F.Files.asked g.F.Files.faults c.read_given_order.new.files c.read_guest_map.new.files in
    err-is c.from_residual-in_err-map.result c.in_err-map.field-0.0 (StopsReading files named) c.from_residual-in_err-map.ensures.1
    (stopped_at files now named Map (cause_of (cpus_in named) Map) [] c.in_err-map.field-0.0 c.in_ok-order.ensures.same_files c.in_ok-order.ensures.faults_kept refl refl
    (append-nil now.asked_before ∙ c.in_ok-order.ensures.asked) tt (λ cause own. own) (before_map (IsGood holds named) c.in_ok-order.ensures.good) c.in_err-map.ensures.stop c.in_err-map.ensures.asks)

pub returns-in_err-table-clause-stop : goal.returns-in_err-table-clause-stop
returns-in_err-table-clause-stop g c =
    let holds = g.F.Files.holds c.args.files.now in
    let named = seen c.args.names.now in
    let map = c.in_ok-map.map in
    let files = reading g.F.Files.holds g.F.Files.asked g.F.Files.faults c.args.files.now c.read_given_table.new.files in
    let now = reading g.F.Files.holds g.F.Files.asked g.F.Files.faults c.read_guest_map.new.files c.read_given_table.new.files in
    err-is c.from_residual-in_err-table.result c.in_err-table.field-0.0 (StopsReading files named) c.from_residual-in_err-table.ensures.1
    (stopped_at files now named Table (cause_by (cpus_in named) map.descriptors) [] c.in_err-table.field-0.0
    (c.in_ok-map.ensures.same_files ∙ c.in_ok-order.ensures.same_files) (omega (arith, c.in_ok-order.ensures.faults_kept, c.in_ok-map.ensures.faults_kept)) refl refl
    (append-nil now.asked_before ∙ asked_two named (g.F.Files.asked c.args.files.now) (g.F.Files.asked c.read_given_order.new.files) (g.F.Files.asked c.read_guest_map.new.files) c.in_ok-order.ensures.asked c.in_ok-map.ensures.asked)
    c.in_err-table.ensures.is_named
    (judges_table holds named map (map_again holds (g.F.Files.holds c.read_given_order.new.files) named map c.in_ok-order.ensures.same_files c.in_ok-map.ensures.map))
    (before_table (IsGood holds named) c.in_ok-order.ensures.good (good_again holds (g.F.Files.holds c.read_given_order.new.files) named Map c.in_ok-order.ensures.same_files c.in_ok-map.ensures.good))
    c.in_err-table.ensures.stop c.in_err-table.ensures.asks)

pub returns-in_err-scripts-clause-stop : goal.returns-in_err-scripts-clause-stop
returns-in_err-scripts-clause-stop g c =
    let holds = g.F.Files.holds c.args.files.now in
    let named = seen c.args.names.now in
    let map = c.in_ok-map.map in
    let files = reading g.F.Files.holds g.F.Files.asked g.F.Files.faults c.args.files.now c.read_scripts.new.files in
    let now = reading g.F.Files.holds g.F.Files.asked g.F.Files.faults c.read_given_table.new.files c.read_scripts.new.files in
    let same = c.in_ok-map.ensures.same_files ∙ c.in_ok-order.ensures.same_files in
    let is_map = map_again holds (g.F.Files.holds c.read_given_order.new.files) named map c.in_ok-order.ensures.same_files c.in_ok-map.ensures.map in
    err-is c.from_residual-in_err-scripts.result c.in_err-scripts.field-0.0 (StopsReading files named) c.from_residual-in_err-scripts.ensures.1
    (stopped_at_one files now named c.in_err-scripts.field-0.0
    (c.in_ok-table.ensures.same_files ∙ same) (omega (arith, c.in_ok-order.ensures.faults_kept, c.in_ok-map.ensures.faults_kept, c.in_ok-table.ensures.faults_kept)) refl refl
    (asked_three named (g.F.Files.asked c.args.files.now) (g.F.Files.asked c.read_given_order.new.files) (g.F.Files.asked c.read_guest_map.new.files) (g.F.Files.asked c.read_given_table.new.files) c.in_ok-order.ensures.asked c.in_ok-map.ensures.asked c.in_ok-table.ensures.asked)
    c.in_ok-order.ensures.good
    (good_again holds (g.F.Files.holds c.read_given_order.new.files) named Map c.in_ok-order.ensures.same_files c.in_ok-map.ensures.good)
    (good_again holds (g.F.Files.holds c.read_guest_map.new.files) named Table same (c.in_ok-table.ensures.good (map_again (g.F.Files.holds c.read_guest_map.new.files) holds named map (sym same) is_map)))
    c.in_err-scripts.ensures.stop)

pub returns-clause-good : goal.returns-clause-good
returns-clause-good g c =
    let holds = g.F.Files.holds c.args.files.now in
    let named = seen c.args.names.now in
    let map = c.in_ok-map.map in
    let same = c.in_ok-map.ensures.same_files ∙ c.in_ok-order.ensures.same_files in
    let is_map = map_again holds (g.F.Files.holds c.read_given_order.new.files) named map c.in_ok-order.ensures.same_files c.in_ok-map.ensures.map in
    all_good holds named c.in_ok-order.ensures.good
    (good_again holds (g.F.Files.holds c.read_given_order.new.files) named Map c.in_ok-order.ensures.same_files c.in_ok-map.ensures.good)
    (good_again holds (g.F.Files.holds c.read_guest_map.new.files) named Table same (c.in_ok-table.ensures.good (map_again (g.F.Files.holds c.read_guest_map.new.files) holds named map (sym same) is_map)))
    (λ cpu less. good_again holds (g.F.Files.holds c.read_given_table.new.files) named (Script cpu) (c.in_ok-table.ensures.same_files ∙ same) (c.in_ok-scripts.ensures.good cpu less))

pub returns-clause-given : goal.returns-clause-given
returns-clause-given g c =
    let holds = g.F.Files.holds c.args.files.now in
    let named = seen c.args.names.now in
    record {
      map_is = map_again holds (g.F.Files.holds c.read_given_order.new.files) named c.in_ok-map.map c.in_ok-order.ensures.same_files c.in_ok-map.ensures.map;
      table_is = table_again holds (g.F.Files.holds c.read_guest_map.new.files) named.table c.in_ok-table.table (c.in_ok-map.ensures.same_files ∙ c.in_ok-order.ensures.same_files) c.in_ok-table.ensures.table;
      fits = c.in_ok-table.ensures.fits;
    }

pub returns-clause-scripts : goal.returns-clause-scripts
returns-clause-scripts g c =
    scripts_again (g.F.Files.holds c.args.files.now) (g.F.Files.holds c.read_given_table.new.files) (seen c.args.names.now) c.in_ok-scripts.scripts
    (c.in_ok-table.ensures.same_files ∙ c.in_ok-map.ensures.same_files ∙ c.in_ok-order.ensures.same_files) c.in_ok-scripts.ensures.scripts

pub returns-clause-asked : goal.returns-clause-asked
returns-clause-asked g c =
    asked_all (seen c.args.names.now) (g.F.Files.asked c.args.files.now) (g.F.Files.asked c.read_given_order.new.files) (g.F.Files.asked c.read_guest_map.new.files) (g.F.Files.asked c.read_given_table.new.files) (g.F.Files.asked c.read_scripts.new.files) c.in_ok-order.ensures.asked c.in_ok-map.ensures.asked c.in_ok-table.ensures.asked c.in_ok-scripts.ensures.asked
