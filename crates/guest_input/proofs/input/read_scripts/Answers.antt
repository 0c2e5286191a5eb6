use Rattle.std.proofs.Common.{refl, sym, ◌∙◌, subst, inl, arith, ◌+◌, List}
use Rattle.guest_base.specs.declared.memory.CpuNo.{CpuNo}
use Rattle.event_core.specs.declared.command.Command.{Command}
use Rattle.guest_input.specs.declared.stop.Stop.TheVariants.{NoMemory}
use Rattle.guest_input.specs.Reading.{reading}
use Rattle.guest_input.specs.Stopping.{StopsAtOne}
use Rattle.guest_words.specs.Views.{seen}
use Rattle.guest_input.proofs.InputLemmas.{err-is}
use Rattle.guest_input.proofs.ScriptLemmas.{AreRead, none_read, one_more_read, stopped_behind, are_scripts, all_asked}
use Rattle.guest_input.proofs.input.read_scripts.Goals as goal

pub loop-cpu-init : goal.loop-cpu-init
loop-cpu-init g c =
    let holds = g.F.Files.holds c.args.files.now in
    let files = reading g.F.Files.holds g.F.Files.asked g.F.Files.faults c.args.files.now c.args.files.now in
    subst (λ (s : List (List Command)). AreRead files holds (seen c.args.names.now) 0 s) (sym c.new-scripts.ensures)
    (none_read holds (g.F.Files.asked c.args.files.now) (g.F.Files.faults c.args.files.now) (seen c.args.names.now))

pub returns-in_err-script-clause-stop : goal.returns-in_err-script-clause-stop
returns-in_err-script-clause-stop g c =
    let named = seen c.args.names.now in
    let cpu : CpuNo = record { 0 = c.loop-cpu.cpu } in
    let before = reading g.F.Files.holds g.F.Files.asked g.F.Files.faults c.args.files.now c.loop-cpu.files in
    let now = reading g.F.Files.holds g.F.Files.asked g.F.Files.faults c.loop-cpu.files c.read_commands.new.files in
    let files = reading g.F.Files.holds g.F.Files.asked g.F.Files.faults c.args.files.now c.read_commands.new.files in
    err-is c.from_residual.result c.in_err-script.field-0.0 (StopsAtOne files named) c.from_residual.ensures.1
    (stopped_behind before now named cpu c.loop-cpu.scripts c.in_err-script.field-0.0 c.loop-cpu.invariant
    (omega (arith, c.loop-cpu-test.true, c.cpus-cpu-end.ensures)) refl refl c.in_err-script.ensures.stop c.in_err-script.ensures.asks)

pub returns-in_err-script-clause-same_files : goal.returns-in_err-script-clause-same_files
returns-in_err-script-clause-same_files g c = c.read_commands.ensures.same_files ∙ c.loop-cpu.invariant.same

pub returns-in_err-script-clause-faults_kept : goal.returns-in_err-script-clause-faults_kept
returns-in_err-script-clause-faults_kept g c = omega (arith, c.read_commands.ensures.faults_kept, c.loop-cpu.invariant.kept)

pub returns-in_err-try_push-clause-stop : goal.returns-in_err-try_push-clause-stop
returns-in_err-try_push-clause-stop g c =
    let named = seen c.args.names.now in
    let cpu : CpuNo = record { 0 = c.loop-cpu.cpu } in
    let before = reading g.F.Files.holds g.F.Files.asked g.F.Files.faults c.args.files.now c.loop-cpu.files in
    let now = reading g.F.Files.holds g.F.Files.asked g.F.Files.faults c.loop-cpu.files c.read_commands.new.files in
    let files = reading g.F.Files.holds g.F.Files.asked g.F.Files.faults c.args.files.now c.read_commands.new.files in
    err-is c.from_residual-in_err-try_push.result NoMemory (StopsAtOne files named) c.from_residual-in_err-try_push.ensures.1
    (stopped_behind before now named cpu c.loop-cpu.scripts NoMemory c.loop-cpu.invariant
    (omega (arith, c.loop-cpu-test.true, c.cpus-cpu-end.ensures)) refl refl tt (inl c.in_ok-script.ensures.asked))

pub returns-in_err-try_push-clause-same_files : goal.returns-in_err-try_push-clause-same_files
returns-in_err-try_push-clause-same_files g c = c.read_commands.ensures.same_files ∙ c.loop-cpu.invariant.same

pub returns-in_err-try_push-clause-faults_kept : goal.returns-in_err-try_push-clause-faults_kept
returns-in_err-try_push-clause-faults_kept g c = omega (arith, c.read_commands.ensures.faults_kept, c.loop-cpu.invariant.kept)

pub loop-cpu-preserved : goal.loop-cpu-preserved
loop-cpu-preserved g c =
    let named = seen c.args.names.now in
    let cpu : CpuNo = record { 0 = c.loop-cpu.cpu } in
    let before = reading g.F.Files.holds g.F.Files.asked g.F.Files.faults c.args.files.now c.loop-cpu.files in
    let now = reading g.F.Files.holds g.F.Files.asked g.F.Files.faults c.loop-cpu.files c.read_commands.new.files in
    let files = reading g.F.Files.holds g.F.Files.asked g.F.Files.faults c.args.files.now c.read_commands.new.files in
    subst (λ (s : List (List Command)). AreRead files (g.F.Files.holds c.read_commands.new.files) named (c.loop-cpu.cpu + 1) s) (sym c.in_ok-try_push.ensures.ok)
    (one_more_read before now (g.F.Files.holds c.read_commands.new.files) named cpu c.loop-cpu.scripts c.in_ok-script.script c.loop-cpu.invariant
    (omega (arith, c.loop-cpu-test.true, c.cpus-cpu-end.ensures)) refl refl c.in_ok-script.ensures.same_files c.in_ok-script.ensures.faults_kept c.in_ok-script.ensures.asked
    c.in_ok-script.ensures.good c.in_ok-script.ensures.script c.in_ok-script.ensures.runnable)

pub returns-clause-good : goal.returns-clause-good
returns-clause-good g c cpu less = c.loop-cpu.invariant.good cpu (omega (arith, less, c.loop-cpu-test.false, c.cpus-cpu-end.ensures))

pub returns-clause-scripts : goal.returns-clause-scripts
returns-clause-scripts g c =
    are_scripts (reading g.F.Files.holds g.F.Files.asked g.F.Files.faults c.args.files.now c.loop-cpu.files) (g.F.Files.holds c.loop-cpu.files)
    (seen c.args.names.now) c.loop-cpu.cpu c.loop-cpu.scripts c.loop-cpu.invariant (omega (arith, c.loop-cpu-test.false, c.loop-cpu.auto.cpu-end, c.cpus-cpu-end.ensures))

pub returns-clause-runnable : goal.returns-clause-runnable
returns-clause-runnable g c = c.loop-cpu.invariant.runnable

pub returns-clause-asked : goal.returns-clause-asked
returns-clause-asked g c =
    all_asked (reading g.F.Files.holds g.F.Files.asked g.F.Files.faults c.args.files.now c.loop-cpu.files) (g.F.Files.holds c.loop-cpu.files)
    (seen c.args.names.now) c.loop-cpu.cpu c.loop-cpu.scripts c.loop-cpu.invariant (omega (arith, c.loop-cpu-test.false, c.loop-cpu.auto.cpu-end, c.cpus-cpu-end.ensures))

pub returns-clause-same_files : goal.returns-clause-same_files
returns-clause-same_files g c = c.loop-cpu.invariant.same

pub returns-clause-faults_kept : goal.returns-clause-faults_kept
returns-clause-faults_kept g c = c.loop-cpu.invariant.kept
