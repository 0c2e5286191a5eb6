use Rattle.guest_input.specs.Reading.{reading}
use Rattle.guest_input.proofs.ScriptLemmas.{AreRead}
use Rattle.guest_words.specs.Views.{seen}
use Rattle.guest_input.proofs.input.read_scripts.Given as goal

-- the scripts of the processors before this one are read
abbrev pub invariant-loop-cpu : goal.invariant-loop-cpu
invariant-loop-cpu g l =
    AreRead (reading g.F.Files.holds g.F.Files.asked g.F.Files.faults l.fn.files l.files) (g.F.Files.holds l.files) (seen l.names) l.cpu l.scripts
