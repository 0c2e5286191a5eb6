use Rattle.guest_script.proofs.NameLemmas.{name_answered}
use Rattle.guest_script.proofs.name.read_name.Goals as goal

pub returns : goal.returns
returns c = name_answered c.args.word.now c.new.result c.new.ensures.some c.new.ensures.none
