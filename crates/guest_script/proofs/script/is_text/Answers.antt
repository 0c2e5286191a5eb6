use Rattle.std.proofs.Common.{◌∙◌}
use Rattle.guest_script.proofs.ScriptLemmas.{text_told}
use Rattle.guest_script.proofs.script.is_text.Goals as goal

pub returns : goal.returns
returns c = c.is_ok.ensures.value ∙ text_told c.from_utf8.result c.args.line.now _ _ c.from_utf8.ensures.cases
