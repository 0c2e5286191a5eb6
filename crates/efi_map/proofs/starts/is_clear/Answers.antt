use Rattle.efi_map.proofs.Index.{clear_at_last, met_at_last}
use Rattle.efi_map.proofs.starts.is_clear.Goals as goal

pub returns-in-Some-clause-clear : goal.returns-in-Some-clause-clear
returns-in-Some-clause-clear c =
    rw c.from.ensures (clear_at_last c.args.starts.now c.in-Some.field-0-0.now c.in-Some.end.now c.args.start c.args.last c.next_back.new.self c.range.result c.requires (c.range.ensures.in_range tt) c.in-Some.ensures.steps)

pub returns-in-Some-clause-met : goal.returns-in-Some-clause-met
returns-in-Some-clause-met c =
    rw c.from.ensures (met_at_last c.args.starts.now c.in-Some.field-0-0.now c.in-Some.end.now c.args.start c.args.last c.next_back.new.self c.range.result (c.range.ensures.in_range tt) c.in-Some.ensures.steps)
