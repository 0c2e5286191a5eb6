use Rattle.std.proofs.Common.{arith, ◌≡◌, ◌∙◌, ◌++◌, ◌+◌, [], sym, ap, append-nil, drop, List}
use Rattle.std.proofs.lemmas.List.{drop_all}
use Rattle.event_core.specs.declared.entry.Entry.{Entry}
use Rattle.event_core.specs.Texts.{processor_text, replies_text}
use Rattle.guest_text.proofs.TextLemmas.{replies_of, replies_same}
use Rattle.guest_text.proofs.print.print_processor.Goals as goal

pub returns : goal.returns
returns c =
    let none : drop c.loop-entry.entry-index c.args.entries.now ≡ [] = drop_all c.loop-entry.entry-index c.args.entries.now (omega (arith, c.loop-entry-test.false)) in
    let added : List Entry → _ = λ rest. c.loop-entry.text.items ++ replies_text (c.loop-entry.printed + 1) (replies_of c.args.cpu rest) in
    c.from_vec.ensures ∙ sym (append-nil c.loop-entry.text.items) ∙ ap added (sym none) ∙ c.loop-entry.invariant.text ∙ ap (processor_text c.args.cpu) (replies_same c.args.cpu c.args.entries.now)
