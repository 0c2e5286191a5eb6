use Rattle.std.proofs.Common.{◌≡◌, ◌++◌, ◌+◌, ◌≤◌, drop}
use Rattle.event_core.specs.Texts.{replies_text, processor_text}
use Rattle.guest_text.proofs.TextLemmas.{replies_of}
use Rattle.guest_text.proofs.print.print_processor.Given as goal

-- the text so far, and the lines of the replies that are left
abbrev pub invariant-loop-entry : goal.invariant-loop-entry
invariant-loop-entry l = record {
  text : l.text.items ++ replies_text (l.printed + 1) (replies_of l.cpu (drop l.entry-index l.entries)) ≡ processor_text l.cpu (replies_of l.cpu l.entries);
  few : l.printed ≤ l.entry-index;
}
