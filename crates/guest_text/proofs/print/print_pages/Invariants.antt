use Rattle.std.proofs.Common.{◌≡◌, ◌++◌, take, string_bytes}
use Rattle.std.specs.List.{flat_map}
use Rattle.std.specs.Prelude.{codes}
use Rattle.event_core.specs.Texts.{line, page_run_text}
use Rattle.guest_text.proofs.print.print_pages.Given as goal

abbrev pub invariant-loop-run : goal.invariant-loop-run
invariant-loop-run l = string_bytes l.text ≡ line (codes "pages") ++ flat_map page_run_text (take l.run-index l.runs)
