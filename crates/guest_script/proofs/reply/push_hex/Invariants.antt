use Rattle.std.proofs.Common.{◌≡◌, ◌++◌, drop}
use Rattle.event_core.specs.Texts.{hex_text}
use Rattle.guest_script.proofs.reply.push_hex.Given as goal

-- the bytes so far are printed, and those that are left make the rest of the text
abbrev pub invariant-loop-byte : goal.invariant-loop-byte
invariant-loop-byte l = l.text.items ++ hex_text (drop l.byte-index l.bytes) ≡ l.fn.text.items ++ hex_text l.bytes
