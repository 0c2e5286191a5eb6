use Rattle.std.proofs.Common.{◌≡◌, ℕ, ◌+◌, List, ◌∷◌, Result, Ok, Err, refl, ap, ◌∙◌, sym}
use Rattle.std.specs.Prelude.{Bool, true, false, MatchResult, is_ok}
use Rattle.std.specs.Str.{IsUtf8, is_utf8}
use Rattle.std.proofs.lemmas.Str.{IsUtf8-from_is_utf8, is_utf8-from_IsUtf8}
use Rattle.event_core.specs.declared.command.Command.{Command}
use Rattle.guest_script.specs.declared.fault.ScriptFault.{ScriptFault}
use Rattle.guest_script.specs.declared.fault.ScriptFault.TheVariants as fault
use Rattle.guest_script.specs.Script.{with_line, with_lines, followed_by, ScriptFails}

no_text : (line : List ℕ) (b : Bool) → b ≡ is_utf8 line → (IsUtf8 line → ⊥) → false ≡ b
no_text line true e h = absurd (h (IsUtf8-from_is_utf8 line (sym e)))
no_text line false e h = refl

-- whether a line is text is what the library tells
pub text_told : {T E : Type 0} (r : Result T E) (line : List ℕ) (P : T → Type 0) (Q : E → Type 0) → MatchResult r (λ s. P s × IsUtf8 line) (λ e. (IsUtf8 line → ⊥) × Q e) → is_ok r ≡ is_utf8 line
text_told (Ok s) line P Q h = sym (is_utf8-from_IsUtf8 line h.1)
text_told (Err e) line P Q h = no_text line (is_utf8 line) refl h.0

-- a line is read, and the others are left
pub line_read : (number : ℕ) (script longer : List Command) (line : List ℕ) (lines all : List (List ℕ)) → all ≡ line ∷ lines → with_line number script line ≡ Ok longer
    → with_lines number script all ≡ with_lines (number + 1) longer lines
line_read number script longer line lines all split read =
    ap (with_lines number script) split ∙ ap (λ (r : Result (List Command) ScriptFault). followed_by r (λ next. with_lines (number + 1) next lines)) read

stop : (number : ℕ) (script : List Command) (line : List ℕ) (lines all : List (List ℕ)) (f : ScriptFault) → all ≡ line ∷ lines → with_line number script line ≡ Err f → with_lines number script all ≡ Err f
stop number script line lines all f split fails =
    ap (with_lines number script) split ∙ ap (λ (r : Result (List Command) ScriptFault). followed_by r (λ next. with_lines (number + 1) next lines)) fails

-- a line's fault is the script's
pub line_fails : (f : ScriptFault) (number : ℕ) (script : List Command) (line : List ℕ) (lines all : List (List ℕ)) → all ≡ line ∷ lines → ScriptFails f (with_line number script line)
    → ScriptFails f (with_lines number script all)
line_fails fault.NoMemory number script line lines all split fails = tt
line_fails (fault.Line n why) number script line lines all split fails = stop number script line lines all (fault.Line n why) split fails
line_fails fault.TooManyCommands number script line lines all split fails = stop number script line lines all fault.TooManyCommands split fails
line_fails fault.TooManyBytes number script line lines all split fails = stop number script line lines all fault.TooManyBytes split fails
