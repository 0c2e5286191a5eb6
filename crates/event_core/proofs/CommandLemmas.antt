-- The command of an entry that follows, and its step.
use Rattle.std.proofs.Common.{◌≡◌, ℕ, Option, None, Some, List, [], ◌∷◌, ◌++◌, refl, sym, ◌∙◌, ap, subst}
use Rattle.std.specs.Prelude.{slice_get, unwrap_or}
use Rattle.std.specs.Option.{option_and_then}
use Rattle.event_core.specs.declared.boot.Boot.{Boot}
use Rattle.event_core.specs.declared.command.Command.{Command}
use Rattle.event_core.specs.declared.entry.Entry.{Entry}
use Rattle.event_core.specs.Calls.{calls_in}
use Rattle.event_core.specs.Moved.{Moved, made_by}
use Rattle.event_core.specs.Own.{present, replied, own_of, script_of}
use Rattle.event_core.specs.Legal.{Follows, LegalAfter, with_bytes, moved_after, at_place}
use Rattle.event_core.specs.Next.{Step, step_of}

-- what an entry says of the step that made it
abbrev pub step_told : Entry → Step
step_told entry = record { event = entry.event; reply = entry.reply }

-- each entry of a legal history follows those before it
pub follows-at : (boot : Boot) (scripts : List (List Command)) (history : List Moved) (before : List Entry) (entry : Entry) (later : List Entry) → LegalAfter boot scripts history (before ++ entry ∷ later) → Follows boot scripts (moved_after boot scripts history before) entry
follows-at boot scripts history [] entry later legal = legal.0
follows-at boot scripts history (e ∷ before) entry later legal = follows-at boot scripts (history ++ with_bytes boot scripts history e ∷ []) before entry later legal.2

-- what goes on behind an optional value has one
pub and-then-some : {A B : Type 0} (f : A → Option B) (o : Option A) (b : B) → option_and_then f o ≡ Some b → (a : A) × (o ≡ Some a) × (f a ≡ Some b)
and-then-some f None b h = cc
and-then-some f (Some a) b h = (a, refl, h)

in-script : (script : Option (List Command)) (n : ℕ) → slice_get (unwrap_or script []) n ≡ option_and_then (λ commands. slice_get commands n) script
in-script None n = refl
in-script (Some commands) n = refl

-- the present command is the one of the next number in the script
pub present-is : (scripts : List (List Command)) (cpu : ℕ) (own : List Moved) → slice_get (script_of scripts cpu) (replied own) ≡ present scripts cpu own
present-is scripts cpu own = in-script (slice_get scripts cpu) (replied own)

-- The command of an entry that follows a history, and its step.
pub record CommandOf (boot : Boot) (scripts : List (List Command)) (history : List Moved) (entry : Entry) : Type 0 where
  pub command : Command
  pub its : slice_get (script_of scripts entry.cpu.0) entry.cmd ≡ Some command
  pub step : step_of boot entry.cpu.0 (own_of (script_of scripts entry.cpu.0) (made_by entry.cpu.0 history)) (at_place entry.place history) command (calls_in entry.event) ≡ Some (step_told entry)

pub command-of : (boot : Boot) (scripts : List (List Command)) (history : List Moved) (entry : Entry) → Follows boot scripts history entry → CommandOf boot scripts history entry
command-of boot scripts history entry f =
    let own = made_by entry.cpu.0 history in
    let found = and-then-some (λ c. step_of boot entry.cpu.0 (own_of (script_of scripts entry.cpu.0) own) (at_place entry.place history) c (calls_in entry.event)) (present scripts entry.cpu.0 own) (step_told entry) f.over.step in
    record {
      command = found.0;
      its = ap (slice_get (script_of scripts entry.cpu.0)) f.over.number ∙ present-is scripts entry.cpu.0 own ∙ found.1;
      step = found.2;
    }

pub some-same : {A : Type 0} (a b : A) → Some a ≡ Some b → a ≡ b
some-same a b h = cc

-- the step of an entry's command
pub step-at : (boot : Boot) (scripts : List (List Command)) (history : List Moved) (entry : Entry) (c : Command) → Follows boot scripts history entry → slice_get (script_of scripts entry.cpu.0) entry.cmd ≡ Some c
    → step_of boot entry.cpu.0 (own_of (script_of scripts entry.cpu.0) (made_by entry.cpu.0 history)) (at_place entry.place history) c (calls_in entry.event) ≡ Some (step_told entry)
step-at boot scripts history entry c f its =
    let found = command-of boot scripts history entry f in
    let same : found.command ≡ c = some-same found.command c (sym found.its ∙ its) in
    subst (λ d. step_of boot entry.cpu.0 (own_of (script_of scripts entry.cpu.0) (made_by entry.cpu.0 history)) (at_place entry.place history) d (calls_in entry.event) ≡ Some (step_told entry)) same found.step
