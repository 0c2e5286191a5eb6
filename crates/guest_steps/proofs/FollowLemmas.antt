use Rattle.std.proofs.Common.{◌≡◌, ℕ, Option, Some, List, [], ◌∷◌, ◌++◌, refl, sym, ◌∙◌, ap, subst, append_assoc, append-nil, slice_get}
use Rattle.std.specs.Prelude.{All, unwrap_or}
use Rattle.event_core.specs.declared.command.Command.{Command}
use Rattle.event_core.specs.declared.entry.Place.{Place}
use Rattle.event_core.specs.Calls.{calls_in}
use Rattle.event_core.specs.Legal.{place_of, stamp_of}
use Rattle.event_core.specs.Locally.{FollowsLocally}
use Rattle.event_core.specs.Moved.{Moved}
use Rattle.event_core.specs.Next.{step_of}
use Rattle.event_core.specs.Own.{own_of, present, replied, script_of}
use Rattle.event_core.specs.PoolBytes.{bytes_moved}
use Rattle.event_core.proofs.CommandLemmas.{and-then-some, present-is, step_told}
use Rattle.event_core.proofs.RisingLemmas.{all-middle}
use Rattle.guest_steps.specs.Seen.{Seen}
use Rattle.guest_steps.specs.Standing.{FollowsAll}
use Rattle.guest_steps.specs.Steps.{HaveScript}
use Rattle.guest_steps.proofs.ListLemmas.{alone, alone-has}

-- The command of an entry that follows, and its step.

pub record StepTaken (c : Seen) (own there : List Moved) (m : Moved) : Type 0 where
  pub command : Command
  pub its : slice_get c.script (replied own) ≡ Some command
  pub number : m.entry.cmd ≡ replied own
  pub step : step_of c.boot c.number (own_of c.script own) there command (calls_in m.entry.event) ≡ Some (step_told m.entry)
  pub place : m.entry.place ≡ place_of c.boot m.entry.event
  pub bytes : m.bytes ≡ bytes_moved c.boot c.script (own_of c.script own) there m.entry
  pub stamp : m.entry.stamp ≡ stamp_of own there

pub step-taken : (c : Seen) (own there : List Moved) (m : Moved) → m.entry.cpu.0 ≡ c.number
    → ((scripts : List (List Command)) → HaveScript scripts c → FollowsLocally c.boot scripts own there m) → StepTaken c own there m
step-taken c own there m mine follows =
    let scripts = alone c.number c.script in
    let has = alone-has c.number c.script in
    let local = follows scripts has in
    let by = λ (n : ℕ) (x : Command). step_of c.boot n (own_of (script_of scripts n) own) there x (calls_in m.entry.event) in
    let found = and-then-some (by m.entry.cpu.0) (present scripts m.entry.cpu.0 own) (step_told m.entry) local.over.step in
    let script : script_of scripts c.number ≡ c.script = ap (λ (o : Option (List Command)). unwrap_or o []) has in
    let at : slice_get c.script (replied own) ≡ Some found.0 =
    ap (λ (s : List Command). slice_get s (replied own)) (sym script) ∙ present-is scripts c.number own ∙ ap (λ n. present scripts n own) (sym mine) ∙ found.1
    in
    record {
      command = found.0;
      its = at;
      number = local.over.number;
      step = ap (λ (s : List Command). step_of c.boot c.number (own_of s own) there found.0 (calls_in m.entry.event)) (sym script) ∙ ap (λ n. by n found.0) (sym mine) ∙ found.2;
      place = local.over.place;
      bytes = local.bytes
          ∙ ap (λ n. bytes_moved c.boot (script_of scripts n) (own_of (script_of scripts n) own) there m.entry) mine
          ∙ ap (λ (s : List Command). bytes_moved c.boot s (own_of s own) there m.entry) script;
      stamp = local.stamp;
    }

-- what each entry keeps holds of all
pub each-prefix : (c : Seen) (kept : Place → List Moved) (P : List Moved → Type 0) → FollowsAll c kept → All (λ (m : Moved). m.entry.cpu.0 ≡ c.number) c.moved → P []
    → ((own there : List Moved) (m : Moved) → StepTaken c own there m → P own → P (own ++ m ∷ [])) → P c.moved
each-prefix c kept P follows named first next = from [] c.moved refl first where
  from : (before rest : List Moved) → c.moved ≡ before ++ rest → P before → P c.moved
  from before [] is here = subst P (sym (is ∙ append-nil before)) here
  from before (m ∷ rest) is here =
      let at = follows before rest m is in
      let mine : m.entry.cpu.0 ≡ c.number = all-middle (λ (x : Moved). x.entry.cpu.0 ≡ c.number) before m rest (subst (All (λ (x : Moved). x.entry.cpu.0 ≡ c.number)) is named) in
      from (before ++ m ∷ []) rest (is ∙ sym (append_assoc before (m ∷ []) rest)) (next before at.0 m (step-taken c before at.0 m mine at.2) here)
