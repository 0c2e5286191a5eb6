use Rattle.std.proofs.Common.{◌≡◌, ◌<◌, ℕ, Option, None, Some, List, [], ◌∷◌, ◌++◌, length, map, slice_get, refl, sym, ◌∙◌, ap, subst}
use Rattle.std.specs.Prelude.{All}
use Rattle.std.specs.Option.{option_and_then}
use Rattle.std.proofs.lemmas.List.Elements.{All-nil, All-cons}
use Rattle.std.proofs.lemmas.Option.{slice_get_within}
use Rattle.guest_base.specs.declared.memory.CpuNo.{CpuNo}
use Rattle.event_core.specs.declared.boot.Boot.{Boot}
use Rattle.event_core.specs.declared.command.Command.{Command}
use Rattle.event_core.specs.declared.entry.Entry.{Entry}
use Rattle.event_core.specs.Calls.{calls_in}
use Rattle.event_core.specs.Legal.{Legal, LegalAfter, Whole, at_place, with_bytes}
use Rattle.event_core.specs.Moved.{Moved, made_by}
use Rattle.event_core.specs.Next.{Step, next_step, step_of}
use Rattle.event_core.specs.Own.{own_of, present, replied, script_of}
use Rattle.event_core.specs.Turns.{TakenIn, Turned}
use Rattle.event_core.proofs.IdleLemmas.{legal-turns, whole-turned}

-- The turns of a history's processors.

abbrev pub numbers : List CpuNo → List ℕ
numbers cpus = map (λ (cpu : CpuNo). cpu.0) cpus

numbers-of : (entries : List Entry) → numbers (map (λ (e : Entry). e.cpu) entries) ≡ map (λ (e : Entry). e.cpu.0) entries
numbers-of [] = refl
numbers-of (e ∷ entries) = ap (λ n. e.cpu.0 ∷ n) (numbers-of entries)

pub order-taken : (boot : Boot) (scripts : List (List Command)) (entries : List Entry) (order : List CpuNo) → order ≡ map (λ (e : Entry). e.cpu) entries → Legal boot scripts entries → TakenIn boot scripts [] (numbers order) entries
order-taken boot scripts entries order is legal = subst (λ turns. TakenIn boot scripts [] turns entries) (sym (ap numbers is ∙ numbers-of entries)) (legal-turns boot scripts [] entries legal)

pub order-turned : (boot : Boot) (scripts : List (List Command)) (entries : List Entry) (order : List CpuNo) → order ≡ map (λ (e : Entry). e.cpu) entries → Whole boot scripts entries → Turned boot scripts (numbers order) entries
order-turned boot scripts entries order is whole = subst (λ turns. Turned boot scripts turns entries) (sym (ap numbers is ∙ numbers-of entries)) (whole-turned boot scripts entries whole)

-- ---- whose turns they are

found-of : {A B : Type 0} (f : A → Option B) (found : Option A) (b : B) → option_and_then f found ≡ Some b → (a : A) × (found ≡ Some a)
found-of f None b is = cc
found-of f (Some a) b is = (a, refl)

-- a processor with a step has a script
next-low : (boot : Boot) (scripts : List (List Command)) (cpu : ℕ) (own there : List Moved) (e : Entry) (s : Step) → next_step boot scripts cpu own there (calls_in e.event) ≡ Some s → cpu < length scripts
next-low boot scripts cpu own there e s next =
    let command = found-of (λ command. step_of boot cpu (own_of (script_of scripts cpu) own) there command (calls_in e.event)) (present scripts cpu own) s next in
    let script = found-of (λ (commands : List Command). slice_get commands (replied own)) (slice_get scripts cpu) command.0 command.1 in
    slice_get_within scripts cpu script.0 script.1

cpus-low : (boot : Boot) (scripts : List (List Command)) (history : List Moved) (entries : List Entry) → LegalAfter boot scripts history entries → All (λ (cpu : CpuNo). cpu.0 < length scripts) (map (λ (e : Entry). e.cpu) entries)
cpus-low boot scripts history [] legal = All-nil (λ (cpu : CpuNo). cpu.0 < length scripts)
cpus-low boot scripts history (e ∷ entries) legal =
    All-cons (λ (cpu : CpuNo). cpu.0 < length scripts) e.cpu (map (λ (x : Entry). x.cpu) entries)
    (next-low boot scripts e.cpu.0 (made_by e.cpu.0 history) (at_place e.place history) e (record { event = e.event; reply = e.reply }) legal.0.over.step)
    (cpus-low boot scripts (history ++ with_bytes boot scripts history e ∷ []) entries legal.2)

pub order-low : (boot : Boot) (scripts : List (List Command)) (entries : List Entry) (order : List CpuNo) → order ≡ map (λ (e : Entry). e.cpu) entries → Legal boot scripts entries → All (λ (cpu : CpuNo). cpu.0 < length scripts) order
order-low boot scripts entries order is legal = subst (All (λ (cpu : CpuNo). cpu.0 < length scripts)) (sym is) (cpus-low boot scripts [] entries legal)
