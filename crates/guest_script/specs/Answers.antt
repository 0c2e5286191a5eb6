use Rattle.std.specs.Prelude.{◌≡◌, Result, Ok, Err}
use Rattle.guest_script.specs.declared.fault.Why.{Why}
use Rattle.guest_script.specs.declared.fault.LineFault.{LineFault}
use Rattle.guest_script.specs.declared.fault.LineFault.TheVariants as line

-- a fault of a line is what reading answers, unless memory ran out
abbrev pub LineFails : {X : Type 0} → LineFault → Result X Why → Type 0
LineFails line.NoMemory read = Unit {0}
LineFails (line.Why why) read = read ≡ Err why

-- what a reader of a line returned is what reading answers, unless memory ran out
abbrev pub LineGives : {X : Type 0} → Result X LineFault → Result X Why → Type 0
LineGives (Ok x) read = read ≡ Ok x
LineGives (Err fault) read = LineFails fault read
