-- The commands that convert nothing, and the events that they make.
use Rattle.std.proofs.Common.{◌≡◌, ℕ, true, Option, None, Some, List, [], subst}
use Rattle.std.specs.Prelude.{slice_get, unwrap_or, IfSome}
use Rattle.std.specs.List.{AllByRecursion}
use Rattle.event_core.specs.declared.boot.Boot.{Boot}
use Rattle.event_core.specs.declared.command.Command.{Command}
use Rattle.event_core.specs.declared.event.Event.{Event}
use Rattle.event_core.specs.declared.event.Event.TheVariants as event
use Rattle.event_core.specs.declared.entry.Place.TheVariants as place
use Rattle.event_core.specs.Legal.{place_of, same_place}
use Rattle.event_core.specs.Own.{script_of}
use Rattle.event_core.proofs.SoundLemmas.{found_one}
use Rattle.block_laws.specs.Unconverting.{ConvertsNothing, ConvertNothing}

-- ---- the commands of the scripts

of_script : (script : Option (List Command)) (n : ℕ) → IfSome script (AllByRecursion ConvertsNothing) → IfSome (slice_get (unwrap_or script []) n) ConvertsNothing
of_script None n all = tt
of_script (Some commands) n all = found_one ConvertsNothing commands n all

-- each command of the scripts converts nothing
pub at-unconverting : (scripts : List (List Command)) (cpu n : ℕ) → ConvertNothing scripts → IfSome (slice_get (script_of scripts cpu) n) ConvertsNothing
at-unconverting scripts cpu n all = of_script (slice_get scripts cpu) n (found_one (AllByRecursion ConvertsNothing) scripts cpu all)

pub is-unconverting : (scripts : List (List Command)) (cpu n : ℕ) (c : Command) → ConvertNothing scripts → slice_get (script_of scripts cpu) n ≡ Some c → ConvertsNothing c
is-unconverting scripts cpu n c all its = subst (λ (o : Option Command). IfSome o ConvertsNothing) its (at-unconverting scripts cpu n all)

-- ---- the events

-- the events that such commands make
abbrev pub IsUnconverting : Event → Type 0
IsUnconverting (event.ConvertBegin block to) = ⊥
IsUnconverting (event.ConvertEnd block calls end) = ⊥
IsUnconverting _ = Unit {0}

-- those of them that are an area's
abbrev pub IsOfArea : Event → Type 0
IsOfArea (event.Looked area run) = Unit {0}
IsOfArea (event.CopiedIn run off len) = Unit {0}
IsOfArea (event.CopiedOut run off len) = Unit {0}
IsOfArea (event.Released run copied) = Unit {0}
IsOfArea (event.DeviceRead run off len) = Unit {0}
IsOfArea (event.DeviceWrote run off len) = Unit {0}
IsOfArea (event.HostRead off len) = Unit {0}
IsOfArea (event.HostWrote off len) = Unit {0}
IsOfArea _ = ⊥

pub area-unconverting : (e : Event) → IsOfArea e → IsUnconverting e
area-unconverting (event.ConvertBegin block to) is = absurd is
area-unconverting (event.ConvertEnd block calls end) is = absurd is
area-unconverting _ is = tt

-- an area's event isn't the memory's
pub area-elsewhere : (boot : Boot) (e : Event) → IsOfArea e → same_place place.Memory (place_of boot e) ≡ true → ⊥
area-elsewhere boot (event.Looked area run) is there = cc
area-elsewhere boot (event.CopiedIn run off len) is there = cc
area-elsewhere boot (event.CopiedOut run off len) is there = cc
area-elsewhere boot (event.Released run copied) is there = cc
area-elsewhere boot (event.DeviceRead run off len) is there = cc
area-elsewhere boot (event.DeviceWrote run off len) is there = cc
area-elsewhere boot (event.HostRead off len) is there = cc
area-elsewhere boot (event.HostWrote off len) is there = cc
area-elsewhere boot _ is there = absurd is
