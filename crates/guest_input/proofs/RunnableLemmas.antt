use Rattle.std.proofs.Common.{◌≡◌, Bool, true, false, List, [], ◌∷◌, refl}
use Rattle.std.specs.Prelude.{◌&&◌, All}
use Rattle.std.specs.List.{list_all}
use Rattle.std.proofs.lemmas.List.Elements.{All-nil, All-cons}
use Rattle.event_core.specs.declared.command.Command.{Command}
use Rattle.event_core.specs.declared.command.Command.TheVariants as command
use Rattle.block_laws.specs.Unconverting.{ConvertsNothing}
use Rattle.guest_input.specs.Runnable.{is_runnable}

-- The commands that can be run today convert nothing.

one_converts_nothing : (c : Command) → is_runnable c ≡ true → ConvertsNothing c
one_converts_nothing (command.Accept start len) h = tt
one_converts_nothing (command.Query start len) h = tt
one_converts_nothing (command.Alloc name order) h = tt
one_converts_nothing (command.Free name) h = tt
one_converts_nothing (command.Giveback name) h = cc
one_converts_nothing (command.Read name off len) h = tt
one_converts_nothing (command.Write name off hex) h = tt
one_converts_nothing (command.Fill name off len byte) h = tt
one_converts_nothing (command.Load name off) h = tt
one_converts_nothing (command.Share name) h = cc
one_converts_nothing (command.Private name) h = cc
one_converts_nothing (command.Map mapping name off len direction mask) h = tt
one_converts_nothing (command.SyncDev mapping off len) h = tt
one_converts_nothing (command.SyncCpu mapping off len) h = tt
one_converts_nothing (command.Unmap mapping skip) h = tt
one_converts_nothing (command.DRead mapping off len) h = tt
one_converts_nothing (command.DWrite mapping off hex) h = tt
one_converts_nothing (command.HostRead off len) h = tt
one_converts_nothing (command.HostWrite off hex) h = tt

both : (a b : Bool) → (a && b) ≡ true → (a ≡ true) × (b ≡ true)
both true b h = (refl, h)
both false b h = cc

pub all_convert_nothing : (script : List Command) → list_all is_runnable script ≡ true → All ConvertsNothing script
all_convert_nothing [] h = All-nil ConvertsNothing
all_convert_nothing (c ∷ script) h =
    let two = both (is_runnable c) (list_all is_runnable script) h in
    All-cons ConvertsNothing c script (one_converts_nothing c two.0) (all_convert_nothing script two.1)
