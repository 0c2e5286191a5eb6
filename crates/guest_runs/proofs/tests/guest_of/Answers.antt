use Rattle.std.proofs.Common.{◌≡◌, ◌<◌, None, List, [], ◌∷◌, refl, sym, ◌∙◌, arith, length, length-set}
use Rattle.std.specs.Prelude.{All, slice_set}
use Rattle.std.proofs.lemmas.List.Elements.{All-tail}
use Rattle.event_core.specs.declared.module_call.ModuleCall.{ModuleCall}
use Rattle.guest_runs.specs.Asking.{OthersUnmade, first_made}
use Rattle.page_module.specs.MemPort.{calls_made}
use Rattle.guest_runs.proofs.tests.guest_of.Goals as goal

-- a call on the first port
first-made : {P : Type 0} (made : P → List ModuleCall) (ports : List P) (port : P) (calls : List ModuleCall) → 0 < length ports → made port ≡ calls → first_made made (slice_set ports 0 port) ≡ calls
first-made made [] port calls some is = absurd (omega (arith, some))
first-made made (p ∷ ports) port calls some is = is

others-unmade : {P : Type 0} (made : P → List ModuleCall) (ports : List P) (port : P) → All (λ p. made p ≡ []) ports → OthersUnmade made (slice_set ports 0 port)
others-unmade made [] port unmade = unmade
others-unmade made (p ∷ ports) port unmade = All-tail (λ p. made p ≡ []) p ports unmade

pub boot-requires-clause-asked : goal.boot-requires-clause-asked
boot-requires-clause-asked c = record { few_slots = omega arith; few_areas = omega arith; power = (0, refl) }

pub returns-in-Ok : goal.returns-in-Ok
returns-in-Ok c scripts count runnable =
    let ports = c.in_ok-ports.ports.items in
    let port = c.boot.new.port in
    let e = c.in-Ok.ensures in
    let map = c.in_ok-map.map in
    let long : length (slice_set ports 0 port) ≡ length ports = length-set ports 0 port in
    let ports_count = c.in_ok-ports.ensures.count in
    let some = c.requires.one in
    let few = c.requires.few in
    record {
      stands = e.stands;
      boot_made = record { descriptors = map.descriptors; hosts = map.hosts; table = None; slots = 0; areas = 1; cpus = c.args.cpus; rules = c.in_ok-map.ensures.rules; fits = tt; right = e.right };
      cpus = e.right.uncalled.same_cpus ∙ sym count;
      some = omega (arith, count, some);
      few = omega (arith, count, few);
      runnable = runnable;
      enough = omega (arith, count, long, ports_count);
      first = first-made calls_made ports port c.in-Ok.world.boot.calls (omega (arith, ports_count, some)) e.made;
      others = others-unmade calls_made ports port c.in_ok-ports.ensures.unmade;
    }
