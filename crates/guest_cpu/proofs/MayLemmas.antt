use Rattle.std.proofs.Common.{◌≡◌, ◌∙◌, true, ℕ, ◌<◌, ◌^◌, max, List, sym, subst, ap, arith}
use Rattle.std.proofs.lemmas.List.Elements.{All-weaker}
use Rattle.std.proofs.lemmas.Option.{slice_get_within}
use Rattle.event_core.specs.declared.command.Command.{Command}
use Rattle.event_core.specs.declared.module_call.ModuleCall.{ModuleCall}
use Rattle.event_core.specs.Legal.{at_place, greatest_stamp}
use Rattle.event_core.specs.Own.{replied}
use Rattle.memory_core.specs.Steps.{last_stamp}
use Rattle.io_areas.specs.Value.{AreaValue}
use Rattle.memory_core.specs.Value.{MemoryValue}
use Rattle.event_core.specs.declared.entry.Place.TheVariants as place
use Rattle.event_core.specs.Holdings.{Mapping}
use Rattle.event_core.specs.Moved.{made_by}
use Rattle.io_areas.specs.Value.{IsMine}
use Rattle.pool_laws.specs.Live.{is_live, live_in}
use Rattle.guest_steps.specs.Ground.{Ground, HasArea, ground_of}
use Rattle.guest_steps.specs.declared.processor.Need.TheVariants.{Area}
use Rattle.guest_steps.proofs.GroundLemmas.{there-of}
use Rattle.guest_cpu.specs.Accessing.{MayVisit}
use Rattle.guest_cpu.proofs.NeedLemmas.{needs-area}
use Rattle.guest_steps.specs.Steps.{RoomAlone}
use Rattle.guest_cpu.specs.Progressing.{Progressed, need_in, own_in}
use Rattle.guest_cpu.specs.Resting.{StepsOn}
use Rattle.guest_cpu.specs.Standing.{CourseStands, seen_with}
use Rattle.guest_cpu.specs.Stepping.{MayStep, OnlyRoom}
use Rattle.guest_cpu.proofs.CourseLemmas.{rests-free}
use Rattle.guest_cpu.proofs.RoomAloneLemmas.{room-course}

-- A processor that stands may step the memory.

stamps-left : (own last : ℕ) → max own last < 2 ^ 64 → (own < 2 ^ 64) × (last < 2 ^ 64)
stamps-left own last fresh = (omega (arith, fresh), omega (arith, fresh))

module _ (made_before made : List ModuleCall) (faults_before faults kept : ℕ) where
  may-step : (p : Progressed) (areas : List AreaValue) (memory : MemoryValue) (c : Command) → CourseStands p made_before made faults_before faults kept (ground_of memory areas) → StepsOn (seen_with p made_before made faults_before faults) memory c → MayStep p memory
  may-step p areas memory c s on =
      let see = seen_with p made_before made faults_before faults in
      let more = slice_get_within p.script (replied p.moved) c on.present in
      let few = s.stands.readable.few in
      let stamps = stamps-left (greatest_stamp p.moved) (last_stamp memory.entries) on.fresh in
      record {
        same = s.stands.same.memory;
        cpu = s.stands.cpu;
        rests = on.rests;
        free = rests-free see memory p.out p.done s.stands.out on.rests;
        few = omega (arith, more, few);
        clock = stamps.0;
        last = stamps.1;
      }

  -- also with room taken before it
  pub may-all : (p taken : Progressed) (areas : List AreaValue) (before between : MemoryValue) (c : Command) → CourseStands p made_before made faults_before faults kept (ground_of before areas) → OnlyRoom p taken → RoomAlone before between → StepsOn (seen_with p made_before made faults_before faults) before c → MayStep taken between
  may-all p taken areas before between c s only alone on =
      let stood = room-course made_before made faults_before faults p taken kept kept areas before between s only alone (omega arith) in
      let P : Progressed → Type 0 = λ x. StepsOn (seen_with x made_before made faults_before faults) before c in
      let there : StepsOn (seen_with taken made_before made faults_before faults) before c = subst P (sym only.0) on in
      let last = ap last_stamp alone.entries in
      let fresh = there.fresh in
      may-step taken areas between c stood (record { rests = there.rests; present = there.present; fine = there.fine; need = there.need; fresh = omega (arith, fresh, last) })

  -- and an area that it needs
  pub may-visit : (p : Progressed) (base : Ground) (area : AreaValue) → CourseStands p made_before made faults_before faults kept base → HasArea base area → need_in p ≡ Area area.number
      → max (greatest_stamp p.moved) (greatest_stamp area.moved) < 2 ^ 64 → MayVisit p area
  may-visit p base area s has needs fresh =
      let n = needs-area p area.number needs in
      let more = slice_get_within p.script (replied p.moved) n.present n.is in
      let few = s.stands.readable.few in
      let stamps = stamps-left (greatest_stamp p.moved) (greatest_stamp area.moved) fresh in
      let mine : made_by p.number area.moved ≡ at_place (place.Area area.number) p.moved = ap (made_by p.number) (sym (there-of base area.number area has)) ∙ s.stands.mine (place.Area area.number) in
      record {
        size = sym (s.stands.same.each area.number area has).1;
        rests = n.rests;
        mine = All-weaker (λ (m : Mapping). is_live m.run (live_in (at_place (place.Area m.run.area) p.moved)) ≡ true) (λ (m : Mapping). m.run.area ≡ area.number → IsMine area p.number m.run)
            (λ m live here. ap (λ ms. is_live m.run (live_in ms)) (mine ∙ ap (λ (k : ℕ). at_place (place.Area k) p.moved) (sym here)) ∙ live)
            (own_in p).mappings s.stands.mapped.live;
        few = omega (arith, more, few);
        clock = stamps.0;
        last = stamps.1;
      }
