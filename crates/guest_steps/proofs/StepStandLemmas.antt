use Rattle.std.proofs.Common.{◌≡◌, ℕ, false, Option, None, Some, List, [], refl, sym, ◌∙◌, ap, subst, inl, inr}
use Rattle.guest_base.specs.declared.memory.Block.{Block}
use Rattle.event_core.specs.declared.boot.Boot.{Boot}
use Rattle.event_core.specs.declared.entry.Place.{Place}
use Rattle.event_core.specs.declared.entry.Place.TheVariants.{Memory, Area, Own}
use Rattle.event_core.specs.declared.event.Event.{Event}
use Rattle.event_core.specs.declared.event.Event.TheVariants.{Got}
use Rattle.event_core.specs.Claims.{claim_of}
use Rattle.event_core.specs.Legal.{place_of}
use Rattle.page_module.specs.Spans.{Taken}
use Rattle.pool_laws.specs.Live.{MappingsStand}
use Rattle.io_areas.specs.Value.{AreaValue}
use Rattle.memory_core.specs.Owners.{is_owner}
use Rattle.memory_core.specs.UnderLock.{moved_of}
use Rattle.memory_core.specs.Value.{MemoryValue}
use Rattle.guest_steps.specs.declared.processor.Need.{Need}
use Rattle.guest_steps.specs.declared.processor.Need.TheVariants as need
use Rattle.guest_steps.specs.Ground.{Ground, HasArea, ground_of, with_area}
use Rattle.guest_steps.specs.Seen.{Accepted, Seen, need_by, need_for, need_of, own_now, present_command}
use Rattle.guest_steps.specs.Standing.{IsOut, PortTells, Stands}
use Rattle.guest_steps.specs.Steps.{IsUnasked, MakesInArea, MakesInMemory, MakesOwn}
use Rattle.guest_steps.proofs.BlockedLemmas.{no-claim-out}
use Rattle.guest_steps.proofs.FollowLemmas.{step-taken}
use Rattle.guest_steps.proofs.MappedLemmas.{area-live, elsewhere-live}
use Rattle.guest_steps.proofs.OverLemmas.{area-makes-in, memory-makes-in, own-makes-in}
use Rattle.guest_steps.proofs.OwnStepLemmas.{needs-area}
use Rattle.guest_steps.proofs.StandLemmas.{made-stands}

-- A processor stands behind an entry that it made over the memory, in an area, or alone.

-- over the memory, where a block that was got had no owner
pub memory-stands : (old new : Seen) (before after : MemoryValue) (areas : List AreaValue) → Stands old (ground_of before areas) → need_of old ≡ need.Memory → (m : MakesInMemory old new before after)
    → ((block : Block) → m.m.entry.event ≡ Got block → is_owner before.entries old.number block ≡ false) → IsOut new after new.out new.done → PortTells new → Stands new (ground_of after areas)
unfolding memory-makes-in
memory-stands old new before after areas s needs m nobodys out port =
    made-stands old new (ground_of before areas) (ground_of after areas) s (memory-makes-in old new before after areas s needs m) nobodys
    (elsewhere-live old new (moved_of before) m.m s.unconverting m.makes (inl m.place) s.mapped) out port

-- it has no open claim, as before
rests-out : (old new : Seen) (base : Ground) → Stands old base → old.out ≡ None → IsUnasked old new → new.out ≡ None → new.done ≡ None → IsOut new base.memory new.out new.done
rests-out old new base s rests same out done =
    let entries = base.memory.entries in
    let claimless : claim_of new.boot entries new.number ≡ None =
    ap (λ b. claim_of b entries new.number) same.boot ∙ ap (claim_of old.boot entries) same.number ∙ no-claim-out old base s rests
    in
    subst (λ o. IsOut new base.memory o new.done) (sym out) (subst (λ d. IsOut new base.memory None d) (sym done) claimless)

-- with an open claim the next step isn't the processor's own
own-rests : (c : Seen) → need_of c ≡ need.Own → c.out ≡ None
own-rests c is = by_out c.out is where
  by_out : (out : Option Taken) → need_by out (need_for c.boot c.number (own_now c) (present_command c)) ≡ need.Own → out ≡ None
  by_out None is = refl
  by_out (Some span) is = absurd (let no : need.Memory ≡ need.Own = is in cc)

pub area-stands : (old new : Seen) (base : Ground) (before after : AreaValue) → Stands old base → HasArea base before → MappingsStand before.number before.slots before.moved → need_of old ≡ need.Area before.number
    → MakesInArea old new before after → PortTells new → Stands new (with_area base after)
unfolding area-makes-in
area-stands old new base before after s has mappings needs m port =
    let t = step-taken old old.moved before.moved m.m m.makes.next.mine m.makes.next.follows in
    made-stands old new base (with_area base after) s (area-makes-in old new base before after s has needs m)
    (λ block got. absurd (let no : Area before.number ≡ Memory = sym m.place ∙ t.place ∙ ap (place_of old.boot) got in cc))
    (area-live old new base before after s has mappings needs m)
    (rests-out old new base s (needs-area old before.number needs).rests m.makes.same m.rests m.makes.done)
    port

pub own-stands : (old new : Seen) (base : Ground) → Stands old base → need_of old ≡ need.Own → MakesOwn old new → PortTells new → Stands new base
unfolding own-makes-in
own-stands old new base s needs m port =
    let t = step-taken old old.moved [] m.m m.makes.next.mine m.makes.next.follows in
    made-stands old new base base s (own-makes-in old new base s needs m)
    (λ block got. absurd (let no : Own ≡ Memory = sym m.place ∙ t.place ∙ ap (place_of old.boot) got in cc))
    (elsewhere-live old new [] m.m s.unconverting m.makes (inr m.place) s.mapped)
    (rests-out old new base s (own-rests old needs) m.makes.same m.rests m.makes.done)
    port
