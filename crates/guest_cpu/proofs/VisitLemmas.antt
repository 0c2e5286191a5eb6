use Rattle.std.proofs.Common.{◌≡◌, ℕ, ◌+◌, ◌%◌, ◌<◌, max, Option, None, Some, List, [], ◌∷◌, ◌++◌, refl, sym, ◌∙◌, ap, subst, inl, inr, arith}
use Rattle.std.specs.Prelude.{slice_get, slice_index_or}
use Rattle.std.proofs.lemmas.Bool.{cases_lt}
use Rattle.guest_base.specs.declared.memory.HostRun.{HostRun}
use Rattle.event_core.specs.declared.boot.Boot.{Boot}
use Rattle.event_core.specs.declared.command.Command.{Command}
use Rattle.event_core.specs.declared.entry.Place.TheVariants as place
use Rattle.event_core.specs.declared.entry.Turn.{Turn}
use Rattle.event_core.specs.declared.event.Event.{Event}
use Rattle.event_core.specs.declared.event.Event.TheVariants as event
use Rattle.event_core.specs.declared.reply.Reply.{Reply}
use Rattle.event_core.specs.Holdings.{Own}
use Rattle.event_core.specs.Legal.{greatest_stamp}
use Rattle.event_core.specs.Moved.{Moved}
use Rattle.event_core.specs.Next.{refused_or, step_of, unrefused_step}
use Rattle.event_core.specs.Own.{after_map, ended, replied, told}
use Rattle.event_core.specs.ReadableScript.{IsReadable, ReadableScript}
use Rattle.event_core.specs.Refusals.{refusal_of}
use Rattle.event_core.proofs.CommandLemmas.{step_told}
use Rattle.dma_map.specs.Pools.{HasPool}
use Rattle.dma_map.specs.declared.pool.Layout.{Layout}
use Rattle.pool_laws.proofs.LookFacts.{look-goes-on, look-of, place_at, told-looks}
use Rattle.pool_laws.proofs.StepFacts.{IsKnown, step-known}
use Rattle.held_blocks.specs.Holdings.{HoldingsValue, own_in as own_held}
use Rattle.io_areas.specs.Value.{AreaValue, entry_by}
use Rattle.guest_steps.specs.declared.processor.Need.TheVariants as need
use Rattle.guest_steps.proofs.BeginningLemmas.{all-got}
use Rattle.guest_cpu.specs.Accessing.{Accesses, MayAccess, MayVisit, StepsArea, area_turn, entry_in, moved_for}
use Rattle.guest_cpu.specs.Kept.{HasFewLooks, Keeps, out_of}
use Rattle.guest_cpu.specs.Made.{Made, entry_at, turn_of}
use Rattle.guest_cpu.specs.Progressing.{Progressed, command_of, need_in, own_in}
use Rattle.guest_cpu.specs.declared.progress.OpenRun.{OpenRun}
use Rattle.guest_cpu.specs.declared.progress.RunRoom.{RunRoom}
use Rattle.guest_cpu.proofs.KeptLemmas.{keeps-told}
use Rattle.guest_cpu.proofs.NeedLemmas.{needs-area, read-present}

-- What a step in an area makes of a processor's course.

-- ---- before it

-- the needed area is one
pub same-number : (p : Progressed) (number area : ℕ) → need_in p ≡ need.Area number → need_in p ≡ need.Area area → number ≡ area
same-number p number area is needs = let both : need.Area number ≡ need.Area area = sym is ∙ needs in cc

-- what a processor that needs the area knows before its step, with room taken and its command read
pub record Reaches (old : Progressed) (held : HoldingsValue) (area : AreaValue) (turn : Turn) (c : Command) : Type 0 where
  pub rests : old.out ≡ None
  pub now : command_of old ≡ Some c
  pub may : MayAccess old.boot (own_held held) area turn c

pub reaches : (seen old : Progressed) (held : HoldingsValue) (area : AreaValue) (moved : List Moved) (turn : Turn) (c : Command) (number : ℕ) → old ≡ seen → need_in seen ≡ need.Area area.number → MayVisit seen area → own_in old ≡ own_held held → ReadableScript old.script
    → moved ≡ old.moved → turn ≡ turn_of old.number moved → number ≡ replied moved → c ≡ slice_index_or old.script number c → Reaches old held area turn c
reaches seen old held area moved turn c number is_seen needs may holds readable same is_turn is_number got =
    let V : Progressed → Type 0 = λ x. MayVisit x area in
    let v : MayVisit old area = subst V (sym is_seen) may in
    let n = needs-area old area.number (ap need_in is_seen ∙ needs) in
    let now = read-present old n.present c number n.is (is_number ∙ ap (λ (ms : List Moved). replied ms) same) got in
    let both : Some n.present ≡ Some c = sym n.is ∙ now in
    let its : n.present ≡ c = cc in
    let O : Own → Type 0 = λ own. MayAccess old.boot own area turn c in
    let T : Turn → Type 0 = λ t. MayAccess old.boot (own_in old) area t c in
    let C : Command → Type 0 = λ x. MayAccess old.boot (own_in old) area (turn_of old.number old.moved) x in
    let here : MayAccess old.boot (own_in old) area (turn_of old.number old.moved) n.present = record {
      size = v.size;
      readable = all-got IsReadable old.script (replied old.moved) n.present readable.each n.is;
      fine = n.fine;
      need = n.need;
      mine = v.mine;
      clock = v.clock;
      last = v.last;
    } in
    record { rests = n.rests; now = now; may = subst O holds (subst T (sym (is_turn ∙ ap (turn_of old.number) same)) (subst C its here)) }

-- ---- the looks behind it

less-last : (a b : ℕ) → a < b → (a + 1 ≡ b → ⊥) → a + 1 < b
less-last a b less differ =
    elim (cases_lt (a + 1) b) [
      | inl more ↦ more
      | inr past ↦ absurd (differ (omega (arith, less, past)))
    ]

-- a step that doesn't end its command looked in vain, and not in the last area
looks-known : (boot : Boot) (cpu : ℕ) (own : Own) (there : List Moved) (c : Command) (m : Moved) → own.looks < boot.areas → m.entry.reply ≡ None → IsKnown boot cpu own there c (step_told m.entry) → (told (Some c) m own).looks < boot.areas
looks-known boot cpu own there c m few none known =
    elim known [
      | inl plain ↦ (let same = told-looks (Some c) m own plain.event in omega (arith, few, same))
      | inr look ↦
          (let its = look-of boot cpu own there c m.entry look in
          let goes = look-goes-on boot own.looks its.found (sym its.reply ∙ none) in
          let at = place_at boot.areas (cpu % boot.areas) own.looks in
          let looked : m.entry.event ≡ event.Looked at None = its.event ∙ ap (event.Looked at) goes.0 in
          let same : (told (Some c) m own).looks ≡ own.looks + 1 =
          ap (λ (x : Command). (told (Some x) m own).looks) look.is ∙ ap (λ (e : Event). (after_map look.mapping look.name look.off look.direction e own).looks) looked in
          let less = less-last own.looks boot.areas few goes.1 in
          omega (arith, same, less))
    ]

-- the looks of the present command stay fewer than the areas
pub looks-behind : (boot : Boot) (cpu : ℕ) (own : Own) (there : List Moved) (c : Command) (m : Moved) (r : Option Reply) → own.looks < boot.areas → m.entry.reply ≡ r → refusal_of boot own c ≡ None → unrefused_step boot cpu own there c [] ≡ Some (step_told m.entry)
    → (ended r (told (Some c) m own)).looks < boot.areas
looks-behind boot cpu own there c m (Some r) few is fine step = omega (arith, few)
looks-behind boot cpu own there c m None few is fine step =
    let whole : step_of boot cpu own there c [] ≡ Some (step_told m.entry) = ap (λ (r : Option Reply). refused_or r (unrefused_step boot cpu own there c [])) fine ∙ step in
    looks-known boot cpu own there c m few is (step-known boot cpu own there c [] (step_told m.entry) whole)

-- an entry in an area, of a processor with this turn
turned-is : (old : Progressed) (area : AreaValue) (moved : List Moved) (turn turned : Turn) → moved ≡ old.moved → turn ≡ turn_of old.number moved
    → (let then : Turn = record turn { clock = max turn.clock (greatest_stamp area.moved) + 1 } in turned ≡ then) → turned ≡ area_turn old area
turned-is old area moved turn turned same is then =
    then ∙ ap (λ (t : Turn). behind t) (is ∙ ap (turn_of old.number) same)
  where
    behind : Turn → Turn
    behind t = record t { clock = max t.clock (greatest_stamp area.moved) + 1 }

module _ (boot : Boot) (held accessed : HoldingsValue) (area after : AreaValue) (turn turned : Turn) (c : Command) (event : Event) (reply : Option Reply) (bytes : List ℕ)
    (a : Accesses boot (own_held held) (own_held accessed) area after turn turned c event reply bytes) where
  abbrev made_there : ℕ → Moved
  made_there number = record { entry = entry_at turned (place.Area number) event reply; bytes = bytes }

  -- what is held behind the step, and behind its reply
  there-held : (now : HoldingsValue) (number : ℕ) → number ≡ area.number → own_held now ≡ ended reply (own_held accessed) → ended reply (told (Some c) (made_there number) (own_held held)) ≡ own_held now
  there-held now number is after_is =
      ap (λ (n : ℕ). ended reply (told (Some c) (made_there n) (own_held held))) is ∙ ap (ended reply) (sym a.holds) ∙ sym after_is

  -- the looks stay few
  there-few : (now : HoldingsValue) → HasPool boot held.layout → HasFewLooks held → refusal_of boot (own_held held) c ≡ None → accessed.layout ≡ held.layout → now.layout ≡ accessed.layout → own_held now ≡ ended reply (own_held accessed) → HasFewLooks now
  there-few now pool few fine kept ended_layout after_is = λ l has.
      (let laid : held.layout ≡ Some l = sym kept ∙ sym ended_layout ∙ has in
      let H : Option Layout → Type 0 = λ o. HasPool boot o in
      let there : HasPool boot (Some l) = subst H laid pool in
      let areas = there.areas in
      let low = few l laid in
      let less = looks-behind boot turn.cpu.0 (own_held held) area.moved c (made_there area.number) reply (omega (arith, low, areas)) refl fine a.step in
      let same = ap (λ (o : Own). o.looks) (there-held now area.number refl after_is) in
      omega (arith, less, same, areas))

  -- the processor keeps what its entries tell
  pub keeps-there : (hosts : List HostRun) (script : List Command) (made middle new : Made) (now : HoldingsValue) (open_run : Option OpenRun) (later : List RunRoom) (cpu number : ℕ) → Keeps boot hosts script made held open_run later → out_of open_run ≡ None
      → refusal_of boot (own_held held) c ≡ None → slice_get script (replied made.moved) ≡ Some c → middle.moved ≡ made.moved → turn ≡ turn_of cpu middle.moved → number ≡ area.number
      → accessed.layout ≡ held.layout → now.layout ≡ accessed.layout → own_held now ≡ ended reply (own_held accessed) → new.moved ≡ middle.moved ++ made_there number ∷ [] → Keeps boot hosts script new now open_run later
  keeps-there hosts script made middle new now open_run later cpu number k rests fine its same is_turn is kept ended_layout after_is made_is =
      let cmd : turned.cmd ≡ replied made.moved = ap (λ (t : Turn). t.cmd) a.appends.clock ∙ ap (λ (t : Turn). t.cmd) is_turn ∙ ap (λ (ms : List Moved). replied ms) same in
      keeps-told boot hosts script made new held now open_run later (made_there number) c k rests (ended_layout ∙ kept) (there-few now k.pool k.looks fine kept ended_layout after_is)
      (made_is ∙ ap (λ (ms : List Moved). ms ++ made_there number ∷ []) same) (ap (slice_get script) cmd ∙ its) (there-held now number is after_is)

  -- what the step is in the processor's course
  pub steps-there : (old : Progressed) (middle made : List Moved) (number room : ℕ) → old.boot ≡ boot → own_in old ≡ own_held held → command_of old ≡ Some c → middle ≡ old.moved → turn ≡ turn_of old.number middle → number ≡ area.number → made ≡ middle ++ made_there number ∷ []
      → StepsArea old (record old { moved = made; room = room }) area after
  steps-there old middle made number room booted holds now same is_turn is made_is =
      let turn_is : turn ≡ turn_of old.number old.moved = is_turn ∙ ap (turn_of old.number) same in
      let then : turned ≡ area_turn old area = turned-is old area middle turn turned same is_turn a.appends.clock in
      let m = entry_in area.number (area_turn old area) event reply bytes in
      let entry : made_there number ≡ m = ap made_there is ∙ ap (λ (t : Turn). entry_in area.number t event reply bytes) then in
      let list : made ≡ old.moved ++ m ∷ [] = made_is ∙ ap (λ (ms : List Moved). ms ++ made_there number ∷ []) same ∙ ap (λ (x : Moved). old.moved ++ x ∷ []) entry in
      let U : Boot → Own → ℕ → Type 0 = λ b own cpu. unrefused_step b cpu own area.moved c [] ≡ Some (record { event = event; reply = reply }) in
      let B : Boot → Type 0 = λ b. U b (own_held held) turn.cpu.0 in
      let O : Own → Type 0 = λ own. U old.boot own turn.cpu.0 in
      let T : Turn → Type 0 = λ t. U old.boot (own_in old) t.cpu.0 in
      let E : Turn → Type 0 = λ t. after.moved ≡ area.moved ++ entry_by area t event bytes ∷ [] in
      record {
        present = c;
        is = now;
        event = event;
        reply = reply;
        bytes = bytes;
        step = subst T turn_is (subst O (sym holds) (subst B (sym booted) a.step));
        moves = a.moves ∙ ap (λ (b : Boot). moved_for b (own_held held) area.moved c event) (sym booted) ∙ ap (λ (own : Own). moved_for old.boot own area.moved c event) (sym holds);
        course = ap (λ (ms : List Moved). with_moved old ms room) list;
        number = a.appends.number;
        slots = a.appends.slots;
        moved = subst E turn_is a.appends.moved;
      }
    where
      with_moved : Progressed → List Moved → ℕ → Progressed
      with_moved p ms room = record p { moved = ms; room = room }
