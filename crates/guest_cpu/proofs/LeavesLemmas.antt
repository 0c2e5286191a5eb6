use Rattle.std.proofs.Common.{◌≡◌, ℕ, ◌≤◌, true, false, List, Option, Some, Result, Ok, Err, refl, sym, ◌∙◌, subst, ap, arith, map}
use Rattle.std.specs.Prelude.{All, IfOk, OnErr, sum_by}
use Rattle.std.specs.Option.{ForSome}
use Rattle.std.specs.Result.{IsErr}
use Rattle.std.specs.declared.alloc.AllocError.{AllocError}
use Rattle.guest_base.specs.declared.memory.Block.{Block}
use Rattle.guest_base.specs.declared.memory.Units.{Units}
use Rattle.event_core.specs.declared.boot.Boot.{Boot}
use Rattle.event_core.specs.declared.command.Command.{Command}
use Rattle.event_core.specs.declared.command.Command.TheVariants as command
use Rattle.event_core.specs.declared.entry.Entry.{Entry}
use Rattle.event_core.specs.declared.event.Event.TheVariants as event
use Rattle.event_core.specs.declared.module_call.ModuleCall.{ModuleCall}
use Rattle.event_core.specs.declared.reply.Reply.TheVariants as reply
use Rattle.event_core.specs.Holdings.{Holding, block_named}
use Rattle.event_core.specs.MemoryRows.{some_unaccepted}
use Rattle.event_core.specs.Units.{guarded_units}
use Rattle.memory_core.specs.Owners.{is_owner}
use Rattle.io_areas.specs.Value.{AreaValue}
use Rattle.memory_core.specs.Value.{MemoryValue}
use Rattle.guest_steps.specs.Ground.{ground_of}
use Rattle.memory_core.specs.Waiting.{waiting_units}
use Rattle.guest_steps.specs.Steps.{RoomAlone}
use Rattle.guest_steps.specs.declared.processor.Stepped.{Stepped}
use Rattle.guest_steps.specs.declared.processor.Stepped.TheVariants as stepped
use Rattle.guest_cpu.specs.declared.cpu.Cpu.{Cpu}
use Rattle.guest_cpu.specs.Blocks.{FreesNamed, StraysFrom}
use Rattle.guest_cpu.specs.Kept.{most_of}
use Rattle.guest_cpu.specs.Leaving.{Leaves, StandsOver}
use Rattle.guest_cpu.specs.Looking.{LooksFor}
use Rattle.guest_cpu.specs.Progressing.{Progressed, own_in}
use Rattle.guest_cpu.specs.Resting.{StepsOn}
use Rattle.guest_cpu.specs.Standing.{CpuStands, seen_by, seen_with}
use Rattle.guest_cpu.specs.Stepping.{Adds, AreRunsAmong, Begins, MayStep, OnlyRoom}
use Rattle.guest_cpu.proofs.AcceptLemmas.{accept-all}
use Rattle.guest_cpu.proofs.AllocLemmas.{alloc-all}
use Rattle.guest_cpu.proofs.ClaimLemmas.{StepEnds, stands-then}
use Rattle.guest_cpu.proofs.MayLemmas.{may-all}
use Rattle.guest_cpu.proofs.MemoryLemmas.{Stepped_to, free-all, owns-taken, query-all, stray-all}
use Rattle.guest_cpu.proofs.RoomAloneLemmas.{room-course, seen-room}

-- How a step of the memory leaves a processor, behind room that was taken for it.

module _ {P : Type 0} (made : P → List ModuleCall) (faults room : P → ℕ) (old : Cpu P) (taken : Progressed) (before between : MemoryValue)
    (s : StandsOver made faults room old before) (only : OnlyRoom old.progress taken) (alone : RoomAlone before between) where
  abbrev asked : List ModuleCall
  asked = made old.port

  abbrev asked_before : List ModuleCall
  asked_before = made old.port_before.value

  abbrev failed : ℕ
  failed = faults old.port

  abbrev failed_before : ℕ
  failed_before = faults old.port_before.value

  -- it may step the memory
  pub may-taken : (c : Command) → StepsOn (seen_by made faults old) before c → MayStep taken between
  may-taken c on = may-all asked_before asked failed_before failed (room old.port) old.progress taken s.0 before between c s.1 only alone on

  -- the block of a name is its own
  pub owns-block : (name : List ℕ) → ForSome (block_named (own_in taken) name) (λ (h : Holding). is_owner between.entries taken.number h.block ≡ true)
  owns-block name = owns-taken asked_before asked failed_before failed old.progress taken (room old.port) s.0 before between s.1 only alone name

  -- and so are all that it holds
  pub owns-all : All (λ (block : Block). is_owner between.entries taken.number block ≡ true) (map (λ (h : Holding). h.block) (own_in taken).blocks)
  owns-all = (room-course asked_before asked failed_before failed old.progress taken (room old.port) (room old.port) s.0 before between s.1 only alone (omega arith)).stands.held.owned

  -- ---- with a port that was asked for room

  module _ (port : P) (more : room old.port ≤ room port) (same_made : made port ≡ made old.port) (same_faults : faults port ≡ faults old.port) where
    abbrev Left : Progressed → MemoryValue → Result Stepped AllocError → Type 0
    Left p memory ended = Leaves made faults room old (record old { progress = p; port = port }) before memory ended

    -- there was no room
    refused-leaves : (e : AllocError) → Left taken between (Err e)
    refused-leaves e =
        let M : List ModuleCall → Type 0 = λ m. seen_with taken asked_before m failed_before (faults port) ≡ seen_by made faults old in
        let F : ℕ → Type 0 = λ f. seen_with taken asked_before asked failed_before f ≡ seen_by made faults old in
        record {
          stands = λ areas stood.
              stands-then taken asked_before asked (made port) failed_before failed (faults port) (room port) (ground_of between areas) same_made same_faults
              (room-course asked_before asked failed_before failed old.progress taken (room old.port) (room port) areas before between stood only alone more);
          event = λ is. absurd (let no : Err e ≡ Ok stepped.Event = is in cc);
          blocked = λ is. absurd (let no : Err e ≡ Ok stepped.Blocked = is in cc);
          refused = (subst M (sym same_made) (subst F (sym same_faults) (seen-room asked_before asked failed_before failed old.progress taken only)), alone);
        }

    pub failed-leaves : (r : Result Stepped AllocError) → IsErr r → Left taken between r
    failed-leaves (Ok ended) is = absurd (let no : false ≡ true = is in cc)
    failed-leaves (Err e) is = refused-leaves e

    module _ (q : Progressed) (after : MemoryValue) where
      abbrev Ends : Stepped → List AreaValue → Type 0
      Ends ended areas = StepEnds old.progress q asked_before asked (made port) failed_before failed (faults port) (room port) areas before after ended

      ended-leaves : (ended : Stepped) → ((areas : List AreaValue) → CpuStands made faults room old (ground_of before areas) → Ends ended areas) → Left q after (Ok ended)
      ended-leaves ended e =
          let here = e s.0 s.1 in
          record {
            stands = λ areas stood. (e areas stood).stands;
            event = λ is. here.event (let same : ended ≡ stepped.Event = cc in same);
            blocked = λ is. here.blocked (let same : ended ≡ stepped.Blocked = cc in same);
            refused = tt;
          }

      -- an acceptance was begun, with room for its runs
      pub begun-leaves : (start len : ℕ) (runs : List Units) (units : Option Units) (ended : Stepped) → StepsOn (seen_by made faults old) before (command.Accept start len)
          → units ≡ guarded_units before.boot start len → AreRunsAmong between units runs → sum_by (most_of between.boot) runs ≤ room port → Begins taken q between after start len runs ended → Left q after (Ok ended)
      begun-leaves start len runs units ended on is among owed begins =
          let A : Option Units → Type 0 = λ u. AreRunsAmong between u runs in
          let here = is ∙ ap (λ (b : Boot). guarded_units b start len) (sym alone.boot) in
          ended-leaves ended (λ areas stood.
          accept-all asked_before asked (made port) failed_before failed (faults port) (room old.port) (room port) old.progress taken q areas before between after start len runs ended
          stood only alone more same_made same_faults on.rests on.present on.fine begins (subst A here among) owed)

      -- a look was made for a block, with room for the runs of the lowest waiting one
      pub looked-leaves : (name : List ℕ) (order : ℕ) (runs : List Units) (units : Option Units) (result : Result Stepped AllocError) → StepsOn (seen_by made faults old) before (command.Alloc name order)
          → units ≡ waiting_units before.boot before.entries → AreRunsAmong between units runs → sum_by (most_of between.boot) runs ≤ room port
          → IfOk result (λ ended. LooksFor taken q between after order runs ended) → OnErr result ((q ≡ taken) × (after ≡ between)) → Left q after result
      looked-leaves name order runs units (Ok ended) on is among owed looks refused =
          let A : Option Units → Type 0 = λ u. AreRunsAmong between u runs in
          let here = is ∙ ap (λ (b : Boot). waiting_units b before.entries) (sym alone.boot) ∙ ap (λ (es : List Entry). waiting_units between.boot es) (sym alone.entries) in
          ended-leaves ended (λ areas stood.
          alloc-all asked_before asked (made port) failed_before failed (faults port) (room old.port) (room port) old.progress taken q areas before between after name order runs ended
          stood only alone more same_made same_faults on.rests on.present on.fine looks (subst A here among) owed)
      looked-leaves name order runs units (Err e) on is among owed looks refused =
          let Q : Progressed → Type 0 = λ p. Left p after (Err e) in
          let M : MemoryValue → Type 0 = λ m. Left taken m (Err e) in
          subst Q (sym refused.0) (subst M (sym refused.1) (refused-leaves e))

  -- ---- with a port that isn't asked

  -- there was no room
  pub unmade-leaves : (r : Result Stepped AllocError) → IsErr r → Leaves made faults room old (record old { progress = taken }) before between r
  unmade-leaves r is = failed-leaves old.port (omega arith) refl refl r is

  module _ (q : Progressed) (after : MemoryValue) (course : q ≡ record taken { moved = q.moved; room = q.room }) where
    abbrev LeftBehind : Type 0
    LeftBehind = Leaves made faults room old (record old { progress = q }) before after (Ok stepped.Event)

    stepped-leaves : ((areas : List AreaValue) → CpuStands made faults room old (ground_of before areas) → Stepped_to old.progress q asked_before asked failed_before failed (room old.port) areas before after) → LeftBehind
    stepped-leaves all = record {
      stands = λ areas stood. (all areas stood).stands;
      event = λ is. (all s.0 s.1).makes;
      blocked = λ is. absurd (let plain : stepped.Event ≡ stepped.Blocked = cc in let no : ⊥ = cc in no);
      refused = tt;
    }

    pub query-leaves : (start len : ℕ) → StepsOn (seen_by made faults old) before (command.Query start len)
        → (let found = some_unaccepted taken.boot between.entries (guarded_units taken.boot start len) in Adds taken q between after (event.Asked found) (Some (reply.Query found))) → LeftBehind
    query-leaves start len on adds = stepped-leaves (λ areas stood. query-all asked_before asked failed_before failed old.progress taken q (room old.port) areas before between after stood only alone course start len on adds)

    pub free-leaves : (name : List ℕ) → StepsOn (seen_by made faults old) before (command.Free name) → FreesNamed taken q between after name → LeftBehind
    free-leaves name on frees = stepped-leaves (λ areas stood. free-all asked_before asked failed_before failed old.progress taken q (room old.port) areas before between after stood only alone course name on frees)

    pub stray-leaves : (name : List ℕ) (off : ℕ) → StepsOn (seen_by made faults old) before (command.Load name off) → StraysFrom taken q between after name off → LeftBehind
    stray-leaves name off on strays = stepped-leaves (λ areas stood. stray-all asked_before asked failed_before failed old.progress taken q (room old.port) areas before between after stood only alone course name off on strays)
