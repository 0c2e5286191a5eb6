use Rattle.std.proofs.Common.{◌≡◌, ℕ, ◌+◌, ◌≤◌, ◌<◌, true, false, Option, None, Some, List, [], ◌∷◌, ◌++◌, refl, sym, ◌∙◌, ap, subst, inl, arith, cond, length}
use Rattle.std.specs.Prelude.{is_some}
use Rattle.std.proofs.lemmas.List.{map-append}
use Rattle.std.proofs.lemmas.Option.{slice_get_within}
use Rattle.guest_base.specs.Counts.{Rose}
use Rattle.guest_base.specs.declared.memory.Block.{Block}
use Rattle.guest_base.specs.declared.memory.Units.{Units}
use Rattle.event_core.specs.declared.command.Command.{Command}
use Rattle.event_core.specs.declared.entry.Entry.{Entry}
use Rattle.event_core.specs.declared.entry.Place.TheVariants as place
use Rattle.event_core.specs.declared.event.Event.TheVariants.{Got}
use Rattle.event_core.specs.declared.module_call.ModuleCall.{ModuleCall}
use Rattle.event_core.specs.declared.reply.Reply.{Reply}
use Rattle.event_core.specs.Calls.{calls_in}
use Rattle.event_core.specs.Claims.{claim_of}
use Rattle.event_core.specs.Legal.{place_of}
use Rattle.event_core.specs.Next.{Step}
use Rattle.event_core.specs.Refusals.{refusal_of}
use Rattle.event_core.specs.Moved.{Moved, entries_of}
use Rattle.event_core.specs.Own.{replied}
use Rattle.block_laws.specs.Unconverting.{ConvertsNothing}
use Rattle.io_areas.specs.Value.{AreaValue}
use Rattle.memory_core.specs.Owners.{is_owner}
use Rattle.memory_core.specs.UnderLock.{moved_of}
use Rattle.memory_core.specs.Value.{MemoryValue}
use Rattle.pool_laws.specs.Live.{MappingsStand}
use Rattle.page_module.specs.Spans.{Taken}
use Rattle.guest_steps.specs.Ground.{Ground, HasArea, ground_of, with_area}
use Rattle.guest_steps.specs.Replies.{FaultsTold, calls_reported, is_module}
use Rattle.guest_steps.specs.Seen.{Seen, Accepted, left_by, need_for, need_of, need_unrefused}
use Rattle.guest_steps.specs.Standing.{IsOut, PortTells, unreported}
use Rattle.guest_steps.specs.Steps.{MakesInArea, MakesInMemory, MakesOwn}
use Rattle.guest_steps.specs.declared.processor.Need.TheVariants as need
use Rattle.guest_steps.proofs.BeginningLemmas.{all-got}
use Rattle.guest_steps.proofs.MappedLemmas.{elsewhere-live}
use Rattle.guest_steps.proofs.OverLemmas.{memory-makes-in}
use Rattle.guest_steps.proofs.OwnStepLemmas.{NeedsArea, needs-area, unrefused-area}
use Rattle.guest_steps.proofs.StandLemmas.{made-stands}
use Rattle.guest_steps.proofs.StepStandLemmas.{area-stands, own-stands}
use Rattle.guest_cpu.specs.Accessing.{StepsArea, area_turn, entry_in}
use Rattle.guest_cpu.specs.Alone.{EndsAlone}
use Rattle.guest_cpu.specs.Progressing.{Progressed, command_of, own_in}
use Rattle.guest_cpu.specs.Standing.{CourseStands, RunsStand, calls_owed, seen_with}
use Rattle.guest_cpu.specs.Stepping.{going_on, own_entry}
use Rattle.guest_cpu.proofs.AloneLemmas.{alone-sound}
use Rattle.guest_cpu.proofs.AreaLemmas.{area-fits, area-quiet, area-sound, needs-pool}
use Rattle.guest_cpu.proofs.NextLemmas.{alone-next, area-next}
use Rattle.guest_cpu.proofs.ToldLemmas.{less-replied, made-reported, replied-push, told-push}

-- What a step makes of a processor that stands.

-- ---- at rest

-- where no claim is open nothing is done
pub rests-undone : (c : Seen) (memory : MemoryValue) (out : Option Taken) (done : Option Accepted) → IsOut c memory out done → out ≡ None → done ≡ None
rests-undone c memory None None is rests = refl
rests-undone c memory None (Some told) is rests = absurd is
rests-undone c memory (Some span) told is rests = absurd (let no : Some span ≡ None = rests in cc)

pub rests-free : (c : Seen) (memory : MemoryValue) (out : Option Taken) (done : Option Accepted) → IsOut c memory out done → out ≡ None → claim_of c.boot memory.entries c.number ≡ None
rests-free c memory None None is rests = is
rests-free c memory None (Some told) is rests = absurd is
rests-free c memory (Some span) told is rests = absurd (let no : Some span ≡ None = rests in cc)

module _ (made_before made : List ModuleCall) (faults_before faults : ℕ) where
  -- what contracts see of it
  abbrev see : Progressed → Seen
  see p = seen_with p made_before made faults_before faults

  -- ---- one more entry

  -- what the port was asked is reported by the entry
  port-push : (p : Progressed) (m : Moved) (out : Option Taken) (runs : List Units) (room : ℕ) → PortTells (see p) → calls_in m.entry.event ≡ unreported p.done → (is_module m.entry.reply ≡ true → Rose faults_before faults) → PortTells (see (going_on p m out runs room))
  port-push p m out runs room tells is rose =
      let more : entries_of (p.moved ++ m ∷ []) ≡ entries_of p.moved ++ m.entry ∷ [] = map-append (λ (x : Moved). x.entry) p.moved (m ∷ []) in
      let M : List Entry → Type 0 = λ es. made ≡ made_before ++ calls_reported es ++ [] in
      let F : List Entry → Type 0 = λ es. FaultsTold faults_before es faults in
      record {
        made = subst M (sym more) (made-reported made made_before (entries_of p.moved) m.entry (unreported p.done) is tells.made);
        faults = tells.faults;
        failed = subst F (sym more) (told-push (entries_of p.moved) m.entry faults_before faults tells.failed rose);
        stopped = tt;
      }

  -- a processor that made an entry in the memory stands behind it; a block that it got had no owner
  pub made-course : (p : Progressed) (m : Moved) (out : Option Taken) (runs : List Units) (room kept : ℕ) (areas : List AreaValue) (before after : MemoryValue) → CourseStands p made_before made faults_before faults kept (ground_of before areas)
      → need_of (see p) ≡ need.Memory → (makes : MakesInMemory (see p) (see (going_on p m out runs room)) before after) → ((got : Block) → makes.m.entry.event ≡ Got got → is_owner before.entries p.number got ≡ false)
      → IsOut (see (going_on p m out runs room)) after out None → RunsStand (going_on p m out runs room) after → calls_owed p.boot None runs ≤ kept
      → calls_in m.entry.event ≡ unreported p.done → (is_module m.entry.reply ≡ true → Rose faults_before faults)
      → CourseStands (going_on p m out runs room) made_before made faults_before faults kept (ground_of after areas)
  unfolding memory-makes-in
  made-course p m out runs room kept areas before after s needs makes nobodys is_out runs_stand owed is rose =
      let new = going_on p m out runs room in
      record {
        stands = made-stands (see p) (see new) (ground_of before areas) (ground_of after areas) s.stands (memory-makes-in (see p) (see new) before after areas s.stands needs makes) nobodys
            (elsewhere-live (see p) (see new) (moved_of before) makes.m s.stands.unconverting makes.makes (inl makes.place) s.stands.mapped)
            is_out (port-push p m out runs room s.stands.port is rose);
        runs = runs_stand;
        port = owed;
      }

  -- with no claim open there are no runs
  pub no-runs : (p : Progressed) (memory : MemoryValue) → claim_of p.boot memory.entries p.number ≡ None → RunsStand p memory
  no-runs p memory free claim has = absurd (let no : None ≡ Some claim = sym free ∙ has in cc)

  -- ---- a command that ends

  -- the number of the present command, behind an entry with its reply
  pub count-replied : (p : Progressed) (m : Moved) (r : Reply) → m.entry.reply ≡ Some r → replied (p.moved ++ m ∷ []) ≡ replied p.moved + 1
  count-replied p m r is = replied-push p.moved m ∙ ap (λ (o : Option Reply). replied p.moved + cond (is_some o) 1 0) is

  pub replied-less : (p : Progressed) (m : Moved) (r : Reply) (c : Command) → command_of p ≡ Some c → m.entry.reply ≡ Some r → left_by (length p.script) (replied (p.moved ++ m ∷ [])) None < left_by (length p.script) (replied p.moved) None
  replied-less p m r c now is =
      let more = slice_get_within p.script (replied p.moved) c now in
      let less = less-replied (length p.script) (replied p.moved) more in
      let same = ap (λ n. left_by (length p.script) n None) (count-replied p m r is) in
      omega (arith, less, same)

  pub same-course : (p : Progressed) (m : Moved) (room : ℕ) → p.out ≡ None → p.done ≡ None → (let q : Progressed = record p { moved = p.moved ++ m ∷ []; room = room } in q ≡ going_on p m None p.runs room)
  same-course p m room rests undone =
      ap (λ (o : Option Taken). with_out o p.done) rests ∙ ap (λ (d : Option Accepted). with_out None d) undone
    where
      with_out : Option Taken → Option Accepted → Progressed
      with_out o d = record p { moved = p.moved ++ m ∷ []; out = o; done = d; room = room }

  -- ---- by the processor alone

  module _ (p q : Progressed) (ends : EndsAlone p q) (rests : p.out ≡ None) (undone : p.done ≡ None) (asks : need_for p.boot p.number (own_in p) (Some ends.present) ≡ need.Own) where
    abbrev m : Moved
    m = own_entry p ends.told

    abbrev then : Progressed
    then = going_on p m None p.runs q.room

    then-is : then ≡ q
    then-is = sym (ends.after ∙ same-course p m q.room rests undone)

    alone-makes : MakesOwn (see p) (see then)
    alone-makes =
        let L : Option Taken → Type 0 = λ o. left_by (length p.script) (replied (p.moved ++ m ∷ [])) None < left_by (length p.script) (replied p.moved) o in
        record {
          m = m;
          makes = record {
            next = alone-next (see p) ends.present ends.told ends.is asks ends.replies;
            moved = refl;
            same = record { boot = refl; number = refl; script = refl; made_before = refl; made = refl; faults_before = refl; faults = refl };
            done = refl;
          };
          place = refl;
          rests = refl;
          less = subst L (sym rests) (replied-less p m ends.told ends.present ends.is refl);
        }

    pub alone-own : MakesOwn (see p) (see q)
    alone-own =
        let M : Progressed → Type 0 = λ x. MakesOwn (see p) (see x) in
        subst M then-is alone-makes

    pub alone-course : (kept : ℕ) (base : Ground) → CourseStands p made_before made faults_before faults kept base → need_of (see p) ≡ need.Own → CourseStands q made_before made faults_before faults kept base
    alone-course kept base s needs =
        let free = rests-free (see p) base.memory p.out p.done s.stands.out rests in
        let sound = alone-sound p.boot (own_in p) ends.present ends.told (all-got ConvertsNothing p.script (replied p.moved) ends.present s.stands.unconverting ends.is) ends.replies in
        let S : Progressed → Type 0 = λ x. CourseStands x made_before made faults_before faults kept base in
        let O : Option Accepted → Type 0 = λ d. calls_owed p.boot d p.runs ≤ kept in
        subst S then-is (record {
          stands = own-stands (see p) (see then) base s.stands needs alone-makes
              (port-push p m None p.runs q.room s.stands.port (sym (ap unreported undone)) (λ is. absurd (let no : true ≡ false = sym is ∙ sound in cc)));
          runs = no-runs then base.memory free;
          port = subst O undone s.port;
        })

  -- ---- in an area

  module _ (p q : Progressed) (area after : AreaValue) (steps : StepsArea p q area after) (needs : need_of (see p) ≡ need.Area area.number) (undone : p.done ≡ None) where
    abbrev in_area : Moved
    in_area = entry_in area.number (area_turn p area) steps.event steps.reply steps.bytes

    abbrev behind : Progressed
    behind = going_on p in_area None p.runs q.room

    it : NeedsArea (see p) area.number
    it = needs-area (see p) area.number needs

    behind-is : behind ≡ q
    behind-is = sym (steps.course ∙ same-course p in_area q.room it.rests undone)

    -- the command that was stepped on is the present one
    same-command : steps.present ≡ it.command
    same-command = let both : Some steps.present ≡ Some it.command = sym steps.is ∙ it.present in cc

    is-fine : refusal_of p.boot (own_in p) steps.present ≡ None
    is-fine = ap (refusal_of p.boot (own_in p)) same-command ∙ it.fine

    is-needed : need_unrefused p.boot p.number (own_in p) steps.present ≡ need.Area area.number
    is-needed = ap (need_unrefused p.boot p.number (own_in p)) same-command ∙ it.needs

    abbrev step : Step
    step = record { event = steps.event; reply = steps.reply }

    takes-place : place_of p.boot steps.event ≡ place.Area area.number
    takes-place =
        let one = unrefused-area p.boot p.number (own_in p) area.moved steps.present [] area.number is-fine is-needed in
        let both : Some step ≡ Some one.s = sym steps.step ∙ one.is in
        let same : step ≡ one.s = cc in
        ap (λ (x : Step). place_of p.boot x.event) same ∙ one.there

    area-makes : MakesInArea (see p) (see behind) area after
    area-makes = record {
      m = in_area;
      makes = record {
        next = area-next (see p) area steps.present steps.event steps.reply steps.bytes steps.is is-fine steps.step (area-quiet p.boot steps.event area.number takes-place)
            (area-fits p.boot (entries_of area.moved) steps.event area.number takes-place) (sym takes-place) steps.moves;
        moved = refl;
        same = record { boot = refl; number = refl; script = refl; made_before = refl; made = refl; faults_before = refl; faults = refl };
        done = refl;
      };
      place = refl;
      rests = refl;
      number = steps.number;
      slots = steps.slots;
      moved = steps.moved;
    }

    pub area-made : MakesInArea (see p) (see q) area after
    area-made = let M : Progressed → Type 0 = λ x. MakesInArea (see p) (see x) area after in subst M behind-is area-makes

    pub area-course : (kept : ℕ) (base : Ground) → CourseStands p made_before made faults_before faults kept base → HasArea base area → MappingsStand area.number area.slots area.moved → CourseStands q made_before made faults_before faults kept (with_area base after)
    area-course kept base s has mappings =
        let free = rests-free (see p) base.memory p.out p.done s.stands.out it.rests in
        let sound = area-sound p.boot p.number (own_in p) area.moved steps.present step (needs-pool p.boot p.number (own_in p) steps.present area.number is-needed) steps.step in
        let S : Progressed → Type 0 = λ x. CourseStands x made_before made faults_before faults kept (with_area base after) in
        let O : Option Accepted → Type 0 = λ d. calls_owed p.boot d p.runs ≤ kept in
        subst S behind-is (record {
          stands = area-stands (see p) (see behind) base area after s.stands has mappings needs area-makes
              (port-push p in_area None p.runs q.room s.stands.port (area-quiet p.boot steps.event area.number takes-place ∙ sym (ap unreported undone)) (λ is. absurd (let no : true ≡ false = sym is ∙ sound in cc)));
          runs = no-runs behind base.memory free;
          port = subst O undone s.port;
        })
