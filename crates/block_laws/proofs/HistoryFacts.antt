-- What stands in the memory and of the processors' blocks stands in each legal history whose commands convert nothing: so no
-- pending page is touched.
use Rattle.std.proofs.Common.{◌≡◌, ◌≢◌, ℕ, Bool, true, false, Option, None, Some, List, [], ◌∷◌, ◌++◌, refl, sym, ◌∙◌, ap, subst, inl, inr, cond, append-nil}
use Rattle.std.specs.Prelude.{◌⊎◌, ◌==◌, fold, slice_get}
use Rattle.std.specs.List.{AllByRecursion}
use Rattle.std.proofs.lemmas.Bool.{cases_Bool}
use Rattle.guest_base.specs.declared.memory.Block.{Block}
use Rattle.guest_base.specs.declared.memory.PageState.{PageState}
use Rattle.guest_base.specs.declared.memory.PageState.TheVariants.{Pending, Accepted, Shared}
use Rattle.event_core.specs.declared.boot.Boot.{Boot}
use Rattle.event_core.specs.declared.command.Command.{Command}
use Rattle.event_core.specs.declared.entry.Entry.{Entry}
use Rattle.event_core.specs.declared.entry.Place.TheVariants as place
use Rattle.event_core.specs.declared.event.Event.{Event}
use Rattle.event_core.specs.declared.event.Event.TheVariants as event
use Rattle.event_core.specs.declared.module_call.ModuleCall.{ModuleCall}
use Rattle.event_core.specs.declared.reply.Found.{Found}
use Rattle.event_core.specs.Absent.{absent_after, is_absent}
use Rattle.event_core.specs.Calls.{calls_in, calls_of, accepts_page}
use Rattle.event_core.specs.Cut.{cut}
use Rattle.event_core.specs.Legal.{Follows, LegalAfter, Legal, with_bytes, with_moved, moved_after, at_place, place_of, same_place, bare, CallsFit}
use Rattle.event_core.specs.MemoryRows.{page_state, is_pending}
use Rattle.event_core.specs.Moved.{Moved, entries_of, made_by}
use Rattle.event_core.specs.Own.{own_of, script_of}
use Rattle.event_core.specs.OwnRows.{found_by, found_at, page_behind}
use Rattle.event_core.specs.Touches.{strayed_into, touched_by}
use Rattle.event_core.specs.Untouched.{Untouched, StraysSafely, touched_pages, among}
use Rattle.event_core.proofs.LocalLemmas.{moved-entries}
use Rattle.event_core.proofs.SoundLemmas.{placed-push, same_place-Memory, legal-front}
use Rattle.event_core.proofs.StandingLemmas.{IsPlaced, calls_of-memory, calls_of-push}
use Rattle.event_laws.specs.Coming.{BootMade}
use Rattle.block_laws.specs.Unconverting.{ConvertNothing}
use Rattle.block_laws.specs.Guarded.{MemoryStands, IsGuarded}
use Rattle.block_laws.proofs.ListFacts.{all-push}
use Rattle.event_core.proofs.CommandLemmas.{follows-at, command-of, step_told}
use Rattle.block_laws.proofs.GrowFacts.{memory_of, memory-grows, memory-same, own-grows, own-same}
use Rattle.block_laws.proofs.EventFacts.{IsUnconverting, at-unconverting, is-unconverting}
use Rattle.block_laws.proofs.RowFacts.{follows-unconverting}
use Rattle.block_laws.proofs.FitFacts.{Fits, follows-fits}
use Rattle.block_laws.proofs.StandFacts.{memory-first, memory-push, calls-accept}
use Rattle.block_laws.proofs.BootedFacts.{boot-stands}
use Rattle.block_laws.proofs.CutPages.{CutBlock, cut-pages}
use Rattle.block_laws.proofs.HeldFacts.{AreGuarded, picked-guarded, own-step-keeps, guarded-later, guarded-all-later}
use Rattle.block_laws.proofs.MappedFacts.{legal-mapped}
use Rattle.block_laws.proofs.TouchFacts.{touch-accepted}

-- What stands after a history.
pub record HistoryStands (boot : Boot) (scripts : List (List Command)) (history : List Moved) : Type 0 where
  pub placed : AllByRecursion (IsPlaced boot) history
  pub events : AllByRecursion (λ (m : Moved). IsUnconverting m.entry.event) history
  pub memory : MemoryStands boot (memory_of history)
  pub held : (cpu : ℕ) → AreGuarded boot (calls_of boot (memory_of history)) (own_of (script_of scripts cpu) (made_by cpu history))

-- ---- one more entry

-- what a processor has after one more entry, where its blocks are guarded after calls and a block that is got is
held-push : (boot : Boot) (scripts : List (List Command)) (history : List Moved) (m : Moved) (calls : List ModuleCall) → ConvertNothing scripts → ((block : Block) → m.entry.event ≡ event.Got block → IsGuarded boot calls block) → ((cpu : ℕ) → AreGuarded boot calls (own_of (script_of scripts cpu) (made_by cpu history))) → (cpu : ℕ) → AreGuarded boot calls (own_of (script_of scripts cpu) (made_by cpu (history ++ m ∷ [])))
held-push boot scripts history m calls all got are cpu =
    elim (cases_Bool (m.entry.cpu.0 == cpu)) [
      | inl t ↦
          subst (AreGuarded boot calls) (sym (own-grows (script_of scripts cpu) cpu history m t))
          (own-step-keeps boot calls m (own_of (script_of scripts cpu) (made_by cpu history)) (slice_get (script_of scripts cpu) m.entry.cmd) (at-unconverting scripts cpu m.entry.cmd all) got (are cpu))
      | inr f ↦ subst (AreGuarded boot calls) (sym (own-same (script_of scripts cpu) cpu history m f)) (are cpu)
    ]

-- a block that is got is guarded
got-guarded : (boot : Boot) (memory : List Entry) (cpu : ℕ) (e : Event) (block : Block) → AllByRecursion (CutBlock boot) (cut boot) → MemoryStands boot memory → Fits boot memory cpu e → e ≡ event.Got block → IsGuarded boot (calls_of boot memory) block
got-guarded boot memory cpu e block cuts stands fits is =
    let picked = subst (Fits boot memory cpu) is fits in
    picked-guarded boot memory picked.0 block cuts stands picked.1

module _ (boot : Boot) (made : BootMade boot) (scripts : List (List Command)) (all : ConvertNothing scripts) where
  -- an entry of the memory fits the memory's entries
  fits-at : (history : List Moved) (entry : Entry) → Follows boot scripts history entry → same_place place.Memory entry.place ≡ true → Fits boot (memory_of history) entry.cpu.0 entry.event × CallsFit boot (memory_of history) entry.event
  fits-at history entry f is =
      let at : entry.place ≡ place.Memory = same_place-Memory entry.place is in (
        subst (λ p. Fits boot (entries_of (at_place p history)) entry.cpu.0 entry.event) at (follows-fits boot scripts history entry all f (ap (same_place place.Memory) (sym f.over.place) ∙ is)),
        subst (λ p. CallsFit boot (entries_of (at_place p history)) entry.event) at f.over.calls,
      )

  -- an event elsewhere is no Got
  elsewhere : (history : List Moved) (entry : Entry) (block : Block) → Follows boot scripts history entry → same_place place.Memory entry.place ≡ false → entry.event ≡ event.Got block → ⊥
  elsewhere history entry block f out is =
      let at : entry.place ≡ place.Memory = f.over.place ∙ ap (place_of boot) is in
      let no : true ≡ false = sym (ap (same_place place.Memory) at) ∙ out in cc

  history-push : (history : List Moved) (entry : Entry) → HistoryStands boot scripts history → Follows boot scripts history entry → HistoryStands boot scripts (history ++ with_bytes boot scripts history entry ∷ [])
  history-push history entry stands f =
      let m = with_bytes boot scripts history entry in
      let block = follows-unconverting boot scripts history entry all f in
      elim (cases_Bool (same_place place.Memory entry.place)) [
        | inl t ↦
            (let fits = fits-at history entry f t in
            let grown = memory-grows history m t in
            let memory = memory-push boot (memory_of history) (bare m).entry (boot-stands boot made) stands.memory fits.0 fits.1 in
            let accepts = calls-accept boot (memory_of history) entry.cpu.0 entry.event fits.0 fits.1 in
            let calls : calls_of boot (memory_of (history ++ m ∷ [])) ≡ calls_of boot (memory_of history) ++ calls_in entry.event = ap (calls_of boot) grown ∙ calls_of-push boot (memory_of history) (bare m).entry in
            record {
              placed = placed-push boot history m stands.placed f.over.place;
              events = all-push (λ (n : Moved). IsUnconverting n.entry.event) history m stands.events block;
              memory = subst (MemoryStands boot) (sym grown) memory;
              held =
                  λ cpu.
                  subst (λ cs. AreGuarded boot cs (own_of (script_of scripts cpu) (made_by cpu (history ++ m ∷ [])))) (sym calls)
                  (held-push boot scripts history m (calls_of boot (memory_of history) ++ calls_in entry.event) all
                  (λ got is. guarded-later boot (calls_of boot (memory_of history)) (calls_in entry.event) got accepts (got-guarded boot (memory_of history) entry.cpu.0 entry.event got (cut-pages boot made) stands.memory fits.0 is))
                  (λ c. guarded-all-later boot (calls_of boot (memory_of history)) (calls_in entry.event) (own_of (script_of scripts c) (made_by c history)) accepts (stands.held c)) cpu);
            })
        | inr out ↦
            (let same = memory-same history m out in
            record {
              placed = placed-push boot history m stands.placed f.over.place;
              events = all-push (λ (n : Moved). IsUnconverting n.entry.event) history m stands.events block;
              memory = subst (MemoryStands boot) (sym same) stands.memory;
              held =
                  λ cpu.
                  subst (λ es. AreGuarded boot (calls_of boot es) (own_of (script_of scripts cpu) (made_by cpu (history ++ m ∷ [])))) (sym same)
                  (held-push boot scripts history m (calls_of boot (memory_of history)) all (λ got is. absurd (elsewhere history entry got f out is)) stands.held cpu);
            })
      ]

  history-after : (history : List Moved) (entries : List Entry) → HistoryStands boot scripts history → LegalAfter boot scripts history entries → HistoryStands boot scripts (moved_after boot scripts history entries)
  history-after history [] stands legal = stands
  history-after history (entry ∷ entries) stands legal = history-after (history ++ with_bytes boot scripts history entry ∷ []) entries (history-push history entry stands legal.0) legal.2

  first-held : (cpu : ℕ) (calls : List ModuleCall) → AreGuarded boot calls (own_of (script_of scripts cpu) [])
  unfolding own_of
  first-held cpu calls = tt

  -- it stands after each legal history
  pub legal-stands : (entries : List Entry) → Legal boot scripts entries → HistoryStands boot scripts (with_moved boot scripts entries)
  legal-stands entries legal =
      history-after [] entries (record { placed = tt; events = tt; memory = memory-first boot (boot-stands boot made); held = λ cpu. first-held cpu (calls_of boot []) }) legal

-- ---- pages that a load strays into

-- such events leave no page absent
absent-none : (page : ℕ) (e : Event) → IsUnconverting e → absent_after page false e ≡ false
absent-none page (event.Report run calls stopped next) is = either (accepts_page calls page) where
  either : (b : Bool) → cond b false false ≡ false
  either true = refl
  either false = refl
absent-none page (event.ConvertBegin block to) is = absurd is
absent-none page (event.ConvertEnd block calls end) is = absurd is
absent-none page _ is = refl

absent-fold : (page : ℕ) (history : List Moved) → AllByRecursion (λ (m : Moved). IsUnconverting m.entry.event) history → fold (λ absent (e : Entry). absent_after page absent e.event) false (memory_of history) ≡ false
absent-fold page [] all = refl
absent-fold page (m ∷ history) all =
    elim (cases_Bool (same_place place.Memory m.entry.place)) [
      | inl t ↦
          rw t
          (ap (λ b. fold (λ absent (e : Entry). absent_after page absent e.event) b (memory_of history)) (absent-none page m.entry.event all.0) ∙ absent-fold page history all.1)
      | inr f ↦ rw f (absent-fold page history all.1)
    ]

none-absent : (page : ℕ) (history : List Moved) → AllByRecursion (λ (m : Moved). IsUnconverting m.entry.event) history → is_absent (memory_of history) page ≡ false
unfolding is_absent
none-absent page history all = absent-fold page history all

-- what a load finds in a page that isn't absent
Safe : Option PageState → Type 0
Safe s = (s ≡ None) ⊎ (s ≡ Some Accepted) ⊎ (s ≡ Some Shared)

found-safe : (s : Option PageState) (found : Found) → found_by false s ≡ Some found → Safe s
unfolding Safe
found-safe None found is = inl refl
found-safe (Some Accepted) found is = inr (inl refl)
found-safe (Some Shared) found is = inr (inr refl)
found-safe (Some Pending) found is = cc

at-safe : (boot : Boot) (memory : List Entry) (page : ℕ) (found : Found) → is_absent memory page ≡ false → found_at boot memory page ≡ Some found → Safe (page_state boot (calls_of boot memory) page)
unfolding found_at
at-safe boot memory page found none is =
    found-safe (page_state boot (calls_of boot memory) page) found (sym (ap (λ b. found_by b (page_state boot (calls_of boot memory) page)) none) ∙ is)

strays : (boot : Boot) (before : List Entry) (page : ℕ) → Safe (page_state boot (calls_of boot before) page) → StraysSafely boot before page
unfolding Safe
strays boot before page (inl none) = inl none
strays boot before page (inr (inl accepted)) = inr (inr (inl accepted))
strays boot before page (inr (inr shared)) = inr (inr (inr shared))

-- the event of a load that strays
record Strays (e : Event) (page : ℕ) : Type 0 where
  pub found : Found
  pub is : e ≡ event.Touched (record { 0 = page }) found

strays-at : (e : Event) (page : ℕ) → IsUnconverting e → strayed_into e ≡ Some page → Strays e page
strays-at (event.Touched at found) page is h =
    let same : at.0 ≡ page = cc in
    record { found = found; is = ap (λ n. event.Touched (record { 0 = n }) found) same }
strays-at _ page is h = cc

-- ---- no pending page is touched

module _ (boot : Boot) (made : BootMade boot) (scripts : List (List Command)) (all : ConvertNothing scripts) (entries before later : List Entry) (legal : Legal boot scripts entries) where
  -- what stands before an entry, over the entries before it
  stands-before : entries ≡ before ++ later → HistoryStands boot scripts (with_moved boot scripts before)
  stands-before is =
      let P : List Entry → Type 0 = Legal boot scripts in
      legal-stands boot made scripts all before (legal-front boot scripts [] before later (subst P is legal))

  calls-before : (is : entries ≡ before ++ later) → calls_of boot (memory_of (with_moved boot scripts before)) ≡ calls_of boot before
  calls-before is = calls_of-memory boot (with_moved boot scripts before) (stands-before is).placed ∙ ap (calls_of boot) (moved-entries boot scripts [] before)

entry-touched : (boot : Boot) (made : BootMade boot) (scripts : List (List Command)) (all : ConvertNothing scripts) (entries before later : List Entry) (entry : Entry) → Legal boot scripts entries → entries ≡ before ++ entry ∷ later → (page : ℕ) → among (touched_pages boot scripts before entry) page → page_state boot (calls_of boot before) page ≡ Some Accepted
entry-touched boot made scripts all entries before later entry legal is page h =
    let history = with_moved boot scripts before in
    let P : List Entry → Type 0 = Legal boot scripts in
    let f = follows-at boot scripts [] before entry later (subst P is legal) in
    let stands = stands-before boot made scripts all entries before (entry ∷ later) legal is in
    let calls = calls-before boot made scripts all entries before (entry ∷ later) legal is in
    let c = command-of boot scripts history entry f in
    let own = own_of (script_of scripts entry.cpu.0) (made_by entry.cpu.0 history) in
    let mapped = legal-mapped boot scripts before (legal-front boot scripts [] before (entry ∷ later) (subst P is legal)) entry.cpu.0 in
    let got : (block : Block) → entry.event ≡ event.Got block → IsGuarded boot (calls_of boot (memory_of history)) block = λ block at. elim (cases_Bool (same_place place.Memory entry.place)) [
      | inl t ↦ got-guarded boot (memory_of history) entry.cpu.0 entry.event block (cut-pages boot made) stands.memory (fits-at boot made scripts all history entry f t).0 at
      | inr out ↦ absurd (elsewhere boot made scripts all history entry block f out at)
    ]
    in
    sym (ap (λ cs. page_state boot cs page) calls)
    ∙ touch-accepted boot (calls_of boot (memory_of history)) entry.cpu.0 own (at_place entry.place history) c.command (calls_in entry.event) (step_told entry) page
    (is-unconverting scripts entry.cpu.0 entry.cmd c.command all c.its) (stands.held entry.cpu.0) mapped got c.step
    (subst (λ o. among (touched_by boot own o entry.event) page) c.its h)

entry-strays : (boot : Boot) (made : BootMade boot) (scripts : List (List Command)) (all : ConvertNothing scripts) (entries before later : List Entry) (entry : Entry) → Legal boot scripts entries → entries ≡ before ++ entry ∷ later → (page : ℕ) → strayed_into entry.event ≡ Some page → StraysSafely boot before page
entry-strays boot made scripts all entries before later entry legal is page h =
    let history = with_moved boot scripts before in
    let P : List Entry → Type 0 = Legal boot scripts in
    let f = follows-at boot scripts [] before entry later (subst P is legal) in
    let stands = stands-before boot made scripts all entries before (entry ∷ later) legal is in
    let calls = calls-before boot made scripts all entries before (entry ∷ later) legal is in
    let strayed = strays-at entry.event page (follows-unconverting boot scripts history entry all f) h in
    let at : entry.place ≡ place.Memory = f.over.place ∙ ap (place_of boot) strayed.is in
    let fits = fits-at boot made scripts all history entry f (ap (same_place place.Memory) at) in
    let found = subst (Fits boot (memory_of history) entry.cpu.0) strayed.is fits.0 in
    strays boot before page (subst (λ cs. Safe (page_state boot cs page)) calls (at-safe boot (memory_of history) page strayed.found (none-absent page history stands.events) found))

pub blocks-untouched : (boot : Boot) (scripts : List (List Command)) (entries : List Entry) → BootMade boot → ConvertNothing scripts → Legal boot scripts entries → Untouched boot scripts entries
blocks-untouched boot scripts entries made all legal = record {
  touched = λ before later entry is. entry-touched boot made scripts all entries before later entry legal is;
  strayed = λ before later entry is. entry-strays boot made scripts all entries before later entry legal is;
}

pub blocks-stand : (boot : Boot) (scripts : List (List Command)) (entries : List Entry) → BootMade boot → ConvertNothing scripts → Legal boot scripts entries → MemoryStands boot (entries_of (at_place place.Memory (with_moved boot scripts entries)))
blocks-stand boot scripts entries made all legal = (legal-stands boot made scripts all entries legal).memory

pub blocks-guarded : (boot : Boot) (scripts : List (List Command)) (entries : List Entry) → BootMade boot → ConvertNothing scripts → Legal boot scripts entries → (cpu : ℕ) → AreGuarded boot (calls_of boot entries) (own_of (script_of scripts cpu) (made_by cpu (with_moved boot scripts entries)))
blocks-guarded boot scripts entries made all legal cpu =
    subst (λ cs. AreGuarded boot cs (own_of (script_of scripts cpu) (made_by cpu (with_moved boot scripts entries)))) (calls-before boot made scripts all entries entries [] legal (sym (append-nil entries)))
    ((legal-stands boot made scripts all entries legal).held cpu)

found-behind : (absent : Bool) (s : Option PageState) → is_pending s ≡ false → found_by absent s ≢ None
found-behind absent None not = λ none. cc
found-behind true (Some Pending) not = cc
found-behind true (Some Accepted) not = λ none. cc
found-behind true (Some Shared) not = λ none. cc
found-behind false (Some Pending) not = cc
found-behind false (Some Accepted) not = λ none. cc
found-behind false (Some Shared) not = λ none. cc

pub guarded-found : (boot : Boot) (memory : List Entry) (block : Block) → IsGuarded boot (calls_of boot memory) block → found_at boot memory (page_behind block) ≢ None
unfolding found_at
guarded-found boot memory block is = found-behind (is_absent memory (page_behind block)) (page_state boot (calls_of boot memory) (page_behind block)) is.behind
