use Rattle.std.proofs.Common.{◌≡◌, ℕ, ◌⊎◌, List, ◌++◌, Option, None, Some, refl, sym, ◌∙◌, ap, subst, inl, inr}
use Rattle.std.specs.Prelude.{Result, Ok, Err, OnOk, OnErr}
use Rattle.guest_base.specs.Counts.{Rose}
use Rattle.event_core.specs.declared.boot.Recorded.{Recorded}
use Rattle.guest_io.specs.declared.sink.PutFault.{PutFault}
use Rattle.guest_io.specs.declared.sink.PutFault.TheVariants.{Failed, NoMemory as NoRoom}
use Rattle.guest_boot.specs.Placing.{HasNoRoom}
use Rattle.guest_map.specs.declared.map.GuestMap.{GuestMap}
use Rattle.guest_words.specs.Words.{Named}
use Rattle.guest_input.specs.Asked.{all_names, names_of, AsksFront}
use Rattle.guest_input.specs.Causes.{IsKnownMapOf, IsKnownRefused, IsMapOf}
use Rattle.guest_input.specs.Files.{AreKnownGood}
use Rattle.guest_input.specs.Stops.{name_of, pool_line, refused_line, stop_line, status_of}
use Rattle.guest_input.specs.declared.stop.Cause.{Cause}
use Rattle.guest_input.specs.declared.stop.InputFile.{InputFile}
use Rattle.guest_input.specs.declared.stop.Stop.{Stop}
use Rattle.guest_input.specs.declared.stop.Stop.TheVariants.{Refused, NotRead, PoolNoRoom, Module, NoMemory}
use Rattle.guest_input.proofs.InputLemmas.{asks_all, front_to}
use Rattle.guest_input.proofs.RefusedLemmas.{good_known, known_good, not_behind, one_map, same_first}
use Rattle.guest_text.specs.Printings.{CutAfter, PrintedAfter}
use Rattle.guest_text.specs.Putting.{Putting, Put, PutFront, PutNothing}
use Rattle.guest_run.specs.declared.program.Ended.{Ended}
use Rattle.guest_runs.specs.Asking.{PortsKept}
use Rattle.guest_run.specs.Ends.{cpus_of, Completes, Ending, Ends, Outside, RefusesFirst, RefusesPool, RunEnds, SaysNotRead, SaysNotReadUpTo}
use Rattle.guest_run.specs.Ends.Ending.{Unmatched, Stops, Runs}
use Rattle.guest_run.specs.Room.{PoolHasKnownRoom, PoolHasNoRoom, PoolHasRoom, PoolIsKnownRoomless}
use Rattle.guest_run.specs.Stopping.{EndsAt, EndsWith, StopEnds, Stopped}
use Rattle.guest_run.proofs.RoomLemmas.{room_of_stop}

-- ---- what is put

-- a line
pub line_ends : (put : Result (Unit {0}) PutFault) (out : Putting) (line : List ℕ) (status : ℕ) (ended : Ended) → ended.run ≡ None → OnOk put (ended.status ≡ status) → (put ≡ Err Failed → ended.status ≡ 5) → (put ≡ Err NoRoom → ended.status ≡ 6)
    → OnOk put (Put out line) → (put ≡ Err Failed → Rose out.faults_before out.faults_after) → (put ≡ Err Failed → PutFront out line) → (put ≡ Err NoRoom → PutNothing out) → EndsWith out line status ended
line_ends (Ok x) out line status ended none is five six put rose front nothing = inl ((is, none), put)
line_ends (Err Failed) out line status ended none is five six put rose front nothing = inr (inl ((five refl, none), rose refl, front refl))
line_ends (Err NoRoom) out line status ended none is five six put rose front nothing = inr (inr ((six refl, none), nothing refl))

-- the text of a run
pub run_ends : (put : Result (Unit {0}) PutFault) (out : Putting) (r : Recorded) (ended : Ended) → ended.run ≡ Some r → OnOk put (ended.status ≡ 0) → (put ≡ Err Failed → ended.status ≡ 5) → (put ≡ Err NoRoom → ended.status ≡ 6)
    → OnOk put (PrintedAfter r out) → (put ≡ Err Failed → Rose out.faults_before out.faults_after) → OnErr put (CutAfter r out) → RunEnds out r ended
run_ends (Ok x) out r ended run is five six put rose cut = (run, inl (is, put))
run_ends (Err Failed) out r ended run is five six put rose cut = (run, inr (inl (five refl, rose refl, cut)))
run_ends (Err NoRoom) out r ended run is five six put rose cut = (run, inr (inr (six refl, cut)))

-- the line of a stop
pub stop_ends : (out : Putting) (named : Named) (stop : Stop) (line : List ℕ) (status : ℕ) (ended : Ended) → line ≡ stop_line named stop → status ≡ status_of stop → (stop ≡ NoMemory → ⊥) → EndsWith out line status ended → StopEnds out named stop ended
stop_ends out named (Refused file cause) line status ended same is some ends = subst (λ l. EndsWith out l 3 ended) same (subst (λ s. EndsWith out line s ended) is ends)
stop_ends out named (NotRead file) line status ended same is some ends = subst (λ l. EndsWith out l 4 ended) same (subst (λ s. EndsWith out line s ended) is ends)
stop_ends out named PoolNoRoom line status ended same is some ends = subst (λ l. EndsWith out l 3 ended) same (subst (λ s. EndsWith out line s ended) is ends)
stop_ends out named Module line status ended same is some ends = subst (λ l. EndsWith out l 7 ended) same (subst (λ s. EndsWith out line s ended) is ends)
stop_ends out named NoMemory line status ended same is some ends = absurd (some refl)

-- no memory for the line
pub stop_ends_bare : (out : Putting) (named : Named) (stop : Stop) (ended : Ended) → EndsAt 6 ended → PutNothing out → StopEnds out named stop ended
stop_ends_bare out named (Refused file cause) ended six nothing = inr (inr (six, nothing))
stop_ends_bare out named (NotRead file) ended six nothing = inr (inr (six, nothing))
stop_ends_bare out named PoolNoRoom ended six nothing = inr (inr (six, nothing))
stop_ends_bare out named Module ended six nothing = inr (inr (six, nothing))
stop_ends_bare out named NoMemory ended six nothing = (six, nothing)

-- ---- the arguments

-- what names the arguments is one
same_named : (arguments : Option Named) (a b : Named) → arguments ≡ Some a → arguments ≡ Some b → a ≡ b
same_named arguments a b is that = let e : Some a ≡ Some b = sym is ∙ that in cc

none_named : {A : Type 0} (arguments : Option Named) (a : Named) → arguments ≡ None → arguments ≡ Some a → A
none_named arguments a none is = let no : None ≡ Some a = sym none ∙ is in cc

-- ---- a file that is known to be the first that is refused

abbrev FirstRefused : {P : Type 0} → Outside P → Named → InputFile → Cause → ℕ → Type 0
FirstRefused o named file cause status =
    ((status ≡ 3) × Put o.out (refused_line (name_of named file) cause)) ⊎ ((status ≡ 4) × SaysNotReadUpTo file o.files o.out named) ⊎ (status ≡ 5) ⊎ (status ≡ 6)

first_stop : {P : Type 0} (o : Outside P) (named : Named) (stop : Stop) (ended : Ended) (file : InputFile) (cause : Cause) → Stopped o.files o.ports named stop → StopEnds o.out named stop ended → IsKnownRefused o.files.holds named file cause → FirstRefused o named file cause ended.status
first_stop o named (Refused at c) ended file cause stopped (inl put) known =
    let same = same_first o.files.holds named at file c cause stopped.0.refused known in
    let L : List ℕ → Type 0 = Put o.out in
    inl (put.0.0, subst L (ap (λ f. refused_line (name_of named f) c) same.0 ∙ ap (refused_line (name_of named file)) same.1) put.1)
first_stop o named (Refused at c) ended file cause stopped (inr (inl cut)) known = inr (inr (inl cut.0.0))
first_stop o named (Refused at c) ended file cause stopped (inr (inr none)) known = inr (inr (inr none.0.0))
first_stop o named (NotRead at) ended file cause stopped (inl put) known = inr (inl (put.0.0, (at, not_behind o.files.holds named at file cause stopped.0.before known, stopped.0, put.1)))
first_stop o named (NotRead at) ended file cause stopped (inr (inl cut)) known = inr (inr (inl cut.0.0))
first_stop o named (NotRead at) ended file cause stopped (inr (inr none)) known = inr (inr (inr none.0.0))
first_stop o named PoolNoRoom ended file cause stopped ends known = good_known o.files.holds named file cause (stopped.0.good file) known
first_stop o named Module ended file cause stopped ends known = good_known o.files.holds named file cause (stopped.0.good file) known
first_stop o named NoMemory ended file cause stopped ends known = inr (inr (inr ends.0.0))

first_refused : {P : Type 0} (o : Outside P) (arguments : Option Named) (ended : Ended) → Ending o arguments ended → RefusesFirst o arguments ended.status
first_refused o arguments ended (Unmatched none asks unasked ends) named file cause is known = none_named arguments named none is
first_refused o arguments ended (Stops other stop that stopped ends) named file cause is known =
    let K : Named → Type 0 = λ n. IsKnownRefused o.files.holds n file cause in
    let G : Named → Type 0 = λ n. FirstRefused o n file cause ended.status in
    let same = same_named arguments other named that is in
    subst G same (first_stop o other stop ended file cause stopped ends (subst K (sym same) known))
first_refused o arguments ended (Runs other r that good room asks ends) named file cause is known =
    let K : Named → Type 0 = λ n. IsKnownRefused o.files.holds n file cause in
    good_known o.files.holds other file cause (good file) (subst K (sym (same_named arguments other named that is)) known)

-- ---- a pool that is known to have no room

same_map : (holds : List ℕ → Option (List ℕ)) (named : Named) (a b : GuestMap) → IsMapOf holds named a → IsKnownMapOf holds named b → a ≡ b
same_map holds named a b is known = one_map known.bytes a b (is known.bytes known.held) known.map_is

-- one that has room isn't known to have none
room_known : {A : Type 0} (holds : List ℕ → Option (List ℕ)) (named : Named) → PoolHasRoom holds named → PoolIsKnownRoomless holds named → A
room_known holds named has none =
    let same = same_map holds named has.map none.map has.map_is none.known in
    absurd (has.room (subst (λ (m : GuestMap). HasNoRoom m.descriptors named.slots named.areas) (sym same) none.none))

-- and one that has none isn't known to have room
known_room : {A : Type 0} (holds : List ℕ → Option (List ℕ)) (named : Named) → PoolHasNoRoom holds named → PoolHasKnownRoom holds named → A
known_room holds named none has =
    let same = same_map holds named none.map has.map none.map_is has.known in
    absurd (has.room (subst (λ (m : GuestMap). HasNoRoom m.descriptors named.slots named.areas) same none.none))

abbrev PoolRefused : {P : Type 0} → Outside P → Named → ℕ → Type 0
PoolRefused o named status = ((status ≡ 3) × Put o.out pool_line) ⊎ ((status ≡ 4) × SaysNotRead o.files o.out named) ⊎ (status ≡ 5) ⊎ (status ≡ 6)

pool_stop : {P : Type 0} (o : Outside P) (named : Named) (stop : Stop) (ended : Ended) → Stopped o.files o.ports named stop → StopEnds o.out named stop ended → AreKnownGood o.files.holds named → PoolIsKnownRoomless o.files.holds named → PoolRefused o named ended.status
pool_stop o named (Refused file cause) ended stopped ends good none = known_good o.files.holds named file cause stopped.0.refused (good file)
pool_stop o named (NotRead file) ended stopped (inl put) good none = inr (inl (put.0.0, (file, stopped.0, put.1)))
pool_stop o named (NotRead file) ended stopped (inr (inl cut)) good none = inr (inr (inl cut.0.0))
pool_stop o named (NotRead file) ended stopped (inr (inr bare)) good none = inr (inr (inr bare.0.0))
pool_stop o named PoolNoRoom ended stopped (inl put) good none = inl (put.0.0, put.1)
pool_stop o named PoolNoRoom ended stopped (inr (inl cut)) good none = inr (inr (inl cut.0.0))
pool_stop o named PoolNoRoom ended stopped (inr (inr bare)) good none = inr (inr (inr bare.0.0))
pool_stop o named Module ended stopped ends good none = room_known o.files.holds named (room_of_stop o.files.holds o.ports named stopped.0) none
pool_stop o named NoMemory ended stopped ends good none = inr (inr (inr ends.0.0))

pool_refused : {P : Type 0} (o : Outside P) (arguments : Option Named) (ended : Ended) → Ending o arguments ended → RefusesPool o arguments ended.status
pool_refused o arguments ended (Unmatched none asks unasked ends) named is good roomless = none_named arguments named none is
pool_refused o arguments ended (Stops other stop that stopped ends) named is good roomless =
    let same = same_named arguments other named that is in
    subst (λ n. PoolRefused o n ended.status) same (pool_stop o other stop ended stopped ends (subst (AreKnownGood o.files.holds) (sym same) good) (subst (PoolIsKnownRoomless o.files.holds) (sym same) roomless))
pool_refused o arguments ended (Runs other r that good-all room asks ends) named is good roomless =
    room_known o.files.holds other room (subst (PoolIsKnownRoomless o.files.holds) (sym (same_named arguments other named that is)) roomless)

-- ---- files that are known to be good

complete_stop : {P : Type 0} (o : Outside P) (named : Named) (stop : Stop) (ended : Ended) → Stopped o.files o.ports named stop → StopEnds o.out named stop ended → AreKnownGood o.files.holds named → PoolHasKnownRoom o.files.holds named → (Rose o.files.faults_before o.files.faults_after → ⊥) → (Rose o.out.faults_before o.out.faults_after → ⊥) → (ended.status ≡ 0) ⊎ (ended.status ≡ 6) ⊎ (ended.status ≡ 7)
complete_stop o named (Refused file cause) ended stopped ends good room kept sink = known_good o.files.holds named file cause stopped.0.refused (good file)
complete_stop o named (NotRead file) ended stopped ends good room kept sink = absurd (kept stopped.0.rose)
complete_stop o named PoolNoRoom ended stopped ends good room kept sink = known_room o.files.holds named stopped.0.pool room
complete_stop o named Module ended stopped (inl put) good room kept sink = inr (inr put.0.0)
complete_stop o named Module ended stopped (inr (inl cut)) good room kept sink = absurd (sink cut.1)
complete_stop o named Module ended stopped (inr (inr none)) good room kept sink = inr (inl none.0.0)
complete_stop o named NoMemory ended stopped ends good room kept sink = inr (inl ends.0.0)

complete_run : (out : Putting) (r : Recorded) (ended : Ended) → RunEnds out r ended → (Rose out.faults_before out.faults_after → ⊥) → (ended.status ≡ 0) ⊎ (ended.status ≡ 6) ⊎ (ended.status ≡ 7)
complete_run out r ended (run, inl put) sink = inl put.0
complete_run out r ended (run, inr (inl cut)) sink = absurd (sink cut.1)
complete_run out r ended (run, inr (inr cut)) sink = inr (inl cut.0)

complete : {P : Type 0} (o : Outside P) (arguments : Option Named) (ended : Ended) → Ending o arguments ended → Completes o arguments ended.status
complete o arguments ended (Unmatched none asks unasked ends) named is good room kept sink = none_named arguments named none is
complete o arguments ended (Stops other stop that stopped ends) named is good room kept sink =
    let same = sym (same_named arguments other named that is) in
    complete_stop o other stop ended stopped ends (subst (AreKnownGood o.files.holds) same good) (subst (PoolHasKnownRoom o.files.holds) same room) kept sink
complete o arguments ended (Runs other r that good-all has asks ends) named is good room kept sink = complete_run o.out r ended ends sink

-- ---- the names that were asked for

asked_stop : {P : Type 0} (o : Outside P) (named : Named) (stop : Stop) → Stopped o.files o.ports named stop → AsksFront (all_names named) o.files
asked_stop o named (Refused file cause) stopped = (let front = front_to named file in (front.0, stopped.0.asked ∙ ap (λ names. o.files.asked_before ++ names) front.1))
asked_stop o named (NotRead file) stopped = (let front = front_to named file in (front.0, stopped.0.asked ∙ ap (λ names. o.files.asked_before ++ names) front.1))
asked_stop o named PoolNoRoom stopped = asks_all named o.files stopped.1
asked_stop o named Module stopped = asks_all named o.files stopped.1
asked_stop o named NoMemory stopped = stopped.0

asked : {P : Type 0} (o : Outside P) (arguments : Option Named) (ended : Ended) → Ending o arguments ended → AsksFront (names_of arguments) o.files
asked o arguments ended (Unmatched none asks unasked ends) = subst (λ a. AsksFront (names_of a) o.files) (sym none) (0, asks)
asked o arguments ended (Stops named stop is stopped ends) = subst (λ a. AsksFront (names_of a) o.files) (sym is) (asked_stop o named stop stopped)
asked o arguments ended (Runs named r is good room asks ends) = subst (λ a. AsksFront (names_of a) o.files) (sym is) (asks_all named o.files asks)

-- ---- all together

pub ends_of : {P : Type 0} (o : Outside P) (arguments : Option Named) (ended : Ended) → PortsKept (cpus_of arguments) o.ports → Ending o arguments ended → Ends o arguments ended
ends_of o arguments ended kept ending = record {
  ending = ending;
  first_refused = first_refused o arguments ended ending;
  pool_refused = pool_refused o arguments ended ending;
  complete = complete o arguments ended ending;
  asked = asked o arguments ended ending;
  kept = kept;
}
