use Rattle.std.proofs.Common.{◌≡◌, ◌<◌, ℕ, Option, None, Some, List, [], ◌++◌, refl, sym, ◌∙◌, ap, subst, cond, length, map, reverse, append-nil, unwrap_or}
use Rattle.std.specs.Prelude.{slice_get, ◌==◌, Result, Ok, Err, IfOk, OnOk, OnErr}
use Rattle.std.specs.Result.{IsErr, result_and}
use Rattle.std.proofs.lemmas.List.{length-map}
use Rattle.std.proofs.lemmas.Simd.{map-map}
use Rattle.guest_base.specs.declared.memory.PageRun.{PageRun}
use Rattle.event_core.specs.declared.boot.Boot.{Boot}
use Rattle.event_core.specs.declared.boot.Recorded.{Recorded}
use Rattle.event_core.specs.declared.command.Command.{Command}
use Rattle.event_core.specs.declared.entry.Entry.{Entry}
use Rattle.event_core.specs.declared.module_call.ModuleCall.{ModuleCall}
use Rattle.event_core.specs.Calls.{SoundCalls, calls_of}
use Rattle.event_core.specs.Legal.{Whole}
use Rattle.event_core.specs.MemoryRows.{page_state}
use Rattle.event_core.specs.Runs.{AreMaximalRuns, state_in}
use Rattle.event_core.specs.Turns.{entries_by}
use Rattle.event_laws.specs.Coming.{BootMade}
use Rattle.guest_steps.specs.Ground.{Ground}
use Rattle.guest_boot.specs.declared.world.World.{World}
use Rattle.event_core.specs.Printed.{FinalRuns}
use Rattle.guest_cpu.specs.declared.cpu.Cpu.{Cpu}
use Rattle.guest_cpu.specs.Standing.{seen_by}
use Rattle.guest_steps.specs.Running.{AllFinished, AreOf, EachLater, TurnedBy}
use Rattle.guest_steps.specs.Seen.{Seen, entries_made}
use Rattle.guest_steps.specs.Standing.{Together, lists_of, scripts_of}
use Rattle.guest_runs.specs.Asking.{Asking, asking, OthersUnmade, PortsKept, first_made}
use Rattle.guest_runs.specs.Beginning.{Begins}
use Rattle.guest_runs.specs.OnPorts.{HaveFinished, HaveRun, Places, first_on, ground_at, ports_of}
use Rattle.guest_runs.specs.Recordings.{KeepsRun, RunHalts, Tells, TurnedWhere}
use Rattle.guest_runs.proofs.KeepLemmas.{keeps-run, run-halts}
use Rattle.guest_runs.proofs.LaterLemmas.{each-ran, later-scripts}
use Rattle.guest_runs.proofs.PortsLemmas.{kept_same}
use Rattle.guest_runs.proofs.RanLemmas.{RanHere, had-made, ports-kept}
use Rattle.guest_runs.proofs.WithinLemmas.{runs_within}

-- A run of several processors, by what holds when they have left their ports.

-- the run that is recorded
same-run : (r : Recorded) (boot : Boot) (scripts : List (List Command)) → r.boot ≡ boot → r.scripts ≡ scripts → (let made : Recorded = record { boot = boot; scripts = scripts; entries = r.entries } in made) ≡ r
same-run r boot scripts same_boot same_scripts =
    ap (λ b. let made : Recorded = record { boot = b; scripts = scripts; entries = r.entries } in made) (sym same_boot)
    ∙ ap (λ ss. let made : Recorded = record { boot = r.boot; scripts = ss; entries = r.entries } in made) (sym same_scripts)

turned-where : (boot : Boot) (all : List Seen) (order : Option (List ℕ)) (entries : List Entry) → AreOf all entries → ((turns : List ℕ) → order ≡ Some turns → TurnedBy boot all turns) → TurnedWhere order (record { boot = boot; scripts = scripts_of all; entries = entries })
turned-where boot all None entries are by = tt
turned-where boot all (Some turns) entries are by = by turns refl entries are

-- what holds anyway holds where memory ran out
pub on-err : {T E A : Type 0} (result : Result T E) → A → OnErr result A
on-err (Ok x) a = tt
on-err (Err e) a = a

-- what is left, unless memory ran out
module _ {T U E : Type 0} (answer : Result T E) (left : U) (ended : Result U E) where
  pub and-left : (Q : U → Type 0) → ended ≡ result_and answer (let all : Result U E = Ok left in all) → Q left → IfOk ended Q
  and-left Q is holds = subst (λ e. IfOk e Q) (sym is) (by answer) where
    by : (answer : Result T E) → IfOk (result_and answer (let all : Result U E = Ok left in all)) Q
    by (Ok x) = holds
    by (Err e) = tt

  pub and-on : (A : Type 0) → ended ≡ result_and answer (let all : Result U E = Ok left in all) → OnOk answer A → OnOk ended A
  and-on A is on = subst (λ e. OnOk e A) (sym is) (by answer on) where
    by : (answer : Result T E) → OnOk answer A → OnOk (result_and answer (let all : Result U E = Ok left in all)) A
    by (Ok x) h = h
    by (Err e) h = tt

module _ {P : Type 0} (made : P → List ModuleCall) (faults : P → ℕ) (never : P → Type 0) where
  -- before the first entry the ports' calls are boot's alone
  pub halts-first : (world : World) (scripts : List (List Command)) (before after : List P) → Begins made world scripts before → after ≡ before → RunHalts (asking made faults never before after) world.boot scripts
  halts-first world scripts before after begins same =
      let r : Recorded = record { boot = world.boot; scripts = scripts; entries = [] } in
      record {
        run = r;
        boot_is = refl;
        scripts_are = refl;
        halted = record {
          legal = tt;
          calls = λ cpu port at.
              had-made made faults never before world.boot.calls begins.first begins.others cpu port (ap (λ ps. slice_get ps cpu) (sym same) ∙ at)
              ∙ sym (append-nil (cond (cpu == 0) world.boot.calls []));
        };
      }

  pub kept-first : (cpus : ℕ) (before after : List P) → after ≡ before → PortsKept cpus (asking made faults never before after)
  kept-first cpus before after same =
      let K : List P → Type 0 = λ ps. PortsKept cpus (asking made faults never before ps) in
      subst K (sym same) (kept_same made faults never cpus before)

  module _ {E : Type 0} (world : World) (scripts : List (List Command)) (before left : List P) (olds news : List (Cpu P)) (begins : Begins made world scripts before) (were : before ≡ ports_of olds ++ reverse left)
      (first : map (seen_by made faults) olds ≡ first_on made faults world.boot 0 scripts (ports_of olds)) (count : length olds ≡ length scripts) (later : EachLater (seen_by made faults) (λ (c : Cpu P). never c.port) olds news) where
    -- what is known after turns in an order
    pub turns-have-run : {T : Type 0} (order : List ℕ) (answer : Result T E) (places : Places) (ended : Result Places E) → Together world.memory.boot (map (seen_by made faults) news) (ground_at places) → OnOk answer (AllFinished (map (seen_by made faults) news)) → OnOk answer (TurnedBy world.memory.boot (map (seen_by made faults) news) order)
        → ended ≡ result_and answer (let all : Result Places E = Ok places in all) → HaveRun made faults never world scripts (Some order) before left news ended
    turns-have-run order answer places ended together finished turned is =
        let cs = map (seen_by made faults) news in
        let same = begins.stands.same in
        let S : Boot → Type 0 = λ b. Together b cs (ground_at places) in
        let R : Boot → Type 0 = λ b. OnOk answer (TurnedBy b cs order) in
        record {
          begins = begins;
          olds = olds;
          before_is = were;
          first = first;
          count = count;
          later = later;
          stood = ground_at places;
          ground_is = and-left answer places ended (λ p. ground_at p ≡ ground_at places) is refl;
          together = subst S same together;
          finished = and-on answer places ended (AllFinished cs) is finished;
          turned = λ turns one.
              (let the : order ≡ turns = cc in
              subst (λ ts. OnOk ended (TurnedBy world.boot cs ts)) the (and-on answer places ended (TurnedBy world.boot cs order) is (subst R same turned)));
        }

    -- and on threads
    pub threads-have-run : (stood : Ground) (ended : Result Places E) → IfOk ended (λ places. ground_at places ≡ stood) → Together world.memory.boot (map (seen_by made faults) news) stood → OnOk ended (AllFinished (map (seen_by made faults) news))
        → HaveRun made faults never world scripts None before left news ended
    threads-have-run stood ended is together finished =
        let S : Boot → Type 0 = λ b. Together b (map (seen_by made faults) news) stood in
        record {
          begins = begins;
          olds = olds;
          before_is = were;
          first = first;
          count = count;
          later = later;
          stood = stood;
          ground_is = is;
          together = subst S begins.stands.same together;
          finished = finished;
          turned = λ turns one. cc;
        }

  -- The processors have left their ports, which are before the others again.
  pub record AfterRun (boot : Boot) (scripts : List (List Command)) (before after : List P) (all : List Seen) (base : Ground) : Type 0 where
    pub olds : List P
    pub news : List P
    pub rest : List P
    pub before_is : before ≡ olds ++ rest
    pub after_is : after ≡ news ++ rest
    pub here : RanHere made faults never boot all base olds news rest
    pub scripts_are : scripts_of all ≡ scripts

  pub after-run : {E : Type 0} (world : World) (scripts : List (List Command)) (order : Option (List ℕ)) (before mid after : List P) (all : List (Cpu P)) (ended : Result Places E) (run : HaveRun made faults never world scripts order before mid all ended) → after ≡ ports_of all ++ reverse mid
      → AfterRun world.boot scripts before after (map (seen_by made faults) all) run.stood
  after-run world scripts order before mid after all ended run are = record {
    olds = ports_of run.olds;
    news = ports_of all;
    rest = reverse mid;
    before_is = run.before_is;
    after_is = are;
    here = record {
      together = run.together;
      ran = each-ran made faults never world.boot 0 scripts run.olds all run.first run.later;
      first = ap (first_made made) (sym run.before_is) ∙ run.begins.first;
      others = subst (OthersUnmade made) run.before_is run.begins.others;
    };
    scripts_are = later-scripts made faults never world.boot 0 scripts run.olds all run.first run.count run.later;
  }

  module _ (boot : Boot) (scripts : List (List Command)) (before after : List P) (all : List Seen) (base : Ground) (ran : AfterRun boot scripts before after all base) where
    -- what is said of the ports in two parts is said of all
    whole-ports : (Q : Asking P → Type 0) → Q (asking made faults never (ran.olds ++ ran.rest) (ran.news ++ ran.rest)) → Q (asking made faults never before after)
    whole-ports Q of_parts =
        let R : List P → Type 0 = λ ps. Q (asking made faults never before ps) in
        let S : List P → Type 0 = λ ps. Q (asking made faults never ps (ran.news ++ ran.rest)) in
        subst R (sym ran.after_is) (subst S (sym ran.before_is) of_parts)

    script-count : length scripts ≡ length all
    script-count = ap (λ (ss : List (List Command)). length ss) (sym ran.scripts_are) ∙ length-map all (λ (c : Seen). c.script)

    pub after-kept : PortsKept (length scripts) (asking made faults never before after)
    after-kept = whole-ports (PortsKept (length scripts)) (ports-kept made faults never boot all base ran.olds ran.news ran.rest (length scripts) ran.here script-count)

    pub after-halts : RunHalts (asking made faults never before after) boot scripts
    after-halts =
        let H : List (List Command) → Type 0 = RunHalts (asking made faults never before after) boot in
        subst H ran.scripts_are (whole-ports (λ ports. RunHalts ports boot (scripts_of all)) (run-halts made faults never boot all base ran.olds ran.news ran.rest ran.here))

    keeps-made : (order : Option (List ℕ)) (entries : List Entry) → BootMade boot → 0 < boot.areas → SoundCalls (state_in boot.ram) boot.calls → AreOf all entries → Whole boot scripts entries → ((turns : List ℕ) → order ≡ Some turns → TurnedBy boot all turns)
        → KeepsRun (asking made faults never before after) order (record { boot = boot; scripts = scripts; entries = entries })
    keeps-made order entries of_map areas sound are whole turned =
        let W : List (List Command) → Type 0 = λ ss. Whole boot ss entries in
        let K : List (List Command) → Type 0 = λ ss. KeepsRun (asking made faults never before after) order (record { boot = boot; scripts = ss; entries = entries }) in
        subst K ran.scripts_are
        (whole-ports (λ ports. KeepsRun ports order (record { boot = boot; scripts = scripts_of all; entries = entries }))
        (keeps-run made faults never boot all base ran.olds ran.news ran.rest order entries ran.here of_map areas sound are (subst W (sym ran.scripts_are) whole) (turned-where boot all order entries are turned)))

    -- what is recorded of them
    pub after-keeps : {E : Type 0} (order : Option (List ℕ)) (left : List (List Command)) (lists : List (List Entry)) (result : Result (Recorded × List PageRun) E) → BootMade boot → 0 < boot.areas → SoundCalls (state_in boot.ram) boot.calls → left ≡ scripts → lists ≡ lists_of all → ((turns : List ℕ) → order ≡ Some turns → TurnedBy boot all turns)
        → IfOk result (λ r. r.0.boot ≡ boot) → IfOk result (λ r. r.0.scripts ≡ left) → IfOk result (λ r. (cpu : ℕ) → entries_by cpu r.0.entries ≡ unwrap_or (slice_get lists cpu) []) → IfOk result (λ r. Whole boot left r.0.entries)
        → IfOk result (λ r. KeepsRun (asking made faults never before after) order r.0)
    after-keeps order left lists (Err e) of_map areas sound left_is lists_are turned same_boot same_scripts entries whole = tt
    after-keeps order left lists (Ok r) of_map areas sound left_is lists_are turned same_boot same_scripts entries whole =
        let W : List (List Command) → Type 0 = λ ss. Whole boot ss r.0.entries in
        let are : AreOf all r.0.entries = λ cpu. entries cpu ∙ ap (λ ls. unwrap_or (slice_get ls cpu) []) lists_are in
        subst (KeepsRun (asking made faults never before after) order) (same-run r.0 boot scripts same_boot (same_scripts ∙ left_is))
        (keeps-made order r.0.entries of_map areas sound are (subst W left_is whole) turned)

  -- the runs that are told are the final ones
  pub after-final : {E : Type 0} (boot : Boot) (before after : List P) (order : Option (List ℕ)) (result : Result (Recorded × List PageRun) E) → BootMade boot → IfOk result (λ r. r.0.boot ≡ boot) → IfOk result (λ r. KeepsRun (asking made faults never before after) order r.0)
      → IfOk result (λ r. AreMaximalRuns (page_state boot (calls_of boot r.0.entries)) r.1) → IfOk result (λ r. FinalRuns r.0 r.1)
  after-final boot before after order (Err e) of_map same keeps maximal = tt
  after-final boot before after order (Ok r) of_map same keeps maximal =
      let M : Boot → Type 0 = λ b. AreMaximalRuns (page_state b (calls_of b r.0.entries)) r.1 in
      let here = subst M (sym same) maximal in
      record {
        maximal = here;
        within = runs_within r.0.boot (calls_of r.0.boot r.0.entries) r.1 (subst BootMade (sym same) of_map) keeps.accepted_once.sound here;
      }

  -- what a run tells where memory ran out
  pub tells-halted : {E F : Type 0} (world : World) (scripts : List (List Command)) (order : Option (List ℕ)) (before mid after : List P) (all : List (Cpu P)) (ended : Result Places E) (boot : Boot) (result : Result (Recorded × List PageRun) F) → IsErr result → world.boot ≡ boot → HaveRun made faults never world scripts order before mid all ended → after ≡ ports_of all ++ reverse mid
      → Tells (asking made faults never before after) order boot scripts result
  tells-halted world scripts order before mid after all ended boot (Ok r) failed same run are = cc
  tells-halted {E} {F} world scripts order before mid after all ended boot (Err e) failed same run are =
      let ran = after-run world scripts order before mid after all ended run are in
      let T : Boot → Type 0 = λ b. Tells (asking made faults never before after) order b scripts (let halted : Result (Recorded × List PageRun) F = Err e in halted) in
      subst T same (record {
        boot_is = tt;
        scripts_are = tt;
        run = tt;
        final_runs = tt;
        halted = after-halts world.boot scripts before after (map (seen_by made faults) all) run.stood ran;
        kept = after-kept world.boot scripts before after (map (seen_by made faults) all) run.stood ran;
      })

  -- the processors left their scripts and their lists of entries
  pub have-finished : {E : Type 0} (world : World) (scripts : List (List Command)) (order : Option (List ℕ)) (before mid : List P) (all : List (Cpu P)) (places : Places) (boot : Boot) (left : List (List Command)) (lists : List (List Entry)) → world.boot ≡ boot
      → HaveRun made faults never world scripts order before mid all (let ended : Result Places E = Ok places in ended)
      → left ≡ map (λ c. (seen_by made faults c).script) all → lists ≡ map (λ c. entries_made (seen_by made faults c)) all
      → HaveFinished boot (map (seen_by made faults) all) (ground_at places) left lists
  have-finished world scripts order before mid all places boot left lists same run left_is lists_are =
      let T : Boot → Type 0 = λ b. Together b (map (seen_by made faults) all) (ground_at places) in
      let M : Ground → Type 0 = Together world.boot (map (seen_by made faults) all) in
      record {
        together = subst T same (subst M (sym run.ground_is) run.together);
        finished = run.finished;
        scripts_are = left_is ∙ sym (map-map (λ (c : Seen). c.script) (seen_by made faults) all);
        lists_are = lists_are ∙ sym (map-map (λ (c : Seen). entries_made c) (seen_by made faults) all);
      }

  -- what a run tells of which this is recorded
  pub tells-run : {E : Type 0} (world : World) (scripts : List (List Command)) (order : Option (List ℕ)) (before mid after : List P) (all : List (Cpu P)) (places : Places) (boot : Boot) (left : List (List Command)) (lists : List (List Entry)) (result : Result (Recorded × List PageRun) E) → world.boot ≡ boot
      → HaveRun made faults never world scripts order before mid all (let ended : Result Places E = Ok places in ended)
      → after ≡ ports_of all ++ reverse mid
      → left ≡ map (λ c. (seen_by made faults c).script) all → lists ≡ map (λ c. entries_made (seen_by made faults c)) all
      → IfOk result (λ r. r.0.boot ≡ boot) → IfOk result (λ r. r.0.scripts ≡ left) → IfOk result (λ r. (cpu : ℕ) → entries_by cpu r.0.entries ≡ unwrap_or (slice_get lists cpu) []) → IfOk result (λ r. Whole boot left r.0.entries)
      → IfOk result (λ r. AreMaximalRuns (page_state boot (calls_of boot r.0.entries)) r.1)
      → Tells (asking made faults never before after) order boot scripts result
  tells-run {E} world scripts order before mid after all places boot left lists (Err e) same run are left_is lists_are boot_is of_left entries whole maximal = tells-halted {F = E} world scripts order before mid after all _ boot (Err e) refl same run are
  tells-run {E} world scripts order before mid after all places boot left lists (Ok r) same run are left_is lists_are boot_is of_left entries whole maximal =
      let cs = map (seen_by made faults) all in
      let ran = after-run world scripts order before mid after all _ run are in
      let ran_on = subst (λ b. AfterRun b scripts before after cs run.stood) same ran in
      let S : Boot → Type 0 = λ b. SoundCalls (state_in b.ram) b.calls in
      let of_map = subst BootMade same run.begins.boot_made in
      let areas = subst (λ (b : Boot). 0 < b.areas) same run.begins.stands.areas.some in
      let scripts_left : left ≡ scripts = left_is ∙ sym (map-map (λ (c : Seen). c.script) (seen_by made faults) all) ∙ ran.scripts_are in
      let keeps = after-keeps boot scripts before after cs run.stood ran_on {E = E} order left lists (Ok r) of_map areas (subst S same run.begins.stands.sound) scripts_left (lists_are ∙ sym (map-map (λ (c : Seen). entries_made c) (seen_by made faults) all))
      (λ turns is. subst (λ b. TurnedBy b cs turns) same (run.turned turns is)) boot_is of_left entries whole in
      record {
        boot_is = boot_is;
        scripts_are = of_left ∙ scripts_left;
        run = keeps;
        final_runs = after-final {E = E} boot before after order (Ok r) of_map boot_is keeps maximal;
        halted = tt;
        kept = after-kept boot scripts before after cs run.stood ran_on;
      }
