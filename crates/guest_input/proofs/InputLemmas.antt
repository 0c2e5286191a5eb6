use Rattle.std.proofs.Common.{◌≡◌, ℕ, ◌+◌, ◌<◌, ◌≤◌, cond, nat_lt, List, [], ◌∷◌, ◌++◌, length, Option, None, Some, Result, Ok, Err, refl, sym, ◌∙◌, ap, subst, inl, inr, ⊎_elim, arith, append_assoc, take, drop}
use Rattle.std.specs.Prelude.{IsErrAnd, IfErr, IsSome, unwrap_or, slice_get}
use Rattle.std.specs.Option.{option_and_then, option_map, option_or, option_to_list}
use Rattle.std.proofs.lemmas.Bool.{cases_Bool, cases_lt}
use Rattle.std.proofs.lemmas.Bool.Decides.{nat_tests}
use Rattle.std.proofs.lemmas.List.{take_all, take_at, take_more, take-append-drop}
use Rattle.std.proofs.lemmas.Option.{slice_get_past, unwrap_or-slice_get}
use Rattle.guest_base.specs.Counts.{Rose}
use Rattle.guest_base.specs.declared.memory.CpuNo.{CpuNo}
use Rattle.guest_io.proofs.CountLemmas.{Rose-after}
use Rattle.guest_map.specs.declared.map.GuestMap.{GuestMap}
use Rattle.guest_input.specs.declared.stop.Cause.{Cause}
use Rattle.event_core.specs.declared.boot.Descriptor.{Descriptor}
use Rattle.event_core.specs.declared.command.Command.{Command}
use Rattle.event_core.specs.Table.{Bits, FitsTable}
use Rattle.unaccepted_bitmap.specs.TableFile.{table_of}
use Rattle.guest_input.specs.declared.stop.Cause.TheVariants.{TooLong, BadBit}
use Rattle.guest_input.specs.declared.stop.InputFile.{InputFile}
use Rattle.guest_input.specs.declared.stop.InputFile.TheVariants.{Order, Map, Table, Script}
use Rattle.guest_input.specs.declared.stop.Stop.{Stop}
use Rattle.guest_input.specs.declared.stop.Stop.TheVariants.{Refused, NotRead, PoolNoRoom, Module, NoMemory}
use Rattle.guest_input.specs.Causes.{limit_of, content_cause, cause_of, cause_by, fit_cause, table_cause, HasCause, IsGood, IsMapOf, OfEachBefore}
use Rattle.guest_input.specs.Asked.{all_names, names_to, names_to_table, Asks, AsksFront}
use Rattle.guest_input.specs.Files.{AreGood, AreScriptsOf, IsTableOf}
use Rattle.guest_input.specs.Reading.{Reading}
use Rattle.guest_input.specs.Stopping.{AsksOne, AsksOneMore, content_by, FindsBy, StopsAt, StopsAtOne, StopsBy, StopsAtTable, StopsReading}
use Rattle.guest_input.specs.Stops.{name_of, IsNamed}
use Rattle.guest_words.specs.Words.{Named, cpus_in}

-- ---- one file

-- within its limit a file is refused for its content alone
within_limit : (cpus : ℕ) (file : InputFile) (bytes : List ℕ) → length bytes ≤ limit_of file → cause_of cpus file bytes ≡ content_cause cpus file bytes
within_limit cpus file bytes within =
    elim (cases_Bool (nat_lt (limit_of file) (length bytes))) [
      | inl t ↦ absurd (grind (arith, nat_tests, t, within))
      | inr f ↦ ap (λ b. cond b (Some TooLong) (content_cause cpus file bytes)) f
    ]

-- beyond it, it is too long
pub too_long : (cpus : ℕ) (file : InputFile) (bytes : List ℕ) → limit_of file < length bytes → cause_of cpus file bytes ≡ Some TooLong
too_long cpus file bytes over =
    elim (cases_Bool (nat_lt (limit_of file) (length bytes))) [
      | inl t ↦ ap (λ b. cond b (Some TooLong) (content_cause cpus file bytes)) t
      | inr f ↦ absurd (grind (arith, nat_tests, f, over))
    ]

-- bytes that were read whole
abbrev pub IsWhole : (List ℕ → Option (List ℕ)) → List ℕ → List ℕ → Type 0
IsWhole holds name bytes = (content : List ℕ) → holds name ≡ Some content → bytes ≡ content

known_cause : (holds : List ℕ → Option (List ℕ)) (named : Named) (file : InputFile) (bytes : List ℕ) (cause : Option Cause) → IsWhole holds (name_of named file) bytes → length bytes ≤ limit_of file → content_cause (cpus_in named) file bytes ≡ cause → (content : List ℕ) → holds (name_of named file) ≡ Some content → cause_of (cpus_in named) file content ≡ cause
known_cause holds named file bytes cause whole within is content told =
    sym (ap (cause_of (cpus_in named) file) (whole content told)) ∙ within_limit (cpus_in named) file bytes within ∙ is

-- a file that was read and found good
pub good_of : (holds : List ℕ → Option (List ℕ)) (named : Named) (file : InputFile) (bytes seen : List ℕ) → seen ≡ bytes → IsWhole holds (name_of named file) bytes → length bytes ≤ limit_of file → content_cause (cpus_in named) file seen ≡ None → (content : List ℕ) → holds (name_of named file) ≡ Some content → cause_of (cpus_in named) file content ≡ None
good_of holds named file bytes seen same whole within is = known_cause holds named file bytes None whole within (sym (ap (content_cause (cpus_in named) file) same) ∙ is)

-- the contents of a file that may be named are those of its name
held_name : (holds : List ℕ → Option (List ℕ)) (name : Option (List ℕ)) (content : List ℕ) → option_and_then holds name ≡ Some content → holds (unwrap_or name []) ≡ Some content
held_name holds None content h = cc
held_name holds (Some name) content h = h

pub good_order : (holds : List ℕ → Option (List ℕ)) (named : Named) (bytes seen : List ℕ) → seen ≡ bytes → IsWhole holds (name_of named Order) bytes → length bytes ≤ limit_of Order → content_cause (cpus_in named) Order seen ≡ None → IsGood holds named Order
good_order holds named bytes seen same whole within is content told = good_of holds named Order bytes seen same whole within is content (held_name holds named.order content told)

pub good_map : (holds : List ℕ → Option (List ℕ)) (named : Named) (bytes seen : List ℕ) → seen ≡ bytes → IsWhole holds (name_of named Map) bytes → length bytes ≤ limit_of Map → content_cause (cpus_in named) Map seen ≡ None → IsGood holds named Map
good_map holds named bytes seen same whole within is = good_of holds named Map bytes seen same whole within is

pub good_script : (holds : List ℕ → Option (List ℕ)) (named : Named) (cpu : CpuNo) (bytes seen : List ℕ) → seen ≡ bytes → IsWhole holds (name_of named (Script cpu)) bytes → length bytes ≤ limit_of (Script cpu) → content_cause (cpus_in named) (Script cpu) seen ≡ None → IsGood holds named (Script cpu)
good_script holds named cpu bytes seen same whole within is content told = good_of holds named (Script cpu) bytes seen same whole within is content (held_name holds (slice_get named.scripts cpu.0) content told)

-- an order that isn't named isn't bad
pub no_order : (holds : List ℕ → Option (List ℕ)) (named : Named) → named.order ≡ None → IsGood holds named Order
no_order holds named none bytes told = let no : None ≡ Some bytes = sym (ap (option_and_then holds) none) ∙ told in cc

-- a file that was read and refused
pub stops_of : (files : Reading) (named : Named) (file : InputFile) (bytes seen : List ℕ) (stop : Stop) → seen ≡ bytes → IsWhole files.holds (name_of named file) bytes → length bytes ≤ limit_of file → FindsBy file (content_cause (cpus_in named) file seen) stop → StopsAt files named file stop
stops_of files named file bytes seen (Refused at cause) same whole within found =
    (found.0, known_cause files.holds named file bytes (Some cause) whole within (sym (ap (content_cause (cpus_in named) file) same) ∙ found.1))
stops_of files named file bytes seen (NotRead at) same whole within found = absurd found
stops_of files named file bytes seen PoolNoRoom same whole within found = absurd found
stops_of files named file bytes seen Module same whole within found = absurd found
stops_of files named file bytes seen NoMemory same whole within found = tt

-- ---- a table

-- within its limit a table is refused for its content, by the map
within_table : (cpus : ℕ) (map : List Descriptor) (bytes : List ℕ) → length bytes ≤ limit_of Table → cause_by cpus map bytes ≡ content_by map bytes
within_table cpus map bytes within = ap (λ c. option_or c (fit_cause map (table_of bytes))) (within_limit cpus Table bytes within)

known_table : (map : List Descriptor) (holds : List ℕ → Option (List ℕ)) (named : Named) (bytes : List ℕ) (cause : Option Cause) → IsWhole holds (name_of named Table) bytes → length bytes ≤ limit_of Table → content_by map bytes ≡ cause → (content : List ℕ) → holds (name_of named Table) ≡ Some content → cause_by (cpus_in named) map content ≡ cause
known_table map holds named bytes cause whole within is content told = sym (ap (cause_by (cpus_in named) map) (whole content told)) ∙ within_table (cpus_in named) map bytes within ∙ is

pub table_stops : (map : List Descriptor) (files : Reading) (named : Named) (bytes seen : List ℕ) (stop : Stop) → seen ≡ bytes → IsWhole files.holds (name_of named Table) bytes → length bytes ≤ limit_of Table → FindsBy Table (content_by map seen) stop → StopsAtTable map files named stop
table_stops map files named bytes seen (Refused at cause) same whole within found =
    (found.0, known_table map files.holds named bytes (Some cause) whole within (sym (ap (content_by map) same) ∙ found.1))
table_stops map files named bytes seen (NotRead at) same whole within found = absurd found
table_stops map files named bytes seen PoolNoRoom same whole within found = absurd found
table_stops map files named bytes seen Module same whole within found = absurd found
table_stops map files named bytes seen NoMemory same whole within found = tt

-- bytes that are refused by themselves are so by each map
pub table_stops_of : (map : List Descriptor) (files : Reading) (named : Named) (stop : Stop) → StopsAt files named Table stop → StopsAtTable map files named stop
table_stops_of map files named (Refused at cause) stops = (stops.0, λ bytes told. ap (λ c. option_or c (fit_cause map (table_of bytes))) (stops.1 bytes told))
table_stops_of map files named (NotRead at) stops = stops
table_stops_of map files named PoolNoRoom stops = stops
table_stops_of map files named Module stops = stops
table_stops_of map files named NoMemory stops = stops

-- a table that is read and fits is good
fitting_cause : (cpus : ℕ) (map : List Descriptor) (bytes : List ℕ) (table : Bits) → length bytes ≤ limit_of Table → table_of bytes ≡ Ok table → FitsTable map table → cause_by cpus map bytes ≡ None
fitting_cause cpus map bytes table within is fits =
    within_table cpus map bytes within
    ∙ ap (λ r. option_or (table_cause r) (fit_cause map r)) is
    ∙ ap (option_map BadBit) fits.none_bad

abbrev IsShort : (List ℕ → Option (List ℕ)) → List ℕ → Type 0
IsShort holds name = (bytes : List ℕ) → holds name ≡ Some bytes → length bytes ≤ limit_of Table

abbrev Holds : (List ℕ → Option (List ℕ)) → List ℕ → Bits → Type 0
Holds holds name table = (bytes : List ℕ) → holds name ≡ Some bytes → table_of bytes ≡ Ok table

pub good_table : (holds : List ℕ → Option (List ℕ)) (named : Named) (map : GuestMap) (table : Bits) → IsShort holds (name_of named Table) → Holds holds (name_of named Table) table → FitsTable map.descriptors table → IsMapOf holds named map → IsGood holds named Table
good_table holds named map table short is fits is_map =
    (map, is_map, λ bytes told. (let here = held_name holds named.table bytes told in fitting_cause (cpus_in named) map.descriptors bytes table (short bytes here) (is bytes here) fits))

-- without a name there is no table to be bad
pub no_table : (holds : List ℕ → Option (List ℕ)) (named : Named) (map : GuestMap) → named.table ≡ None → IsMapOf holds named map → IsGood holds named Table
no_table holds named map none is_map =
    (map, is_map, λ bytes told. (let no : None ≡ Some bytes = sym (ap (option_and_then holds) none) ∙ told in cc))

-- its name was asked for
pub asks_of : (name : List ℕ) (files : Reading) (stop : Stop) → Asks (name ∷ []) files → AsksOne name files stop
asks_of name files (Refused at cause) is = is
asks_of name files (NotRead at) is = is
asks_of name files PoolNoRoom is = is
asks_of name files Module is = is
asks_of name files NoMemory is = inl is

-- ---- the names

abbrev names_before : Named → InputFile → List (List ℕ)
names_before named Order = []
names_before named Map = option_to_list named.order
names_before named Table = option_to_list named.order ++ named.map ∷ []
names_before named (Script cpu) = names_to_table named ++ take cpu.0 named.scripts

one_name : (name : Option (List ℕ)) → IsSome name → option_to_list name ≡ unwrap_or name [] ∷ []
one_name None is = cc
one_name (Some name) is = refl

one_more : (named : Named) (file : InputFile) → IsNamed named file → names_to named file ≡ names_before named file ++ name_of named file ∷ []
one_more named Order is = one_name named.order is
one_more named Map is = refl
one_more named Table is =
    ap (λ names. option_to_list named.order ++ named.map ∷ names) (one_name named.table is)
    ∙ sym (append_assoc (option_to_list named.order) (named.map ∷ []) (unwrap_or named.table [] ∷ []))
one_more named (Script cpu) is =
    ap (λ names. names_to_table named ++ names) (take_more named.scripts cpu.0 [] is ∙ ap (λ name. take cpu.0 named.scripts ++ name ∷ []) (sym (unwrap_or-slice_get named.scripts cpu.0 [])))
    ∙ sym (append_assoc (names_to_table named) (take cpu.0 named.scripts) (name_of named (Script cpu) ∷ []))

asked_to : (named : Named) (file : InputFile) (first before names after : List (List ℕ)) → IsNamed named file → before ++ names ≡ first ++ names_before named file → after ≡ before ++ (names ++ name_of named file ∷ []) → after ≡ first ++ names_to named file
asked_to named file first before names after here were is =
    is ∙ sym (append_assoc before names (name_of named file ∷ [])) ∙ ap (λ b. b ++ name_of named file ∷ []) were
    ∙ append_assoc first (names_before named file) (name_of named file ∷ []) ∙ ap (λ all. first ++ all) (sym (one_more named file here))

-- names that stand at the front of all
abbrev IsFront : List (List ℕ) → Named → Type 0
IsFront names named = (count : ℕ) × (names ≡ take count (all_names named))

front_of : (named : Named) (names rest : List (List ℕ)) → all_names named ≡ names ++ rest → IsFront names named
front_of named names rest is = (length names, sym (ap (take (length names)) is ∙ take_at names rest (length names) refl))

front_order : (named : Named) → IsFront (option_to_list named.order) named
front_order named = front_of named (option_to_list named.order) ((named.map ∷ option_to_list named.table) ++ named.scripts) (append_assoc (option_to_list named.order) (named.map ∷ option_to_list named.table) named.scripts)

front_map : (named : Named) → IsFront (option_to_list named.order ++ named.map ∷ []) named
front_map named =
    front_of named (option_to_list named.order ++ named.map ∷ []) (option_to_list named.table ++ named.scripts)
    (append_assoc (option_to_list named.order) (named.map ∷ option_to_list named.table) named.scripts
    ∙ sym (append_assoc (option_to_list named.order) (named.map ∷ []) (option_to_list named.table ++ named.scripts)))

front_scripts : (named : Named) (count : ℕ) → IsFront (names_to_table named ++ take count named.scripts) named
front_scripts named count =
    front_of named (names_to_table named ++ take count named.scripts) (drop count named.scripts)
    (ap (λ names. names_to_table named ++ names) (sym (take-append-drop count named.scripts))
    ∙ sym (append_assoc (names_to_table named) (take count named.scripts) (drop count named.scripts)))

pub front_to : (named : Named) (file : InputFile) → (count : ℕ) × (names_to named file ≡ take count (all_names named))
front_to named Order = front_order named
front_to named Map = front_map named
front_to named Table = front_of named (names_to_table named) named.scripts refl
front_to named (Script cpu) = front_scripts named (cpu.0 + 1)

front_before : (named : Named) (file : InputFile) → IsFront (names_before named file) named
front_before named Order = (0, refl)
front_before named Map = front_order named
front_before named Table = front_map named
front_before named (Script cpu) = front_scripts named cpu.0

-- all names were asked for
pub asks_all : (named : Named) (files : Reading) → Asks (all_names named) files → AsksFront (all_names named) files
asks_all named files is = (length (all_names named), is ∙ ap (λ names. files.asked_before ++ names) (sym (take_all (length (all_names named)) (all_names named) (omega arith))))

-- the names of two files, of three, and of all
pub asked_two : (named : Named) (first a b : List (List ℕ)) → a ≡ first ++ option_to_list named.order → b ≡ a ++ named.map ∷ [] → b ≡ first ++ (option_to_list named.order ++ named.map ∷ [])
asked_two named first a b one two = two ∙ ap (λ x. x ++ named.map ∷ []) one ∙ append_assoc first (option_to_list named.order) (named.map ∷ [])

pub asked_three : (named : Named) (first a b c : List (List ℕ)) → a ≡ first ++ option_to_list named.order → b ≡ a ++ named.map ∷ [] → c ≡ b ++ option_to_list named.table → c ≡ first ++ names_to_table named
asked_three named first a b c one two three =
    three ∙ ap (λ x. x ++ option_to_list named.table) (asked_two named first a b one two)
    ∙ append_assoc first (option_to_list named.order ++ named.map ∷ []) (option_to_list named.table)
    ∙ ap (λ x. first ++ x) (append_assoc (option_to_list named.order) (named.map ∷ []) (option_to_list named.table))

pub asked_all : (named : Named) (first a b c d : List (List ℕ)) → a ≡ first ++ option_to_list named.order → b ≡ a ++ named.map ∷ [] → c ≡ b ++ option_to_list named.table → d ≡ c ++ named.scripts → d ≡ first ++ all_names named
asked_all named first a b c d one two three four =
    four ∙ ap (λ x. x ++ named.scripts) (asked_three named first a b c one two three) ∙ append_assoc first (names_to_table named) named.scripts

-- ---- a stop

-- why a file is refused, wherever its contents are known
abbrev pub Judges : (List ℕ → Option Cause) → (List ℕ → Option (List ℕ)) → Named → InputFile → Type 0
Judges causes holds named file =
    (cause : Cause) → ((bytes : List ℕ) → holds (name_of named file) ≡ Some bytes → causes bytes ≡ Some cause) → HasCause holds named file (Some cause)

pub judges_order : (holds : List ℕ → Option (List ℕ)) (named : Named) → Judges (cause_of (cpus_in named) Order) holds named Order
judges_order holds named cause own bytes told = own bytes (held_name holds named.order bytes told)

pub judges_table : (holds : List ℕ → Option (List ℕ)) (named : Named) (map : GuestMap) → IsMapOf holds named map → Judges (cause_by (cpus_in named) map.descriptors) holds named Table
judges_table holds named map is_map cause own = (map, is_map, λ bytes told. own bytes (held_name holds named.table bytes told))

judges_script : (holds : List ℕ → Option (List ℕ)) (named : Named) (cpu : CpuNo) → Judges (cause_of (cpus_in named) (Script cpu)) holds named (Script cpu)
judges_script holds named cpu cause own bytes told = own bytes (held_name holds (slice_get named.scripts cpu.0) bytes told)

-- a stop at a file, all files before it being read and good: `now` is of the last files, of which these names were asked for before
-- this one, and `files` of all up to it
pub stopped_at : (files now : Reading) (named : Named) (file : InputFile) (causes : List ℕ → Option Cause) (names : List (List ℕ)) (stop : Stop)
    → now.holds ≡ files.holds → files.faults_before ≤ now.faults_before → now.faults_after ≡ files.faults_after → now.asked_after ≡ files.asked_after
    → now.asked_before ++ names ≡ files.asked_before ++ names_before named file → IsNamed named file → Judges causes files.holds named file → OfEachBefore (IsGood files.holds named) file
    → StopsBy causes now named file stop → AsksOneMore names (name_of named file) now stop → StopsReading files named stop
stopped_at files now named file causes names (Refused at cause) same kept last till were here judges good stops asks =
    let own : (bytes : List ℕ) → files.holds (name_of named file) ≡ Some bytes → causes bytes ≡ Some cause = subst (λ (h : List ℕ → Option (List ℕ)). (bytes : List ℕ) → h (name_of named file) ≡ Some bytes → causes bytes ≡ Some cause) same stops.1 in
    let S : InputFile → Type 0 = λ at. StopsReading files named (Refused at cause) in
    subst S (sym stops.0) (record {
      refused = record { is_named = here; own = judges cause own; before = good };
      asked = sym till ∙ asked_to named file files.asked_before now.asked_before names now.asked_after here were asks;
    })
stopped_at files now named file causes names (NotRead at) same kept last till were here judges good stops asks =
    let S : InputFile → Type 0 = λ at. StopsReading files named (NotRead at) in
    subst S (sym stops.0) (record {
      is_named = here;
      rose = subst (λ n. Rose files.faults_before n) last (Rose-after files.faults_before now.faults_before now.faults_after kept stops.1);
      asked = sym till ∙ asked_to named file files.asked_before now.asked_before names now.asked_after here were asks;
      before = good;
    })
stopped_at files now named file causes names PoolNoRoom same kept last till were here judges good stops asks = absurd stops
stopped_at files now named file causes names Module same kept last till were here judges good stops asks = absurd stops
stopped_at files now named file causes names NoMemory same kept last till were here judges good stops (inl is) =
    let front = front_to named file in
    (front.0, sym till ∙ asked_to named file files.asked_before now.asked_before names now.asked_after here were is ∙ ap (λ all. files.asked_before ++ all) front.1)
stopped_at files now named file causes names NoMemory same kept last till were here judges good stops (inr is) =
    let front = front_before named file in
    (front.0, sym till ∙ is ∙ were ∙ ap (λ all. files.asked_before ++ all) front.1)

-- the files before one
pub before_order : (P : InputFile → Type 0) → OfEachBefore P Order
before_order P file less = absurd (omega arith)

pub before_map : (P : InputFile → Type 0) → P Order → OfEachBefore P Map
before_map P order Order less = order
before_map P order Map less = absurd (omega arith)
before_map P order Table less = absurd (omega arith)
before_map P order (Script cpu) less = absurd (omega arith)

pub before_table : (P : InputFile → Type 0) → P Order → P Map → OfEachBefore P Table
before_table P order map Order less = order
before_table P order map Map less = map
before_table P order map Table less = absurd (omega arith)
before_table P order map (Script cpu) less = absurd (omega arith)

before_script : (P : InputFile → Type 0) (cpu : CpuNo) → P Order → P Map → P Table → ((earlier : CpuNo) → earlier.0 < cpu.0 → P (Script earlier)) → OfEachBefore P (Script cpu)
before_script P cpu order map table scripts Order less = order
before_script P cpu order map table scripts Map less = map
before_script P cpu order map table scripts Table less = table
before_script P cpu order map table scripts (Script earlier) less = scripts earlier (omega (arith, less))

-- a file's state is that of the files before and after
pub good_again : (holds holds_now : List ℕ → Option (List ℕ)) (named : Named) (file : InputFile) → holds_now ≡ holds → IsGood holds_now named file → IsGood holds named file
good_again holds holds_now named file same good = subst (λ (h : List ℕ → Option (List ℕ)). IsGood h named file) same good

-- a stop at one of the scripts, the files before them being good
pub stopped_at_one : (files now : Reading) (named : Named) (stop : Stop)
    → now.holds ≡ files.holds → files.faults_before ≤ now.faults_before → now.faults_after ≡ files.faults_after → now.asked_after ≡ files.asked_after
    → now.asked_before ≡ files.asked_before ++ names_to_table named → IsGood files.holds named Order → IsGood files.holds named Map → IsGood files.holds named Table
    → StopsAtOne now named stop → StopsReading files named stop
stopped_at_one files now named stop same kept last till were order map table one =
    let cpu : CpuNo = one.0 in
    let at = one.1 in
    stopped_at files now named (Script cpu) (cause_of (cpus_in named) (Script cpu)) (take cpu.0 named.scripts) stop same kept last till
    (ap (λ x. x ++ take cpu.0 named.scripts) were ∙ append_assoc files.asked_before (names_to_table named) (take cpu.0 named.scripts))
    at.is_named (judges_script files.holds named cpu)
    (before_script (IsGood files.holds named) cpu order map table (λ earlier less. good_again files.holds now.holds named (Script earlier) same (at.before earlier less)))
    at.own at.asks

-- the error that a `?` returns
pub err-is : {T E : Type 0} (r : Result T E) (e : E) (P : E → Type 0) → IsErrAnd r (λ y. y ≡ e) → P e → IfErr r P
err-is (Ok x) e P is p = tt
err-is (Err y) e P is p = subst P (sym is) p

-- ---- all files

-- the map, the table and the scripts are those of the files before and after
pub map_again : (holds holds_now : List ℕ → Option (List ℕ)) (named : Named) (map : GuestMap) → holds_now ≡ holds → IsMapOf holds_now named map → IsMapOf holds named map
map_again holds holds_now named map same is = subst (λ (h : List ℕ → Option (List ℕ)). IsMapOf h named map) same is

pub table_again : (holds holds_now : List ℕ → Option (List ℕ)) (name : Option (List ℕ)) (table : Option Bits) → holds_now ≡ holds → IsTableOf holds_now name table → IsTableOf holds name table
table_again holds holds_now name table same is = subst (λ (h : List ℕ → Option (List ℕ)). IsTableOf h name table) same is

pub scripts_again : (holds holds_now : List ℕ → Option (List ℕ)) (named : Named) (scripts : List (List Command)) → holds_now ≡ holds → AreScriptsOf holds_now named scripts → AreScriptsOf holds named scripts
scripts_again holds holds_now named scripts same are = subst (λ (h : List ℕ → Option (List ℕ)). AreScriptsOf h named scripts) same are

-- a script behind the last isn't bad
beyond_good : (holds : List ℕ → Option (List ℕ)) (named : Named) (cpu : CpuNo) → length named.scripts ≤ cpu.0 → IsGood holds named (Script cpu)
beyond_good holds named cpu past bytes told = let no : None ≡ Some bytes = sym (ap (option_and_then holds) (slice_get_past named.scripts cpu.0 past)) ∙ told in cc

-- all files are good
pub all_good : (holds : List ℕ → Option (List ℕ)) (named : Named) → IsGood holds named Order → IsGood holds named Map → IsGood holds named Table → ((cpu : CpuNo) → cpu.0 < cpus_in named → IsGood holds named (Script cpu)) → AreGood holds named
all_good holds named order map table scripts Order = order
all_good holds named order map table scripts Map = map
all_good holds named order map table scripts Table = table
all_good holds named order map table scripts (Script cpu) =
    ⊎_elim
    (λ (within : cpu.0 < length named.scripts). scripts cpu within)
    (λ (past : length named.scripts ≤ cpu.0). beyond_good holds named cpu past)
    (cases_lt cpu.0 (length named.scripts))
