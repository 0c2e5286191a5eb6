use Rattle.std.proofs.Common.{◌≡◌, ℕ, zero, suc, ◌+◌, ◌<◌, ◌≤◌, ◌⊎◌, List, [], ◌∷◌, ◌++◌, length, Option, None, Some, refl, sym, ◌∙◌, ap, subst, inl, inr, ⊎_elim, arith, append_assoc, append-nil, take}
use Rattle.std.specs.Prelude.{All, slice_get, unwrap_or}
use Rattle.std.proofs.lemmas.Bool.{cases_lt}
use Rattle.std.proofs.lemmas.List.{length_push, take_all, take_more}
use Rattle.std.proofs.lemmas.List.Elements.{All-nil, All-push}
use Rattle.std.proofs.lemmas.Option.{unwrap_or-slice_get}
use Rattle.guest_base.specs.declared.memory.CpuNo.{CpuNo}
use Rattle.guest_io.proofs.CountLemmas.{Rose-after}
use Rattle.event_core.specs.declared.command.Command.{Command}
use Rattle.guest_words.specs.Words.{Named, cpus_in}
use Rattle.guest_input.specs.declared.stop.InputFile.TheVariants.{Script}
use Rattle.guest_input.specs.declared.stop.Stop.{Stop}
use Rattle.guest_input.specs.declared.stop.Stop.TheVariants.{Refused, NotRead, PoolNoRoom, Module, NoMemory}
use Rattle.guest_input.specs.Asked.{Asks}
use Rattle.guest_input.specs.Causes.{cause_of, IsGood}
use Rattle.guest_input.specs.Files.{AreScriptsOf, IsEachOf, IsScriptOf}
use Rattle.guest_input.specs.Reading.{Reading}
use Rattle.block_laws.specs.Runnable.{IsRunnable}
use Rattle.guest_input.specs.Stops.{name_of}
use Rattle.guest_input.specs.Stopping.{AsksOne, AsksOneMore, StopsAt, StopsAtOne}
use Rattle.guest_input.proofs.InputLemmas.{good_again}

-- The scripts, read one after another.

-- the first scripts are read, and good: `files` is of all of them so far, and this is what the files hold now
pub record AreRead (files : Reading) (holds_now : List ℕ → Option (List ℕ)) (named : Named) (count : ℕ) (scripts : List (List Command)) : Type 0 where
  pub same : holds_now ≡ files.holds
  pub kept : files.faults_before ≤ files.faults_after
  pub asked : Asks (take count named.scripts) files
  pub as_many : length scripts ≡ count
  pub good : (cpu : CpuNo) → cpu.0 < count → IsGood files.holds named (Script cpu)
  pub each : IsEachOf files.holds named.scripts scripts
  pub runnable : All IsRunnable scripts

-- none is read yet
pub none_read : (holds : List ℕ → Option (List ℕ)) (asked : List (List ℕ)) (faults : ℕ) (named : Named) → AreRead (record { holds = holds; asked_before = asked; asked_after = asked; faults_before = faults; faults_after = faults }) holds named 0 []
none_read holds asked faults named = record {
  same = refl;
  kept = omega arith;
  asked = sym (append-nil asked);
  as_many = refl;
  good = λ cpu less. absurd (omega arith);
  each = λ cpu name script _ no. (let none : None ≡ Some script = no in cc);
  runnable = All-nil IsRunnable;
}

-- an item of a list that got one more
pushed : {A : Type 0} (xs : List A) (y x : A) (at : ℕ) → slice_get (xs ++ y ∷ []) at ≡ Some x → (slice_get xs at ≡ Some x) ⊎ ((at ≡ length xs) × (y ≡ x))
pushed [] y x zero h = inr (refl, let e : Some y ≡ Some x = h in cc)
pushed [] y x (suc at) h = let none : None ≡ Some x = h in cc
pushed (z ∷ xs) y x zero h = inl h
pushed (z ∷ xs) y x (suc at) h =
    elim (pushed xs y x at h) [
      | inl is ↦ inl is
      | inr last ↦ inr (ap suc last.0, last.1)
    ]

each_pushed : (holds : List ℕ → Option (List ℕ)) (names : List (List ℕ)) (scripts : List (List Command)) (script : List Command) → IsEachOf holds names scripts → IsScriptOf holds (unwrap_or (slice_get names (length scripts)) []) script → IsEachOf holds names (scripts ++ script ∷ [])
each_pushed holds names scripts script each last cpu name s named is =
    elim (pushed scripts script s cpu is) [
      | inl here ↦ each cpu name s named here
      | inr new ↦
          let e : unwrap_or (slice_get names (length scripts)) [] ≡ name = ap (λ n. unwrap_or (slice_get names n) []) (sym new.0) ∙ ap (λ o. unwrap_or o []) named in
          subst (λ n. IsScriptOf holds n s) e (subst (IsScriptOf holds (unwrap_or (slice_get names (length scripts)) [])) new.1 last)
    ]

-- one script more: `files` is of those before it, `now` of this one
pub one_more_read : (files now : Reading) (holds_now : List ℕ → Option (List ℕ)) (named : Named) (cpu : CpuNo) (scripts : List (List Command)) (script : List Command)
    → AreRead files now.holds named cpu.0 scripts → cpu.0 < cpus_in named → now.asked_before ≡ files.asked_after → now.faults_before ≡ files.faults_after
    → holds_now ≡ now.holds → now.faults_before ≤ now.faults_after → Asks (name_of named (Script cpu) ∷ []) now → IsGood now.holds named (Script cpu)
    → IsScriptOf now.holds (name_of named (Script cpu)) script → IsRunnable script
    → AreRead (record { holds = files.holds; asked_before = files.asked_before; asked_after = now.asked_after; faults_before = files.faults_before; faults_after = now.faults_after }) holds_now named (cpu.0 + 1) (scripts ++ script ∷ [])
one_more_read files now holds_now named cpu scripts script read within begins counts same kept asked good is runs = record {
  same = same ∙ read.same;
  kept = omega (arith, read.kept, kept, counts);
  asked =
      asked ∙ ap (λ x. x ++ name_of named (Script cpu) ∷ []) (begins ∙ read.asked)
      ∙ append_assoc files.asked_before (take cpu.0 named.scripts) (name_of named (Script cpu) ∷ [])
      ∙ ap (λ x. files.asked_before ++ x) (ap (λ name. take cpu.0 named.scripts ++ name ∷ []) (unwrap_or-slice_get named.scripts cpu.0 []) ∙ sym (take_more named.scripts cpu.0 [] within));
  as_many = length_push scripts script ∙ ap (λ n. n + 1) read.as_many;
  good = λ other less. ⊎_elim
      (λ (before : other.0 < cpu.0). read.good other before)
      (λ (past : cpu.0 ≤ other.0). subst (λ (c : CpuNo). IsGood files.holds named (Script c)) (same_cpu cpu other (omega (arith, past, less))) (good_again files.holds now.holds named (Script cpu) read.same good))
      (cases_lt other.0 cpu.0);
  each = each_pushed files.holds named.scripts scripts script read.each
      (subst (λ n. IsScriptOf files.holds (unwrap_or (slice_get named.scripts n) []) script) (sym read.as_many) (subst (λ (h : List ℕ → Option (List ℕ)). IsScriptOf h (name_of named (Script cpu)) script) read.same is));
  runnable = All-push IsRunnable scripts script read.runnable runs;
}
  where
    same_cpu : (a b : CpuNo) → a.0 ≡ b.0 → a ≡ b
    same_cpu a b e = λ i. record { 0 = e i }

-- a stop at a script behind those that are read
pub stopped_behind : (files now : Reading) (named : Named) (cpu : CpuNo) (scripts : List (List Command)) (stop : Stop)
    → AreRead files now.holds named cpu.0 scripts → cpu.0 < cpus_in named → now.asked_before ≡ files.asked_after → now.faults_before ≡ files.faults_after
    → StopsAt now named (Script cpu) stop → AsksOne (name_of named (Script cpu)) now stop
    → StopsAtOne (record { holds = files.holds; asked_before = files.asked_before; asked_after = now.asked_after; faults_before = files.faults_before; faults_after = now.faults_after }) named stop
stopped_behind files now named cpu scripts stop read within begins counts stops asks = (
  cpu,
  record {
    is_named = within;
    own = own_of stop stops;
    before = read.good;
    asks = asks_of_all stop asks;
  },
)
  where
    own_of : (stop : Stop) → StopsAt now named (Script cpu) stop → StopsAt (record { holds = files.holds; asked_before = files.asked_before; asked_after = now.asked_after; faults_before = files.faults_before; faults_after = now.faults_after }) named (Script cpu) stop
    own_of (Refused at cause) s = (s.0, subst (λ (h : List ℕ → Option (List ℕ)). (bytes : List ℕ) → h (name_of named (Script cpu)) ≡ Some bytes → cause_of (cpus_in named) (Script cpu) bytes ≡ Some cause) read.same s.1)
    own_of (NotRead at) s = (s.0, Rose-after files.faults_before now.faults_before now.faults_after (omega (arith, read.kept, counts)) s.1)
    own_of PoolNoRoom s = absurd s
    own_of Module s = absurd s
    own_of NoMemory s = tt

    more : now.asked_after ≡ now.asked_before ++ name_of named (Script cpu) ∷ [] → now.asked_after ≡ files.asked_before ++ (take cpu.0 named.scripts ++ name_of named (Script cpu) ∷ [])
    more a = a ∙ ap (λ x. x ++ name_of named (Script cpu) ∷ []) (begins ∙ read.asked) ∙ append_assoc files.asked_before (take cpu.0 named.scripts) (name_of named (Script cpu) ∷ [])

    asks_of_all : (stop : Stop) → AsksOne (name_of named (Script cpu)) now stop → AsksOneMore (take cpu.0 named.scripts) (name_of named (Script cpu)) (record { holds = files.holds; asked_before = files.asked_before; asked_after = now.asked_after; faults_before = files.faults_before; faults_after = now.faults_after }) stop
    asks_of_all (Refused at cause) a = more a
    asks_of_all (NotRead at) a = more a
    asks_of_all PoolNoRoom a = more a
    asks_of_all Module a = more a
    asks_of_all NoMemory (inl a) = inl (more a)
    asks_of_all NoMemory (inr a) = inr (a ∙ append-nil now.asked_before ∙ begins ∙ read.asked)

-- all scripts are read
pub are_scripts : (files : Reading) (holds_now : List ℕ → Option (List ℕ)) (named : Named) (count : ℕ) (scripts : List (List Command)) → AreRead files holds_now named count scripts → count ≡ cpus_in named → AreScriptsOf files.holds named scripts
are_scripts files holds_now named count scripts read all = record { as_many = read.as_many ∙ all; each = read.each }

pub all_asked : (files : Reading) (holds_now : List ℕ → Option (List ℕ)) (named : Named) (count : ℕ) (scripts : List (List Command)) → AreRead files holds_now named count scripts → count ≡ cpus_in named → files.asked_after ≡ files.asked_before ++ named.scripts
all_asked files holds_now named count scripts read all =
    read.asked ∙ ap (λ x. files.asked_before ++ x) (ap (λ n. take n named.scripts) all ∙ take_all (length named.scripts) named.scripts (omega arith))
