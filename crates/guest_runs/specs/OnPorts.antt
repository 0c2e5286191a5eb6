use Rattle.std.specs.Prelude.{ℕ, List, [], ◌∷◌, ◌++◌, Option, None, Some, Result, Vec, IfOk, OnOk, ◌≡◌, ◌+◌, length, map, reverse}
use Rattle.std.specs.declared.alloc.Global.{Global}
use Rattle.event_core.specs.declared.boot.Boot.{Boot}
use Rattle.event_core.specs.declared.command.Command.{Command}
use Rattle.event_core.specs.declared.entry.Entry.{Entry}
use Rattle.event_core.specs.declared.module_call.ModuleCall.{ModuleCall}
use Rattle.guest_steps.specs.Ground.{Ground, ground_of}
use Rattle.io_areas.specs.Value.{AreaValue}
use Rattle.memory_core.specs.Value.{MemoryValue}
use Rattle.guest_cpu.specs.declared.cpu.Cpu.{Cpu}
use Rattle.guest_boot.specs.declared.world.World.{World}
use Rattle.guest_steps.specs.Running.{AllFinished, AllStand, AtFirst, EachLater, TurnedBy}
use Rattle.guest_cpu.specs.Standing.{CpuStands, seen_by}
use Rattle.guest_steps.specs.Seen.{Seen, first_seen}
use Rattle.guest_steps.specs.Standing.{Together, lists_of, scripts_of}
use Rattle.guest_runs.specs.Beginning.{Begins}

-- Processors on ports (own rule).

-- the ports of processors
abbrev pub ports_of : {P : Type 0} → List (Cpu P) → List P
ports_of all = map (λ c. c.port) all

-- processors that have made no entry, with numbers from this one on: each with its script, and with
-- its port's calls and count of faults
abbrev pub first_on : {P : Type 0} → (P → List ModuleCall) → (P → ℕ) → Boot → ℕ
    → List (List Command) → List P → List Seen
first_on made faults boot number [] ports = []
first_on made faults boot number (script ∷ scripts) [] = []
first_on made faults boot number (script ∷ scripts) (port ∷ ports) =
    first_seen boot number script (made port) (faults port)
    ∷ first_on made faults boot (number + 1) scripts ports

-- the memory and the areas of a world
abbrev pub ground_in : World → Ground
ground_in world = ground_of world.memory world.areas.items

-- Processors of a booted world on the first of these ports, one for each script, before their first
-- entry: they stand before its memory and areas. The other ports are left in reverse order.
pub record HaveBegun {P : Type 0} (made : P → List ModuleCall) (faults room : P → ℕ)
    (world : World) (scripts : List (List Command)) (before left : List P)
    (all : List (Cpu P)) : Type 0 where
  pub before_is : before ≡ ports_of all ++ reverse left
  pub seen : map (seen_by made faults) all
      ≡ first_on made faults world.boot 0 scripts (ports_of all)
  pub count : length all ≡ length scripts
  pub first : AtFirst (map (seen_by made faults) all) (ground_in world)
  pub stand : AllStand (seen_by made faults) (CpuStands made faults room) world.memory.boot all
      (ground_in world)

-- A processor ran on a port, which has come back: it has made the processor's calls, all of which
-- are reported, and its count of faults is the processor's. If it never failed it never fails.
pub record RanOn {P : Type 0} (made : P → List ModuleCall) (faults : P → ℕ)
    (NeverFails : P → Type 0) (old : P) (c : Seen) (new : P) : Type 0 where
  pub made_before : c.made_before ≡ made old
  pub made_after : c.made ≡ made new
  pub faults_before : c.faults_before ≡ faults old
  pub faults_after : c.faults ≡ faults new
  pub never_fails : NeverFails old → NeverFails new
  pub reported : c.done ≡ None

-- so did each processor on its port
abbrev pub EachRan : {P : Type 0} → (P → List ModuleCall) → (P → ℕ) → (P → Type 0)
    → List P → List Seen → List P → Type 0
EachRan made faults NeverFails [] [] [] = Unit {0}
EachRan made faults NeverFails (old ∷ olds) (c ∷ all) (new ∷ news) =
    RanOn made faults NeverFails old c new × EachRan made faults NeverFails olds all news
EachRan made faults NeverFails _ _ _ = ⊥

-- Processors of a boot stand over its memory and areas, and all have finished. These are their
-- scripts and their entries.
pub record HaveFinished (boot : Boot) (all : List Seen) (base : Ground)
    (scripts : List (List Command)) (lists : List (List Entry)) : Type 0 where
  pub together : Together boot all base
  pub finished : AllFinished all
  pub scripts_are : scripts ≡ scripts_of all
  pub lists_are : lists ≡ lists_of all

-- the memory and the areas that a run leaves
abbrev pub Places : Type 0
Places = MemoryValue × Vec AreaValue Global

abbrev pub ground_at : Places → Ground
ground_at places = ground_of places.0 places.1.items

-- Processors ran on the first of these ports, from a booted world and with these scripts, in an
-- order of turns where there is one. They stand together; and where memory didn't run out all have
-- finished, over the memory and the areas that are left. The other ports are left in reverse order.
pub record HaveRun {P E : Type 0} (made : P → List ModuleCall) (faults : P → ℕ)
    (NeverFails : P → Type 0) (world : World) (scripts : List (List Command))
    (order : Option (List ℕ)) (before left : List P) (all : List (Cpu P))
    (ended : Result Places E) : Type 0 where
  pub begins : Begins made world scripts before
  pub olds : List (Cpu P)
  pub before_is : before ≡ ports_of olds ++ reverse left
  pub first : map (seen_by made faults) olds
      ≡ first_on made faults world.boot 0 scripts (ports_of olds)
  pub count : length olds ≡ length scripts
  pub later : EachLater (seen_by made faults) (λ c. NeverFails c.port) olds all
  pub stood : Ground
  pub ground_is : IfOk ended (λ places. ground_at places ≡ stood)
  pub together : Together world.boot (map (seen_by made faults) all) stood
  pub finished : OnOk ended (AllFinished (map (seen_by made faults) all))
  pub turned : (turns : List ℕ) → order ≡ Some turns
      → OnOk ended (TurnedBy world.boot (map (seen_by made faults) all) turns)
