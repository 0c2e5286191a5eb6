use Rattle.std.specs.Prelude.{ℕ, List, Option, Result, IfErr, IfOk, OnOk, map}
use Rattle.std.specs.Option.{option_map}
use Rattle.guest_base.specs.declared.memory.CpuNo.{CpuNo}
use Rattle.guest_base.specs.declared.memory.PageRun.{PageRun}
use Rattle.event_core.specs.declared.boot.Recorded.{Recorded}
use Rattle.guest_words.specs.Words.{Named, cpus_in}
use Rattle.guest_input.specs.Asked.{all_names, Asks}
use Rattle.guest_input.specs.Files.{AreGood}
use Rattle.guest_input.specs.Reading.{Reading}
use Rattle.guest_input.specs.declared.stop.Stop.{Stop}
use Rattle.event_core.specs.Printed.{FinalRuns}
use Rattle.guest_runs.specs.Asking.{Asking, PortsKept}
use Rattle.guest_runs.specs.Recordings.{KeepsRun}
use Rattle.guest_run.specs.Booted.{BootedBy}
use Rattle.guest_run.specs.Stopping.{Stopped}

-- How a run of named files ends (own rule).

-- the numbers of the processors whose turns they are
abbrev pub numbers : List CpuNo → List ℕ
numbers order = map (λ (cpu : CpuNo). cpu.0) order

-- The run is of the named files, and keeps what every run keeps: by turns in the order of the order
-- file, where one is named.
pub record RunOf {P : Type 0} (holds : List ℕ → Option (List ℕ)) (ports : Asking P)
    (named : Named) (r : Recorded) : Type 0 where
  pub order : Option (List CpuNo)
  pub booted : BootedBy holds named order r.boot r.scripts
  pub keeps : KeepsRun ports (option_map numbers order) r

-- A run with its final runs of pages, all files being good and asked for; or why it stopped before
-- its text. As many ports come back, and those of no processor as they were.
pub record Ran {P : Type 0} (files : Reading) (ports : Asking P) (named : Named)
    (result : Result (Recorded × List PageRun) Stop) : Type 0 where
  pub good : OnOk result (AreGood files.holds named)
  pub run : IfOk result (λ r. RunOf files.holds ports named r.0)
  pub final_runs : IfOk result (λ r. FinalRuns r.0 r.1)
  pub asked : OnOk result (Asks (all_names named) files)
  pub stop : IfErr result (λ stop. Stopped files ports named stop)
  pub kept : PortsKept (cpus_in named) ports
