use Rattle.std.specs.Prelude.{ℕ, List, [], Option, None, Some, ◌≡◌, map}
use Rattle.guest_base.specs.declared.memory.HostRun.{HostRun}
use Rattle.guest_base.specs.declared.memory.Pages.{Pages}
use Rattle.guest_base.specs.declared.memory.PageRun.{PageRun}
use Rattle.event_core.specs.declared.boot.Boot.{Boot}
use Rattle.event_core.specs.declared.boot.Descriptor.{Descriptor}
use Rattle.event_core.specs.Given.{first_by, EarlyBy}
use Rattle.event_core.specs.Runs.{AreMaximalRuns}
use Rattle.event_core.specs.Stub.{default_unit}
use Rattle.event_core.specs.Table.{Bits}
use Rattle.dma_map.specs.declared.pool.Layout.{Layout}
use Rattle.unaccepted_bitmap.specs.StubMap.{StubBitmap, pending_run}
use Rattle.guest_boot.specs.Placing.{slots_in, pool_in}

-- What boot makes of a map before its first call.

-- the recorded bitmap is this one; without one there are no bits
abbrev pub BitsOf : Boot → Option Bits → Type 0
BitsOf boot None = (boot.unit ≡ default_unit) × (boot.base ≡ 0) × (boot.bits ≡ [])
BitsOf boot (Some b) = (boot.unit ≡ b.unit) × (boot.base ≡ b.base) × (boot.bits ≡ b.bits)

-- a boot without calls, of RAM, a bitmap, a pool or none, and the host's records
pub record IsFirstBoot (hosts : List HostRun) (areas cpus : ℕ) (runs : List PageRun)
    (bits : Option Bits) (layout : Option Layout) (boot : Boot) : Type 0 where
  pub ram : boot.ram ≡ runs
  pub same_hosts : boot.hosts ≡ hosts
  pub bitmap : BitsOf boot bits
  pub same_cpus : boot.cpus ≡ cpus
  pub slots : boot.slots ≡ slots_in layout
  pub same_areas : boot.areas ≡ areas
  pub pool : boot.pool ≡ pool_in layout
  pub calls : boot.calls ≡ []

-- the bitmap is the table, or where none is given the boot stub's
abbrev pub BitmapBy : List Descriptor → Option Bits → Option Bits → Type 0
BitmapBy map None bits = StubBitmap map bits
BitmapBy map (Some table) bits = bits ≡ Some table

-- the pieces that are accepted at once, each with the state Pending
pub record EarlyRunsBy (descriptors : List Descriptor) (table : Option Bits) (runs : List PageRun) : Type 0 where
  pub pieces : List Pages
  pub early : EarlyBy descriptors table pieces
  pub are : runs ≡ map pending_run pieces

-- what boot begins with, of a map and the table where one is given: the runs of RAM, the bitmap and the pieces
pub record BeginsWith (map : List Descriptor) (table : Option Bits) (ram : List PageRun) (bits : Option Bits) (pieces : List PageRun) : Type 0 where
  pub maximal : AreMaximalRuns (first_by map table) ram
  pub bitmap : BitmapBy map table bits
  pub early : EarlyRunsBy map table pieces
