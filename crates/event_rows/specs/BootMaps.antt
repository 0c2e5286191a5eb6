use Rattle.std.specs.Prelude.{List, [], ◌∷◌, Some}
use Rattle.guest_base.specs.declared.memory.Level.TheVariants.{Small, Large}
use Rattle.guest_base.specs.declared.memory.HostRun.{HostRun}
use Rattle.guest_base.specs.declared.memory.PageState.TheVariants.{Pending}
use Rattle.event_core.specs.declared.boot.Boot.{Boot}
use Rattle.event_core.specs.declared.boot.Descriptor.{Descriptor}
use Rattle.event_core.specs.declared.module_call.CallKind.TheVariants as kind
use Rattle.event_core.specs.declared.module_call.PortAnswer.TheVariants as answer
use Rattle.event_core.specs.declared.module_call.ModuleCall.{ModuleCall}

-- Maps with a pool, and what boot does with them.

-- 65 pages of conventional memory (UEFI memory type 7)
abbrev pub pool_map : List Descriptor
pool_map = record { kind = 7; start = 0; pages = 65 } ∷ []

-- 8 MiB of unaccepted memory (UEFI memory type 15), of which the host maps the first 2 MiB by pages of 4 KiB
abbrev pub small_pages_map : List Descriptor
small_pages_map = record { kind = 15; start = 4194304; pages = 2048 } ∷ []

abbrev pub small_pages : List HostRun
small_pages = record { pages = record { first = 1024; count = 512 }; level = Small } ∷ []

-- its guest with a pool of 64 pages, before any call
abbrev pub stopped_guest : Boot
stopped_guest = record {
  ram = record { pages = record { first = 1024; count = 2048 }; state = Pending } ∷ [];
  hosts = small_pages;
  base = 4194304;
  unit = 2097152;
  bits = 15 ∷ [];
  cpus = 1;
  slots = 128;
  areas = 1;
  pool = Some (record { first = 1024; count = 64 });
  calls = [];
}

-- the call for 2 MiB has the wrong size, the first page is accepted, and the second one fails
abbrev pub stopped_calls : List ModuleCall
stopped_calls =
    record { kind = kind.Accept; first = 1024; count = 512; level = Large; answer = answer.SizeMismatch }
    ∷ record { kind = kind.Accept; first = 1024; count = 1; level = Small; answer = answer.Ok }
    ∷ record { kind = kind.Accept; first = 1025; count = 1; level = Small; answer = answer.Failed }
    ∷ []
