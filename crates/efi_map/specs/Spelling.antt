-- The map file of a map, with descriptors of 40 bytes.
use Rattle.std.specs.Prelude.{ℕ, ◌*◌, List, ◌++◌, length, ◌≤◌}
use Rattle.std.specs.List.{flat_map}
use Rattle.guest_base.specs.declared.limits.TheConstants.{PAGE_BYTES, MAX_DESCRIPTORS, MAX_HOSTS}
use Rattle.guest_base.specs.declared.memory.Level.{Level}
use Rattle.guest_base.specs.declared.memory.Level.TheVariants.{Small, Large, Huge}
use Rattle.guest_base.specs.declared.memory.HostRun.{HostRun}
use Rattle.event_core.specs.declared.boot.Descriptor.{Descriptor}
use Rattle.event_core.specs.Map.{MapRules}
use Rattle.guest_map.specs.declared.map.GuestMap.{GuestMap}
use Rattle.guest_map.specs.Fields.{low_bytes}

-- a memory descriptor: type, padding, physical start, virtual start, number of pages, attribute (UEFI)
unfoldable pub descriptor_bytes : Descriptor → List ℕ
descriptor_bytes d =
    low_bytes 4 d.kind ++ low_bytes 4 0 ++ low_bytes 8 d.start ++ low_bytes 8 0
    ++ low_bytes 8 d.pages ++ low_bytes 8 0

-- the number of a host record's level
abbrev pub level_number : Level → ℕ
level_number Small = 0
level_number Large = 1
level_number Huge = 2

-- a host record: its start and its length in bytes, and its level
unfoldable pub host_bytes : HostRun → List ℕ
host_bytes h =
    low_bytes 8 (h.pages.first * PAGE_BYTES) ++ low_bytes 8 (h.pages.count * PAGE_BYTES)
    ++ low_bytes 4 (level_number h.level)

-- what stands before the descriptors: the bytes GMAP, the size of a descriptor, the version, and
-- the count of descriptors
unfoldable pub header_bytes : ℕ → List ℕ
header_bytes count = low_bytes 4 0x50414d47 ++ low_bytes 4 40 ++ low_bytes 4 1 ++ low_bytes 4 count

unfoldable pub map_bytes : GuestMap → List ℕ
map_bytes map =
    header_bytes (length map.descriptors) ++ flat_map descriptor_bytes map.descriptors
    ++ low_bytes 4 (length map.hosts) ++ flat_map host_bytes map.hosts

-- the maps that have a file
pub record HasFile (map : GuestMap) : Type 0 where
  pub rules : MapRules map.descriptors map.hosts
  pub descriptors : length map.descriptors ≤ MAX_DESCRIPTORS
  pub hosts : length map.hosts ≤ MAX_HOSTS
