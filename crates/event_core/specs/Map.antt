use Rattle.std.specs.Prelude.{ℕ, List, Option, None, Some, Bool, ◌≡◌, ◌≢◌, ◌+◌, ◌*◌, ◌/◌, ◌%◌, ◌^◌, ◌<◌, ◌≤◌, ◌&&◌, ◌||◌, ◌==◌, nat_le, true, sum_by, All, if◌then◌else◌}
use Rattle.std.specs.List.{list_any, AllPairs}
use Rattle.guest_base.specs.declared.limits.TheConstants.{PAGE_BYTES, ADDRESS_END, PAGE_END}
use Rattle.guest_base.specs.Ranges.{in_range}
use Rattle.guest_base.specs.declared.memory.PageState.{PageState}
use Rattle.guest_base.specs.declared.memory.PageState.TheVariants.{Pending, Accepted}
use Rattle.guest_base.specs.declared.memory.HostRun.{HostRun}
use Rattle.event_core.specs.declared.boot.Descriptor.{Descriptor}

-- Unaccepted memory (UEFI 2.9, memory type 15)
abbrev pub is_unaccepted : Descriptor → Bool
is_unaccepted d = d.kind == 15

-- RAM is loader code and data, boot services code and data, conventional and unaccepted memory (UEFI memory types 1, 2, 3, 4, 7 and 15)
abbrev pub is_ram : Descriptor → Bool
is_ram d = (nat_le 1 d.kind && nat_le d.kind 4) || ((d.kind == 7) || (d.kind == 15))

-- the page lies in the descriptor
abbrev pub holds_page : ℕ → Descriptor → Bool
holds_page page d = in_range (d.start / PAGE_BYTES) d.pages page

-- the page lies in unaccepted memory, or in RAM
abbrev pub unaccepted_page : List Descriptor → ℕ → Bool
unaccepted_page map page = list_any (λ d. is_unaccepted d && holds_page page d) map

abbrev pub ram_page : List Descriptor → ℕ → Bool
ram_page map page = list_any (λ d. is_ram d && holds_page page d) map

-- the state that a page has by the map alone: Pending where its descriptor is unaccepted, Accepted where it is other RAM,
-- and none where it isn't RAM
abbrev pub first_state : List Descriptor → ℕ → Option PageState
first_state map page = if unaccepted_page map page then Some Pending else (if ram_page map page then Some Accepted else None)

-- the end of a descriptor, in bytes
abbrev pub descriptor_end : Descriptor → ℕ
descriptor_end d = d.start + PAGE_BYTES * d.pages

-- the pages of RAM that a descriptor gives
abbrev pub ram_pages : Descriptor → ℕ
ram_pages d = if is_ram d then d.pages else 0

-- what holds of each descriptor of a map that is kept: it has pages, begins on a page, and ends within 2^40 where it is RAM, else within 2^64
pub record IsDescriptor (d : Descriptor) : Type 0 where
  pub kind : d.kind < 2 ^ 32
  pub some : 0 < d.pages
  pub aligned : d.start % PAGE_BYTES ≡ 0
  pub below : descriptor_end d ≤ (if is_ram d then ADDRESS_END else 2 ^ 64)

-- two descriptors have no byte in common
abbrev pub AreApart : Descriptor → Descriptor → Type 0
AreApart a b = (byte : ℕ) → in_range a.start (PAGE_BYTES * a.pages) byte ≡ true → in_range b.start (PAGE_BYTES * b.pages) byte ≢ true

-- what holds of each host record: it has pages and ends within 2^28 pages
abbrev pub IsHostRecord : HostRun → Type 0
IsHostRecord h = (0 < h.pages.count) × (h.pages.first + h.pages.count ≤ PAGE_END)

-- two host records have no page in common
abbrev pub AreHostsApart : HostRun → HostRun → Type 0
AreHostsApart a b = (page : ℕ) → in_range a.pages.first a.pages.count page ≡ true → in_range b.pages.first b.pages.count page ≢ true

-- the rules of a map (UEFI memory descriptors; the bounds are this project's own)
pub record MapRules (map : List Descriptor) (hosts : List HostRun) : Type 0 where
  pub each : All IsDescriptor map
  pub apart : AllPairs AreApart map
  pub ram : sum_by ram_pages map ≤ 2 ^ 24
  pub each_host : All IsHostRecord hosts
  pub hosts_apart : AllPairs AreHostsApart hosts
