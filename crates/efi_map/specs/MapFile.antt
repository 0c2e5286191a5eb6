-- The map file, from left to right, with the first refusal that is met. Numbers are little endian. The fields of a descriptor are
-- those of a UEFI memory descriptor; all else is this project's own.
use Rattle.std.specs.Prelude.{◌≡◌, ◌⊎◌, ℕ, zero, suc, ◌+◌, ◌-◌, ◌/◌, ◌%◌, ◌^◌, Bool, ◌&&◌, ◌==◌, nat_lt, nat_le, List, [], ◌∷◌, ◌++◌, length, drop, filter, sum_by, max, min, position, Option, Some, None, Result, Ok, Err, if◌then◌else◌, not}
use Rattle.std.specs.List.{list_any}
use Rattle.std.specs.Option.{option_map}
use Rattle.guest_base.specs.declared.memory.Level.{Level}
use Rattle.guest_base.specs.declared.memory.Level.TheVariants.{Small, Large, Huge}
use Rattle.guest_base.specs.declared.memory.HostRun.{HostRun}
use Rattle.event_core.specs.declared.boot.Descriptor.{Descriptor}
use Rattle.event_core.specs.Map.{is_ram, ram_pages, descriptor_end}
use Rattle.efi_map.specs.declared.fault.MapFault.{MapFault}
use Rattle.efi_map.specs.declared.fault.MapFault.TheVariants.{Short, BadMagic, BadSize, BadVersion, TooMany, Unaligned, TooHigh, Overlap, TooMuchRam, BadHost, Trailing, NoMemory}
use Rattle.guest_map.specs.declared.map.GuestMap.{GuestMap}
use Rattle.guest_map.specs.Fields.{number, refuse, unless}
use Rattle.guest_base.specs.declared.limits.TheConstants.{PAGE_BYTES, ADDRESS_END, MAX_RAM_PAGES, MAX_DESCRIPTORS}

infixl 10 ◌>>=◌
abbrev pub ◌>>=◌ : {A B : Type 0} → Result A MapFault → (A → Result B MapFault) → Result B MapFault
(Ok x) >>= f = f x
(Err e) >>= f = Err e

-- What a function returned, seen by view, is what reading gives, unless memory ran out.
abbrev pub Gives : {X Y : Type 0} → (X → Y) → Result X MapFault → Result Y MapFault → Type 0
Gives view (Ok x) read = read ≡ Ok (view x)
Gives view (Err e) read = (e ≡ NoMemory) ⊎ (read ≡ Err e)

-- A field is a value and the bytes after it. `size` is the length of the whole file, which a
-- refusal says where the file ends too early.
abbrev pub word_at : ℕ → List ℕ → Result (ℕ × List ℕ) MapFault
word_at size bytes = if nat_lt (length bytes) 4 then Err (Short size) else Ok (number 4 bytes, drop 4 bytes)

-- the magic, the bytes GMAP, which are this number
unfoldable pub magic_at : ℕ → List ℕ → Result (List ℕ) MapFault
magic_at size bytes = do
  magic ← word_at size bytes
  if magic.0 == 0x50414d47 then Ok magic.1 else Err BadMagic

-- the bytes from one descriptor to the next: 40 to 256, and a multiple of 8
abbrev pub is_stride : ℕ → Bool
is_stride stride = nat_le 40 stride && (nat_le stride 256 && (stride % 8 == 0))

unfoldable pub stride_at : ℕ → List ℕ → Result (ℕ × List ℕ) MapFault
stride_at size bytes = do
  stride ← word_at size bytes
  if is_stride stride.0 then Ok stride else Err (BadSize stride.0)

-- the version is 1
unfoldable pub version_at : ℕ → List ℕ → Result (List ℕ) MapFault
version_at size bytes = do
  version ← word_at size bytes
  if version.0 == 1 then Ok version.1 else Err (BadVersion version.0)

-- the count of descriptors, or that of host records: at most 4,096
unfoldable pub count_at : ℕ → List ℕ → Result (ℕ × List ℕ) MapFault
count_at size bytes = do
  count ← word_at size bytes
  if nat_le count.0 MAX_DESCRIPTORS then Ok count else Err (TooMany count.0)

-- a descriptor's type, its start and its number of pages; the other fields, and what stands behind them, are ignored
unfoldable pub descriptor_at : ℕ → ℕ → List ℕ → Result (Descriptor × List ℕ) MapFault
descriptor_at size stride bytes =
    if nat_lt (length bytes) stride then Err (Short size)
    else Ok (record { kind = number 4 bytes; start = number 8 (drop 8 bytes); pages = number 8 (drop 24 bytes) }, drop stride bytes)

-- a descriptor without pages is neither checked nor kept
abbrev pub has_pages : Descriptor → Bool
has_pages d = nat_lt 0 d.pages

-- RAM ends within 2^40, and all else within 2^64
abbrev pub end_limit : Descriptor → ℕ
end_limit d = if is_ram d then ADDRESS_END else 2 ^ 64

-- two descriptors have a byte in common: the later start is below the earlier end
abbrev pub meet : Descriptor → Descriptor → Bool
meet a b = nat_lt (max a.start b.start) (min (descriptor_end a) (descriptor_end b))

-- a descriptor of this number meets an earlier one, of which the first is named; else what the
-- checks behind it say
abbrev pub overlap : ℕ → Option ℕ → Option MapFault → Option MapFault
overlap number (Some earlier) others = Some (Overlap earlier number)
overlap number None others = others

-- What is wrong with a descriptor, behind those that stand before it, whose count is its number:
-- it doesn't start on a page, it ends too high, it meets an earlier one, or the RAM of all of them
-- is above 64 GiB together with its own.
unfoldable pub descriptor_fault : List Descriptor → Descriptor → Option MapFault
descriptor_fault before d =
    if has_pages d
    then
    refuse (Unaligned (length before)) (not (d.start % PAGE_BYTES == 0))
    (refuse (TooHigh (length before)) (nat_lt (end_limit d) (descriptor_end d))
    (overlap (length before) (position (meet d) before)
    (refuse TooMuchRam (nat_lt MAX_RAM_PAGES (sum_by ram_pages before + ram_pages d)) None)))
    else None

-- the next descriptors, this many of them, behind those that stand before them
unfoldable pub descriptors_at : ℕ → ℕ → ℕ → List Descriptor → List ℕ → Result (List Descriptor × List ℕ) MapFault
descriptors_at size stride zero before bytes = Ok (before, bytes)
descriptors_at size stride (suc count) before bytes = do
  d ← descriptor_at size stride bytes
  next ← unless (descriptor_fault before d.0) (before ++ d.0 ∷ [])
  descriptors_at size stride count next d.1

-- the level of a host record: 0 is Small, 1 is Large and 2 is Huge
abbrev pub level_of : ℕ → Option Level
level_of zero = Some Small
level_of (suc zero) = Some Large
level_of (suc (suc zero)) = Some Huge
level_of (suc (suc (suc n))) = None

-- bytes that are whole pages, and lie below 2^40
abbrev pub are_pages : ℕ → ℕ → Bool
are_pages start len =
    (start % PAGE_BYTES == 0)
    && ((len % PAGE_BYTES == 0) && (nat_lt 0 len && nat_le (start + len) ADDRESS_END))

-- the record of these bytes, where it is one
unfoldable pub host_record : ℕ → ℕ → ℕ → Option HostRun
host_record start len level =
    if are_pages start len
    then
    option_map
    (λ l. record { pages = record { first = start / PAGE_BYTES; count = len / PAGE_BYTES }; level = l })
    (level_of level)
    else None

-- two host records have a page in common
abbrev pub hosts_meet : HostRun → HostRun → Bool
hosts_meet a b = nat_lt (max a.pages.first b.pages.first) (min (a.pages.first + a.pages.count) (b.pages.first + b.pages.count))

-- a record that meets none of those before it
abbrev pub host_behind : List HostRun → Option HostRun → Result HostRun MapFault
host_behind before None = Err (BadHost (length before))
host_behind before (Some h) = if list_any (hosts_meet h) before then Err (BadHost (length before)) else Ok h

unfoldable pub host_at : ℕ → List HostRun → List ℕ → Result (HostRun × List ℕ) MapFault
host_at size before bytes =
    if nat_lt (length bytes) 20 then Err (Short size)
    else (host_behind before (host_record (number 8 bytes) (number 8 (drop 8 bytes)) (number 4 (drop 16 bytes))) >>= λ h. Ok (h, drop 20 bytes))

-- the next host records, this many of them, behind those that stand before them
unfoldable pub hosts_at : ℕ → ℕ → List HostRun → List ℕ → Result (List HostRun × List ℕ) MapFault
hosts_at size zero before bytes = Ok (before, bytes)
hosts_at size (suc count) before bytes = do
  h ← host_at size before bytes
  hosts_at size count (before ++ h.0 ∷ []) h.1

-- what stands before the descriptors: their stride and their number
unfoldable pub header_at : ℕ → List ℕ → Result (ℕ × ℕ × List ℕ) MapFault
header_at size bytes = do
  a ← magic_at size bytes
  stride ← stride_at size a
  b ← version_at size stride.1
  count ← count_at size b
  Ok (stride.0, count.0, count.1)

-- the descriptors, those without pages too, and the bytes after them
unfoldable pub all_descriptors_at : ℕ → List ℕ → Result (List Descriptor × List ℕ) MapFault
all_descriptors_at size bytes = do
  header ← header_at size bytes
  descriptors_at size header.0 header.1 [] header.2

unfoldable pub all_hosts_at : ℕ → List ℕ → Result (List HostRun × List ℕ) MapFault
all_hosts_at size bytes = do
  count ← count_at size bytes
  hosts_at size count.0 [] count.1

-- the map of a whole file: nothing stands behind the host records
unfoldable pub map_of : List ℕ → Result GuestMap MapFault
map_of bytes = do
  ds ← all_descriptors_at (length bytes) bytes
  hs ← all_hosts_at (length bytes) ds.1
  if length hs.1 == 0 then Ok (record { descriptors = filter has_pages ds.0; hosts = hs.0 }) else Err (Trailing (length bytes - length hs.1))
