use Rattle.std.specs.Prelude.{ℕ, List, ◌≡◌, ◌⊎◌, ◌^◌, ◌<◌, ◌≤◌, length, sum_by, All}
use Rattle.guest_base.specs.declared.limits.TheConstants.{MAX_COMMANDS, MAX_NAMED_BYTES, MAX_HEX_BYTES, MAX_ORDER}
use Rattle.event_core.specs.declared.command.Command.{Command}
use Rattle.event_core.specs.declared.command.Command.TheVariants.{Alloc, Free, Accept, Query, Read, Write, Fill, Load, Share, Private, Giveback, Map, SyncDev, SyncCpu, Unmap, DRead, DWrite, HostRead, HostWrite}
use Rattle.event_core.specs.Name.{IsName}

-- The scripts that a command file can tell (own rule): the limits of a file's fields.

-- a number of a file
abbrev pub IsNumber : ℕ → Type 0
IsNumber n = n < 2 ^ 64

-- bytes that are written out are 1 to 262,144
pub record IsHex (hex : List ℕ) : Type 0 where
  pub some : 1 ≤ length hex
  pub few : length hex ≤ MAX_HEX_BYTES
  pub each : All (λ b. b < 256) hex

-- a mask keeps no bit of an address, or those below a page
abbrev pub IsMask : ℕ → Type 0
IsMask mask = (mask ≡ 0) ⊎ (mask ≡ 4095)

-- the fields of a command keep the limits
abbrev pub IsReadable : Command → Type 0
IsReadable (Alloc name order) = IsName name × (order ≤ MAX_ORDER)
IsReadable (Free name) = IsName name
IsReadable (Accept start len) = IsNumber start × IsNumber len
IsReadable (Query start len) = IsNumber start × IsNumber len
IsReadable (Read name off len) = IsName name × IsNumber off × IsNumber len
IsReadable (Write name off hex) = IsName name × IsNumber off × IsHex hex
IsReadable (Fill name off len byte) = IsName name × IsNumber off × IsNumber len × (byte < 256)
IsReadable (Load name off) = IsName name × IsNumber off
IsReadable (Share name) = IsName name
IsReadable (Private name) = IsName name
IsReadable (Giveback name) = IsName name
IsReadable (Map mapping name off len direction mask) = IsName mapping × IsName name × IsNumber off × IsNumber len × IsMask mask
IsReadable (SyncDev mapping off len) = IsName mapping × IsNumber off × IsNumber len
IsReadable (SyncCpu mapping off len) = IsName mapping × IsNumber off × IsNumber len
IsReadable (Unmap mapping skip) = IsName mapping
IsReadable (DRead mapping off len) = IsName mapping × IsNumber off × IsNumber len
IsReadable (DWrite mapping off hex) = IsName mapping × IsNumber off × IsHex hex
IsReadable (HostRead off len) = IsNumber off × IsNumber len
IsReadable (HostWrite off hex) = IsNumber off × IsHex hex

-- the bytes that a command names
abbrev pub bytes_named : Command → ℕ
bytes_named (Read name off len) = len
bytes_named (Write name off hex) = length hex
bytes_named (Fill name off len byte) = len
bytes_named (Map mapping name off len direction mask) = len
bytes_named (SyncDev mapping off len) = len
bytes_named (SyncCpu mapping off len) = len
bytes_named (DRead mapping off len) = len
bytes_named (DWrite mapping off hex) = length hex
bytes_named (HostRead off len) = len
bytes_named (HostWrite off hex) = length hex
bytes_named _ = 0

-- A script that can be read: it has few enough commands, each of them can be written, and together they name few enough bytes.
pub record ReadableScript (script : List Command) : Type 0 where
  pub few : length script ≤ MAX_COMMANDS
  pub each : All IsReadable script
  pub named : sum_by bytes_named script ≤ MAX_NAMED_BYTES
