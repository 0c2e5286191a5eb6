use Rattle.std.specs.Prelude.{ℕ, true, false, List, [], ◌∷◌, codes, if◌then◌else◌, Option, Some, None, Result, Ok, Err}
use Rattle.std.specs.Str.{bytes_eq}
use Rattle.event_core.specs.declared.command.Command.{Command}
use Rattle.event_core.specs.declared.command.Command.TheVariants as command
use Rattle.guest_script.specs.declared.verb.Verb.{Verb}
use Rattle.guest_script.specs.declared.verb.Verb.TheVariants as verb
use Rattle.guest_script.specs.declared.verb.MemoryVerb.{MemoryVerb}
use Rattle.guest_script.specs.declared.verb.MemoryVerb.TheVariants as memory
use Rattle.guest_script.specs.declared.verb.BlockVerb.{BlockVerb}
use Rattle.guest_script.specs.declared.verb.BlockVerb.TheVariants as block
use Rattle.guest_script.specs.declared.verb.PoolVerb.{PoolVerb}
use Rattle.guest_script.specs.declared.verb.PoolVerb.TheVariants as pool
use Rattle.guest_script.specs.declared.fault.Why.{Why}
use Rattle.guest_script.specs.declared.fault.Why.TheVariants.{Word, Arity}
use Rattle.guest_script.specs.Arguments.{◌>>=◌, name_at, number_at, byte_at, mask_at, direction_at, one_name, two_numbers, name_order, name_offset, name_range, name_hex, offset_hex}
use Rattle.guest_script.specs.Verbs.{verb_of}

-- fill NAME OFF LEN BYTE
unfoldable pub fill_of : List (List ℕ) → Result Command Why
fill_of (name ∷ off ∷ len ∷ byte ∷ []) = do
  n ← name_at name
  o ← number_at off
  l ← number_at len
  b ← byte_at byte
  Ok (command.Fill n o l b)
fill_of [] = Err Arity
fill_of (name ∷ []) = Err Arity
fill_of (name ∷ off ∷ []) = Err Arity
fill_of (name ∷ off ∷ len ∷ []) = Err Arity
fill_of (name ∷ off ∷ len ∷ byte ∷ more ∷ others) = Err Arity

-- map M NAME OFF LEN DIRECTION
unfoldable pub mapping_of : List ℕ → List ℕ → List ℕ → List ℕ → List ℕ → Result (ℕ → Command) Why
mapping_of mapping name off len direction = do
  m ← name_at mapping
  n ← name_at name
  o ← number_at off
  l ← number_at len
  d ← direction_at direction
  Ok (λ mask. command.Map m n o l d mask)

-- map M NAME OFF LEN DIRECTION [MASK]; the mask is 0 where none is given
unfoldable pub map_of : List (List ℕ) → Result Command Why
map_of (mapping ∷ name ∷ off ∷ len ∷ direction ∷ []) = do
  made ← mapping_of mapping name off len direction
  Ok (made 0)
map_of (mapping ∷ name ∷ off ∷ len ∷ direction ∷ mask ∷ []) = do
  made ← mapping_of mapping name off len direction
  m ← mask_at mask
  Ok (made m)
map_of [] = Err Arity
map_of (mapping ∷ []) = Err Arity
map_of (mapping ∷ name ∷ []) = Err Arity
map_of (mapping ∷ name ∷ off ∷ []) = Err Arity
map_of (mapping ∷ name ∷ off ∷ len ∷ []) = Err Arity
map_of (mapping ∷ name ∷ off ∷ len ∷ direction ∷ mask ∷ more ∷ others) = Err Arity

-- unmap M [skip]
unfoldable pub unmap_of : List (List ℕ) → Result Command Why
unmap_of (mapping ∷ []) = do
  m ← name_at mapping
  Ok (command.Unmap m false)
unmap_of (mapping ∷ skip ∷ []) = do
  m ← name_at mapping
  if bytes_eq skip (codes "skip") then Ok (command.Unmap m true) else Err Word
unmap_of [] = Err Arity
unmap_of (mapping ∷ skip ∷ more ∷ others) = Err Arity

-- the commands of memory, by their arguments
unfoldable pub memory_command : MemoryVerb → List (List ℕ) → Result Command Why
memory_command memory.Alloc words = name_order words >>= λ a. Ok (command.Alloc a.0 a.1)
memory_command memory.Free words = one_name words >>= λ name. Ok (command.Free name)
memory_command memory.Accept words = two_numbers words >>= λ a. Ok (command.Accept a.0 a.1)
memory_command memory.Query words = two_numbers words >>= λ a. Ok (command.Query a.0 a.1)
memory_command memory.Share words = one_name words >>= λ name. Ok (command.Share name)
memory_command memory.Private words = one_name words >>= λ name. Ok (command.Private name)
memory_command memory.Giveback words = one_name words >>= λ name. Ok (command.Giveback name)

-- the commands of a block's bytes
unfoldable pub block_command : BlockVerb → List (List ℕ) → Result Command Why
block_command block.Read words = name_range words >>= λ a. Ok (command.Read a.0 a.1 a.2)
block_command block.Write words = name_hex words >>= λ a. Ok (command.Write a.0 a.1 a.2)
block_command block.Fill words = fill_of words
block_command block.Load words = name_offset words >>= λ a. Ok (command.Load a.0 a.1)

-- the commands of the pool, its device and its host
unfoldable pub pool_command : PoolVerb → List (List ℕ) → Result Command Why
pool_command pool.Map words = map_of words
pool_command pool.SyncDev words = name_range words >>= λ a. Ok (command.SyncDev a.0 a.1 a.2)
pool_command pool.SyncCpu words = name_range words >>= λ a. Ok (command.SyncCpu a.0 a.1 a.2)
pool_command pool.Unmap words = unmap_of words
pool_command pool.DRead words = name_range words >>= λ a. Ok (command.DRead a.0 a.1 a.2)
pool_command pool.DWrite words = name_hex words >>= λ a. Ok (command.DWrite a.0 a.1 a.2)
pool_command pool.HostRead words = two_numbers words >>= λ a. Ok (command.HostRead a.0 a.1)
pool_command pool.HostWrite words = offset_hex words >>= λ a. Ok (command.HostWrite a.0 a.1)

-- the command of a word and its arguments, where the word is one of a command
unfoldable pub command_at : Option Verb → List (List ℕ) → Result Command Why
command_at None words = Err Word
command_at (Some (verb.Memory v)) words = memory_command v words
command_at (Some (verb.Block v)) words = block_command v words
command_at (Some (verb.Pool v)) words = pool_command v words

-- the command of a line's first word and the words after it
abbrev pub command_of : List ℕ → List (List ℕ) → Result Command Why
command_of first words = command_at (verb_of first) words
