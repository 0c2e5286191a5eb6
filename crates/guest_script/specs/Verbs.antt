use Rattle.std.specs.Prelude.{ℕ, List, [], ◌∷◌, codes, if◌then◌else◌, Option, Some, None, option_map}
use Rattle.std.specs.Option.{option_or}
use Rattle.std.specs.Str.{bytes_eq}
use Rattle.guest_script.specs.declared.verb.Verb.{Verb}
use Rattle.guest_script.specs.declared.verb.Verb.TheVariants as verb
use Rattle.guest_script.specs.declared.verb.MemoryVerb.{MemoryVerb}
use Rattle.guest_script.specs.declared.verb.MemoryVerb.TheVariants as memory
use Rattle.guest_script.specs.declared.verb.BlockVerb.{BlockVerb}
use Rattle.guest_script.specs.declared.verb.BlockVerb.TheVariants as block
use Rattle.guest_script.specs.declared.verb.PoolVerb.{PoolVerb}
use Rattle.guest_script.specs.declared.verb.PoolVerb.TheVariants as pool

-- what stands beside a word in a table
abbrev pub beside : {V : Type 0} → List ℕ → List (List ℕ × V) → Option V
beside word [] = None
beside word (entry ∷ entries) = if bytes_eq word entry.0 then Some entry.1 else beside word entries

-- the words of the commands of memory
abbrev pub memory_words : List (List ℕ × MemoryVerb)
memory_words =
    (codes "alloc", memory.Alloc) ∷ (codes "free", memory.Free) ∷ (codes "accept", memory.Accept) ∷ (codes "query", memory.Query)
    ∷ (codes "share", memory.Share) ∷ (codes "private", memory.Private)
    ∷ (codes "giveback", memory.Giveback) ∷ []

-- those of the commands of a block's bytes
abbrev pub block_words : List (List ℕ × BlockVerb)
block_words = (codes "read", block.Read) ∷ (codes "write", block.Write) ∷ (codes "fill", block.Fill) ∷ (codes "load", block.Load) ∷ []

-- those of the commands of the pool, its device and its host
abbrev pub pool_words : List (List ℕ × PoolVerb)
pool_words =
    (codes "map", pool.Map) ∷ (codes "syncdev", pool.SyncDev) ∷ (codes "synccpu", pool.SyncCpu) ∷ (codes "unmap", pool.Unmap)
    ∷ (codes "dread", pool.DRead) ∷ (codes "dwrite", pool.DWrite) ∷ (codes "hostread", pool.HostRead) ∷ (codes "hostwrite", pool.HostWrite) ∷ []

-- what a command's first word asks
unfoldable pub verb_of : List ℕ → Option Verb
verb_of word =
    option_or (option_map (λ v. verb.Memory v) (beside word memory_words))
    (option_or (option_map (λ v. verb.Block v) (beside word block_words)) (option_map (λ v. verb.Pool v) (beside word pool_words)))
