-- The bytes of a block, by the runs that were laid over one another.
use Rattle.std.specs.Prelude.{◌≡◌, ℕ, ◌+◌, ◌≤◌, ◌&&◌, Bool, nat_le, List, [], ◌∷◌, length, slice_index}
use Rattle.std.specs.List.{filter, repeat}
use Rattle.event_core.specs.Bytes.{written, zeros}
use Rattle.sparse_bytes.specs.declared.run.Content.{Content}
use Rattle.sparse_bytes.specs.declared.run.Content.TheVariants.{Filled, Written}
use Rattle.sparse_bytes.specs.declared.run.Run.{Run}

-- what contracts see of a block's bytes: the runs, the latest last, and how many more can be laid with no further memory
pub record Laid : Type 0 where
  pub runs : List Run
  pub room : ℕ

-- the bytes of a run, in order
abbrev pub bytes_in : Content → List ℕ
bytes_in (Filled len byte) = repeat len (byte ∷ [])
bytes_in (Written bytes) = bytes

-- the byte at each place after runs were laid in turn over what was there
abbrev pub laid_over : (ℕ → ℕ) → List Run → ℕ → ℕ
laid_over before [] = before
laid_over before (run ∷ rest) = laid_over (written before run.start (bytes_in run.content)) rest

-- the byte number k of those that stand from a place on, after a run was laid over them
abbrev pub laid_at : Run → ℕ → List ℕ → ℕ → ℕ
laid_at run at bytes k =
    written (λ _. slice_index bytes k) run.start (bytes_in run.content) (at + k)

-- the byte at each place of the block, counted from its first byte: zero where nothing was laid
abbrev pub byte_of : Laid → ℕ → ℕ
byte_of block = laid_over zeros block.runs

-- the bytes that a run keeps in memory of its own: none where it is filled
abbrev pub kept_in : Content → ℕ
kept_in (Filled len byte) = 0
kept_in (Written bytes) = length bytes

-- the bytes that all runs keep
abbrev pub kept_of : List Run → ℕ
kept_of [] = 0
kept_of (run ∷ rest) = kept_in run.content + kept_of rest

-- every place of a run lies in a range
abbrev pub is_covered : ℕ → ℕ → Run → Bool
is_covered at len run =
    nat_le at run.start && nat_le (run.start + length (bytes_in run.content)) (at + len)

-- Bytes were written from a place on, `kept` of which take memory of their own.
pub record Wrote (at : ℕ) (more : List ℕ) (kept : ℕ) (old new : List Run) : Type 0 where
  -- these bytes stand there now, and every other byte is as before
  pub bytes : (place : ℕ) → laid_over zeros new place ≡ written (laid_over zeros old) at more place
  -- there is at most one run more, and no more bytes are kept than these
  pub count : length new ≤ length old + 1
  pub memory : kept_of new ≤ kept_of old + kept
  -- of the runs that lie in this range, at most one is left
  pub alone : length (filter (is_covered at (length more)) new) ≤ 1
