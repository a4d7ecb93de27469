-- What the single board means as a memory.
use Rattle.std.specs.Prelude.{ℕ, cond, not, ◌&&◌, List, length, ◌==◌, slice_index}
use Rattle.memory.specs.Memories.{Mem, in_set}

abbrev pub single_size : ℕ
single_size = 65536

-- The bytes of the buffer, and every page that is not sealed takes writes; on a buffer of another length zeros, and no page does.
abbrev pub single_mem : List ℕ → ℕ → Mem
single_mem buffer sealed = record {
  byte = λ k. cond (length buffer == single_size) (slice_index buffer k) 0;
  takes = λ p. (length buffer == single_size) && not (in_set sealed p);
}
